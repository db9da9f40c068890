use Rattle.rel_model.specs.Trees.{bottom_height}
use Rattle.fork_quads.proofs.Crewing.{keeps_reading}
use Rattle.fork_quads.proofs.Quartering.{stands_inside, quarters_give}
use Rattle.fork_quads.proofs.squares.CrewQuads.quarters_ahead.Goals as goal

pub quarters_ahead-requires : goal.quarters_ahead-requires
unfolding bottom_height
quarters_ahead-requires g c = record { stands = stands_inside c.args.self.now c.self.inside.nodes c.args.q c.self.view_is c.requires.stands; over = c.requires.over }

pub returns-clause-quarters : goal.returns-clause-quarters
returns-clause-quarters g c = quarters_give c.args.self.now c.self.inside.nodes c.quarters_ahead.new.self c.args.q c.quarters_ahead.result c.self.view_is c.requires.stands c.quarters_ahead.ensures.reads c.quarters_ahead.ensures.quarters

pub returns-clause-keeps : goal.returns-clause-keeps
returns-clause-keeps g c = keeps_reading c.args.self.now c.self.inside.nodes c.quarters_ahead.new.self c.self.view_is c.quarters_ahead.ensures.reads
