use Rattle.rel_model.specs.Trees.{bottom_height}
use Rattle.fork_quads.proofs.Crewing.{keeps_reading}
use Rattle.fork_quads.proofs.Quartering.{stands_inside, quarters_give}
use Rattle.fork_quads.proofs.squares.CrewQuads.quarters.Goals as goal

pub quarters-requires : goal.quarters-requires
unfolding bottom_height
quarters-requires g c = record { stands = stands_inside c.args.self.now c.self.inside.nodes c.args.q c.self.view_is c.requires.stands; over = c.requires.over }

pub returns-clause-quarters : goal.returns-clause-quarters
returns-clause-quarters g c = quarters_give c.args.self.now c.self.inside.nodes c.quarters.new.self c.args.q c.quarters.result c.self.view_is c.requires.stands c.quarters.ensures.reads c.quarters.ensures.quarters

pub returns-clause-keeps : goal.returns-clause-keeps
returns-clause-keeps g c = keeps_reading c.args.self.now c.self.inside.nodes c.quarters.new.self c.self.view_is c.quarters.ensures.reads
