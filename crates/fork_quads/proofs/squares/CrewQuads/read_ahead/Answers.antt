use Rattle.fork_quads.proofs.Crewing.{keeps_reading}
use Rattle.fork_quads.proofs.Quartering.{stands_inside}
use Rattle.fork_quads.proofs.squares.CrewQuads.read_ahead.Goals as goal

pub read_ahead-requires : goal.read_ahead-requires
read_ahead-requires g c = record { stands = stands_inside c.args.self.now c.self.inside.nodes c.args.q c.self.view_is c.requires.stands }

pub returns-clause-keeps : goal.returns-clause-keeps
returns-clause-keeps g c = keeps_reading c.args.self.now c.self.inside.nodes c.read_ahead.new.self c.self.view_is c.read_ahead.ensures.reads
