use Rattle.std.proofs.Common.{◌∙◌}
use Rattle.rel_model.specs.Trees.{bottom_height}
use Rattle.fork_quads.proofs.Crewing.{keeps_reading}
use Rattle.fork_quads.proofs.Quartering.{stands_inside, set_inside}
use Rattle.fork_quads.proofs.squares.CrewQuads.bits.Goals as goal

pub bits-requires : goal.bits-requires
unfolding bottom_height
bits-requires g c = record { stands = stands_inside c.args.self.now c.self.inside.nodes c.args.q c.self.view_is c.requires.stands; bottom = c.requires.leaf }

pub returns-clause-cells : goal.returns-clause-cells
returns-clause-cells g c = c.bits.ensures.cells ∙ set_inside c.args.self.now c.self.inside.nodes c.args.q c.self.view_is c.bits.ensures.reads.keeps.before c.requires.stands

pub returns-clause-keeps : goal.returns-clause-keeps
returns-clause-keeps g c = keeps_reading c.args.self.now c.self.inside.nodes c.bits.new.self c.self.view_is c.bits.ensures.reads
