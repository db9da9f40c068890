use Rattle.std.proofs.Common.{◌∙◌, sym}
use Rattle.rel_model.specs.Trees.{top_height}
use Rattle.rel_model.proofs.QuadLaws.{side_of-power}
use Rattle.quad_nodes.proofs.sides.side_of_height.Goals as goal

pub side_of-requires : goal.side_of-requires
unfolding top_height
side_of-requires c = c.requires.high

pub returns : goal.returns
returns c = c.side_of.ensures ∙ sym (side_of-power c.args.height c.requires.low)
