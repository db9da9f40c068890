use Rattle.rel_images.proofs.Words.{leaf-side}
use Rattle.rel_images.proofs.naming.named_leaf.Goals as goal

pub line_block-requires : goal.line_block-requires
line_block-requires g c = record { small = leaf-side c.bottom.result g.Q.Core.least c.side_of-side.result c.bottom.ensures g.met.Q.Quads.least_limit c.side_of-side.ensures }
