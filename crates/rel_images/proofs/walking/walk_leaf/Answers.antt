use Rattle.rel_images.proofs.Words.{leaf-side}
use Rattle.rel_images.proofs.walking.walk_leaf.Goals as goal

pub leaf_image-requires : goal.leaf_image-requires
leaf_image-requires g c = record { small = leaf-side c.args.quad.height g.Q.Core.least c.side_of-side.result c.requires.leaf g.met.Q.Quads.least_limit c.side_of-side.ensures }

pub add_line-requires-clause-small : goal.add_line-requires-clause-small
add_line-requires-clause-small g c = leaf-side c.args.quad.height g.Q.Core.least c.side_of-side.result c.requires.leaf g.met.Q.Quads.least_limit c.side_of-side.ensures
