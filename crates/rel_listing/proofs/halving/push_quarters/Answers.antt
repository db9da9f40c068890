use Rattle.std.proofs.Common.{arith}
use Rattle.rel_model.specs.Trees.{top_height}
use Rattle.rel_listing.proofs.halving.push_quarters.Goals as goal

pub side_of-requires : goal.side_of-requires
unfolding top_height
side_of-requires g c = let h = g.met.Q.Quads.high_height c.quarters.new.self c.quarters.result.nw c.quarters.ensures.quarters.nw in omega (arith, h)
