use Rattle.std.proofs.Common.{◌≤◌, ◌^◌, arith}
use Rattle.std.proofs.Math.Pow.{pow_mono}
use Rattle.rel_model.specs.Trees.{top_height}
use Rattle.rel_domains.proofs.element.count_in.Goals as goal

pub side_of-side-requires : goal.side_of-side-requires
unfolding top_height
side_of-side-requires c = let l = c.requires in omega arith

pub has_element-requires-clause-side : goal.has_element-requires-clause-side
has_element-requires-clause-side c = let p : 2 ^ c.args.least ≤ 2 ^ 3 = pow_mono {i = c.args.least} {j = 3} c.requires in omega (arith, p, c.side_of-side.ensures)
