use Rattle.std.proofs.Common.{◌<◌, ◌-◌, ◌^◌}
use Rattle.fork_quads.proofs.roots.height_of_tree.Given as goal

abbrev pub invariant-heights : goal.invariant-heights
invariant-heights l = 3 < l.height → 2 ^ (l.height - 1) < l.most
