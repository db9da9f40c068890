use Rattle.std.proofs.Common.{drop}
use Rattle.rel_joins.specs.Joins.{Joining}
use Rattle.rel_joins.proofs.joining.join_rows.Given as goal

-- the pairs of the first list so far
abbrev pub invariant-pairs : goal.invariant-pairs
invariant-pairs l = Joining l.fn.middle l.fn.left l.fn.right (drop l.i-index l.fn.left) l.joined.items
