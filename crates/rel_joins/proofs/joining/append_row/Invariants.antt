use Rattle.std.proofs.Common.{◌≡◌, ◌++◌, map, take}
use Rattle.rel_joins.proofs.joining.append_row.Given as goal

-- the pairs so far
abbrev pub invariant-pairs : goal.invariant-pairs
invariant-pairs l = l.joined.items ≡ l.fn.joined.items ++ map (λ q. (l.fn.i, q.1)) (take l.k-index l.fn.row)
