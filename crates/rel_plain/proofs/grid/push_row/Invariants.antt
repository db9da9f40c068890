use Rattle.std.proofs.Common.{◌≡◌, ◌++◌, map}
use Rattle.std.specs.List.{range_with_len}
use Rattle.rel_plain.proofs.grid.push_row.Given as goal

abbrev pub invariant-cols : goal.invariant-cols
invariant-cols l = l.out.items ≡ l.fn.out.items ++ map (λ j. (l.i, j)) (range_with_len 0 l.j)
