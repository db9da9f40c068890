use Rattle.std.proofs.Common.{length, ◌-◌, ◌≡◌, ◌≤◌, ◌+◌, ◌++◌, drop}
use Rattle.rel_plain.proofs.Merging.{merge}
use Rattle.rel_plain.proofs.merge.merged.Given as goal

-- what was pushed and what is left to merge make the whole
abbrev pub invariant-pairs : goal.invariant-pairs
invariant-pairs l = record {
  in_xs : l.i ≤ length l.xs;
  in_ys : l.j ≤ length l.ys;
  so_far : l.out.items ++ merge l.part (drop l.i l.xs) (drop l.j l.ys) ≡ merge l.part l.xs l.ys;
}

abbrev pub decreases-pairs : goal.decreases-pairs
decreases-pairs l = (length l.xs - l.i) + (length l.ys - l.j)
