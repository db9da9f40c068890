use Rattle.std.proofs.Common.{◌≡◌, ◌<◌, ℕ}
use Rattle.rel_slices.specs.Thin.{line_set}
use Rattle.rel_slices.proofs.comparing.lines_same.Given as goal

abbrev pub invariant-lines : goal.invariant-lines
invariant-lines g l = (k : ℕ) → k < l.i → line_set (g.C.Core.worker l.core) l.a k ≡ line_set (g.C.Core.worker l.core) l.b k
