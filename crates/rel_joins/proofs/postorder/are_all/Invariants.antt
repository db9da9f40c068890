use Rattle.std.proofs.Common.{◌≡◌, ◌<◌, ℕ, true, false, get_or}
use Rattle.rel_joins.proofs.postorder.are_all.Given as goal

-- the elements so far are marked
abbrev pub invariant-marks : goal.invariant-marks
invariant-marks l = (x : ℕ) → x < l.mark-index → get_or l.fn.marks x false ≡ true
