use Rattle.std.proofs.Common.{◌≡◌, ◌<◌, ◌≤◌, ℕ, false}
use Rattle.rel_model.specs.Cells.{bits_cells}
use Rattle.rel_choice.specs.Leasts.{row_meets}
use Rattle.rel_choice.proofs.leaf.row_in.Given as goal

-- no row so far has a cell
abbrev pub invariant-rows : goal.invariant-rows
invariant-rows l = (x : ℕ) → l.fn.from ≤ x → x < l.row → row_meets l.fn.side (bits_cells l.fn.side l.fn.bits) x ≡ false
