use Rattle.std.proofs.Common.{◌≡◌, ◌<◌, ℕ, false}
use Rattle.rel_model.specs.Cells.{bits_cells}
use Rattle.rel_choice.specs.Lines.{passes_twice}
use Rattle.rel_choice.proofs.leaf.leaf_is_single.Given as goal

-- no row so far has two cells
abbrev pub invariant-rows : goal.invariant-rows
invariant-rows l = (x : ℕ) → x < l.row → passes_twice l.fn.side (bits_cells l.fn.side l.fn.bits x) ≡ false
