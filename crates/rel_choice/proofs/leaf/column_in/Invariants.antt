use Rattle.std.proofs.Common.{◌≡◌, ◌<◌, ◌≤◌, ℕ, false}
use Rattle.rel_model.specs.Cells.{bits_cells}
use Rattle.rel_choice.proofs.leaf.column_in.Given as goal

-- no column so far has a cell
abbrev pub invariant-columns : goal.invariant-columns
invariant-columns l = (x : ℕ) → l.fn.from ≤ x → x < l.column → bits_cells l.fn.side l.fn.bits l.fn.row x ≡ false
