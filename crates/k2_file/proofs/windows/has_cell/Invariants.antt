use Rattle.std.proofs.Common.{◌≡◌, false}
use Rattle.rel_model.specs.Cells.{some_below}
use Rattle.k2_file.specs.Squares.{window_cells}
use Rattle.k2_file.proofs.windows.has_cell.Given as goal

-- no row so far has a cell
abbrev pub invariant-rows : goal.invariant-rows
invariant-rows l = some_below l.i (λ i. some_below l.fn.side (window_cells l.fn.side l.fn.window i)) ≡ false
