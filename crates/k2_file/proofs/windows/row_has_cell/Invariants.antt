use Rattle.std.proofs.Common.{◌≡◌, false}
use Rattle.rel_model.specs.Cells.{some_below}
use Rattle.k2_file.specs.Squares.{window_cells}
use Rattle.k2_file.proofs.windows.row_has_cell.Given as goal

-- no cell so far is set
abbrev pub invariant-columns : goal.invariant-columns
invariant-columns l = some_below l.j (window_cells l.fn.side l.fn.window l.fn.i) ≡ false
