use Rattle.std.proofs.Common.{◌+◌}
use Rattle.rel_model.specs.Cells.{bits_cells}
use Rattle.rel_listing.specs.Lists.{Adds}
use Rattle.rel_listing.specs.Strips.{laid}
use Rattle.rel_listing.proofs.RowSteps.{above_row}
use Rattle.rel_listing.proofs.rows.list_rows.Given as goal

-- the rows so far
abbrev pub invariant-rows : goal.invariant-rows
invariant-rows l = Adds (above_row (l.fn.row + l.i) (laid (bits_cells l.fn.side) l.fn.row l.fn.words)) l.fn.pairs.items l.pairs.items
