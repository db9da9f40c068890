use Rattle.std.proofs.Common.{◌≤◌, ◌*◌}
use Rattle.bit_rows.proofs.tables.has_many_cells.Given as goal

abbrev pub invariant-rows : goal.invariant-rows
invariant-rows l = l.cells ≤ 256 * l.i
