use Rattle.std.proofs.Common.{◌≡◌, ◌*◌, ◌||◌, ℕ, List}
use Rattle.bit_rows.specs.declared.row.Row.{Row}
use Rattle.bit_rows.specs.Rows.{row_has}
use Rattle.bit_rows.specs.Tables.{picks_first, AreTables}
use Rattle.bit_rows.proofs.tables.with_looked_up.Given as goal

abbrev pub invariant-groups : goal.invariant-groups
invariant-groups l = (rows : List Row) (from : ℕ) → AreTables rows from l.tables 256 → (j : ℕ) → row_has l.all j ≡ (row_has l.fn.sum j || picks_first (4 * l.g) rows from l.word j)
