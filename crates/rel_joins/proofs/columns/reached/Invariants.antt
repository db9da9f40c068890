use Rattle.std.proofs.Common.{◌≡◌, ◌<◌, ℕ, take}
use Rattle.bit_rows.specs.Rows.{row_has}
use Rattle.rel_joins.specs.Columns.{leads_to}
use Rattle.rel_joins.proofs.columns.reached.Given as goal

-- the pairs so far
abbrev pub invariant-pairs : goal.invariant-pairs
invariant-pairs l = (j : ℕ) → j < 256 → row_has l.all j ≡ leads_to l.fn.rows l.fn.col (take l.y-index l.fn.row) j
