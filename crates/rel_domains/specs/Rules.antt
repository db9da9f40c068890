-- Sets of cells given by a rule on row and column, and their squares.
use Rattle.std.specs.Prelude.{◌==◌, ◌<◌, ◌≤◌, ◌+◌, ◌/◌, ◌%◌, ◌&&◌, nat_lt, ℕ, Bool}
use Rattle.std.specs.Int.{bit_at}
use Rattle.rel_model.specs.Relation.{size_limit, size_height}
use Rattle.rel_model.specs.Cells.{Cells}
use Rattle.rel_domains.specs.declared.rule.Rule.{Rule}
use Rattle.rel_domains.specs.declared.rule.Rule.TheVariants.{Shift, Quotient, Remainder, Member}

-- whether a row and a column pass a rule
abbrev pub passes : Rule → ℕ → ℕ → Bool
passes (Shift by) i j = j == by + i
passes (Quotient by) i j = i / by == j
passes (Remainder by) i j = i % by == j
passes Member i j = bit_at j i == 1

-- a rule is valid for this many rows: it shifts by at most the size limit, divides by a number other than 0, and asks
-- for bits of numbers up to the limit
abbrev pub IsRule : ℕ → Rule → Type 0
IsRule rows (Shift by) = by ≤ size_limit
IsRule rows (Quotient by) = 0 < by
IsRule rows (Remainder by) = (0 < by) × (by ≤ size_limit)
IsRule rows Member = rows ≤ size_height

-- the cells that pass a rule, in the first rows and columns
abbrev pub rule_cells : ℕ → ℕ → Rule → Cells
rule_cells rows cols rule i j = nat_lt i rows && (nat_lt j cols && passes rule i j)

-- the square of side m of a set, from a row and a column on
abbrev pub window : ℕ → ℕ → ℕ → Cells → Cells
window m row col f i j = nat_lt i m && (nat_lt j m && f (row + i) (col + j))
