-- The elements of a vector listed in order.
use Rattle.std.specs.Prelude.{◌==◌, ◌+◌, ◌&&◌, nat_lt, ℕ, Bool}
use Rattle.rel_model.specs.Cells.{Cells}
use Rattle.rel_model.specs.Choice.{count_below}

-- whether an element is in the vector whose cells are the first column of a set
abbrev pub first_column : Cells → ℕ → Bool
first_column f x = f x 0

-- the square of side m, from a row on, of the list of a vector's elements in order; `before` elements come before those
-- of this vector
abbrev pub ranked : ℕ → ℕ → ℕ → (ℕ → Bool) → Cells
ranked m row before t i x = nat_lt i m && (nat_lt x m && (t x && (before + count_below x t == row + i)))
