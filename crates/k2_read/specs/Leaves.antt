-- Cells placed into a leaf from a row and a column on.
use Rattle.std.specs.Prelude.{◌&&◌, ◌-◌, nat_lt, nat_le, ℕ}
use Rattle.rel_model.specs.Cells.{Cells}

-- the cells of a set in a leaf of this side, from a row and a column on
abbrev pub placed : ℕ → ℕ → ℕ → Cells → Cells
placed side row col f i j =
    nat_lt i side && (nat_lt j side && (nat_le row i && (nat_le col j && f (i - row) (j - col))))
