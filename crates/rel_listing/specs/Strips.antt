-- Strips of rows: squares of one height side by side, from left to right, each with its first column.
use Rattle.std.specs.Prelude.{◌≡◌, ◌==◌, ◌≤◌, ◌+◌, ◌-◌, ◌^◌, ◌++◌, ◌&&◌, ◌||◌, nat_le, cond, ℕ, List, [], ◌∷◌}
use Rattle.std.specs.List.{AllByRecursion}
use Rattle.rel_model.specs.declared.Quad.{Quad}
use Rattle.rel_model.specs.declared.Quarters.{Quarters}
use Rattle.rel_model.specs.Relation.{size_limit}
use Rattle.rel_model.specs.Cells.{Cells, no_cells, cells_union, bits_cells}
use Rattle.rel_model.specs.Quarters.{GivesQuarters}
use Rattle.rel_model.specs.Worker.{Worker, HasQuad, quad_set}

-- squares of this side lie between two columns, each to the right of the one before
abbrev pub Spaced : {A : Type 0} → ℕ → ℕ → ℕ → List (A × ℕ) → Type 0
Spaced side from upto [] = from ≤ upto
Spaced side from upto (e ∷ es) = (from ≤ e.1) × Spaced side (e.1 + side) upto es

-- the quads of a strip stand, have this height, and lie between two columns
pub record IsStripFrom (w : Worker) (height from upto : ℕ) (strip : List (Quad × ℕ)) : Type 0 where
  pub quads : AllByRecursion (λ e. HasQuad w e.0 × (e.0.height ≡ height)) strip
  pub spaced : Spaced (2 ^ height) from upto strip

-- from the first column on
abbrev pub IsStrip : Worker → ℕ → ℕ → List (Quad × ℕ) → Type 0
IsStrip w height upto strip = IsStripFrom w height 0 upto strip

-- a set whose first row and column are put here
abbrev pub placed : ℕ → ℕ → Cells → Cells
placed row col f i j = nat_le row i && (nat_le col j && f (i - row) (j - col))

-- the cells of squares side by side, by what is the set of each
abbrev pub laid : {A : Type 0} → (A → Cells) → ℕ → List (A × ℕ) → Cells
laid set row [] = no_cells
laid set row (e ∷ es) = cells_union (placed row e.1 (set e.0)) (laid set row es)

-- the cells of one row
abbrev pub on_row : ℕ → Cells → Cells
on_row row f i j = (i == row) && f i j

-- a quad in a strip, or nothing if it is empty
abbrev pub kept : Quad → ℕ → List (Quad × ℕ)
kept quad col = cond (quad.name == 0) [] ((quad, col) ∷ [])

-- the quarters of a quad were appended to two strips, the northern and the southern ones
pub record Quartered (old new : Worker) (quad : Quad) (col : ℕ) (upper upper_then lower lower_then : List (Quad × ℕ))
    : Type 0 where
  pub four : Quarters
  pub gives : GivesQuarters old new quad four
  pub north : upper_then ≡ (upper ++ kept four.nw col) ++ kept four.ne (col + 2 ^ four.nw.height)
  pub south : lower_then ≡ (lower ++ kept four.sw col) ++ kept four.se (col + 2 ^ four.nw.height)

-- two strips of this height are the northern and the southern half of a strip
pub record Halves (old new : Worker) (height : ℕ) (strip north south : List (Quad × ℕ)) : Type 0 where
  pub upper : IsStrip new height size_limit north
  pub lower : IsStrip new height size_limit south
  pub means : (row i j : ℕ) → laid (quad_set old) row strip i j
      ≡ (laid (quad_set new) row north i j || laid (quad_set new) (row + 2 ^ height) south i j)

-- words are the leaves of a strip
pub record AreWords (w : Worker) (side : ℕ) (strip : List (Quad × ℕ)) (words : List (ℕ × ℕ)) : Type 0 where
  pub spaced : Spaced side 0 size_limit words
  pub means : (row i j : ℕ) → laid (quad_set w) row strip i j ≡ laid (bits_cells side) row words i j
