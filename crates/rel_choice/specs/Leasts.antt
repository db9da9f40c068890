-- The least number in a range that passes a test, and the least pair of a set that passes a test.
use Rattle.std.specs.Prelude.{◌≡◌, ◌<◌, ◌≤◌, ◌||◌, nat_le, ℕ, Bool, true, false, Option, Some, None}
use Rattle.rel_model.specs.Relation.{before}
use Rattle.rel_model.specs.Cells.{Cells, some_below}

-- k is the least number that passes a test, among those from `from` up to `below`
pub record Least (t : ℕ → Bool) (from below k : ℕ) : Type 0 where
  pub low : from ≤ k
  pub high : k < below
  pub passes : t k ≡ true
  pub first : (x : ℕ) → from ≤ x → x < k → t x ≡ false

-- the answer is that number, or none if no number passes
abbrev pub IsLeast : (ℕ → Bool) → ℕ → ℕ → Option ℕ → Type 0
IsLeast t from below None = (x : ℕ) → from ≤ x → x < below → t x ≡ false
IsLeast t from below (Some k) = Least t from below k

-- a pair is the least of a set that passes a test, by row and then by column
pub record LeastPair (f t : Cells) (p : ℕ × ℕ) : Type 0 where
  pub among : f p.0 p.1 ≡ true
  pub passes : t p.0 p.1 ≡ true
  pub first : (i j : ℕ) → f i j ≡ true → t i j ≡ true → before (i, j) p ≡ false

-- the answer is that pair, or none if no pair passes
abbrev pub IsLeastPair : Cells → Cells → Option (ℕ × ℕ) → Type 0
IsLeastPair f t None = (i j : ℕ) → f i j ≡ true → t i j ≡ false
IsLeastPair f t (Some p) = LeastPair f t p

-- whether row i has a cell in the first columns
abbrev pub row_meets : ℕ → Cells → ℕ → Bool
row_meets m f i = some_below m (f i)

-- whether row i has a cell of either set in the first columns
abbrev pub row_meets_either : ℕ → Cells → Cells → ℕ → Bool
row_meets_either m f g i = some_below m (f i) || some_below m (g i)

-- the cells from a row on
abbrev pub from_row : ℕ → Cells
from_row x i j = nat_le x i

-- the cells after a pair, by row and then by column
abbrev pub behind : ℕ → ℕ → Cells
behind x y i j = before (x, y) (i, j)
