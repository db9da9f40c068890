-- Where the rows of a sorted list of pairs begin.
use Rattle.std.specs.Prelude.{◌≡◌, ◌<◌, ◌≤◌, nat_lt, ℕ, List, length, get_or}

-- the row of a pair of a list
abbrev pub row_at : List (ℕ × ℕ) → ℕ → ℕ
row_at pairs k = (get_or pairs k (0, 0)).0

-- a value was appended to a list at places up to a given one
pub record Fills (place value : ℕ) (old new : List ℕ) : Type 0 where
  pub longer : length old ≤ length new
  pub kept : (p : ℕ) → p < length old → get_or new p 0 ≡ get_or old p 0
  pub fresh : (p : ℕ) → length old ≤ p → p < length new → (get_or new p 0 ≡ value) × (p ≤ place)

-- each entry of a list is how many pairs have a row below its place; the rows of the first pairs have entries
pub record Indexes (done : ℕ) (pairs : List (ℕ × ℕ)) (starts : List ℕ) : Type 0 where
  pub at : (p k : ℕ) → p < length starts → k < length pairs → nat_lt k (get_or starts p 0) ≡ nat_lt (row_at pairs k) p
  pub short : (p : ℕ) → p < length starts → get_or starts p 0 ≤ length pairs
  pub had : (k : ℕ) → k < done → row_at pairs k < length starts

-- each entry, for each number up to the number of rows, is how many pairs have a lower row
pub record IsIndex (rows : ℕ) (pairs : List (ℕ × ℕ)) (starts : List ℕ) : Type 0 where
  pub indexes : Indexes (length pairs) pairs starts
  pub whole : rows < length starts
