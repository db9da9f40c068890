-- Tables of unions of rows, and the part of a composition that one word of each row gives.
use Rattle.std.specs.Prelude.{◌≡◌, ◌<◌, ◌+◌, ◌*◌, ◌/◌, ◌%◌, ◌&&◌, ◌||◌, ℕ, Bool, List}
use Rattle.rel_model.specs.Cells.{Cells, some_below}
use Rattle.bit_rows.specs.declared.row.Row.{Row}
use Rattle.bit_rows.specs.Rows.{has_bit, row_has, rows_cells, picks}

-- four bits of a word, from a place on
pub record IsFourOf (w from m : ℕ) : Type 0 where
  pub small : m < 16
  pub bits : (k : ℕ) → k < 4 → has_bit m k ≡ has_bit w (from + k)

-- whether one of the first n rows from a row on has a column, among those whose bit a word has
unfoldable pub picks_first : ℕ → List Row → ℕ → ℕ → ℕ → Bool
picks_first n rows from w j = some_below n (λ k. has_bit w k && rows_cells rows (from + k) j)

-- The first entries of the tables of 64 rows, from a row on. There is one table for every four rows; its entry m is the
-- union of those of the four whose bit m has.
abbrev pub AreTables : List Row → ℕ → List Row → ℕ → Type 0
AreTables rows from tables n = (e j : ℕ) → e < n
    → rows_cells tables e j ≡ picks_first 4 rows (from + 4 * (e / 16)) (e % 16) j

-- a row is the union of another and of those of 64 rows whose bit a word has, whichever rows the tables are of
abbrev pub IsLookedUp : Row → ℕ → List Row → Row → Type 0
IsLookedUp sum w tables r = (rows : List Row) (from : ℕ) → AreTables rows from tables 256
    → (j : ℕ) → row_has r j ≡ (row_has sum j || picks rows from w j)

-- the part of the composition of two squares of rows whose middle elements are the 64 of a word
unfoldable pub word_product : List Row → List Row → ℕ → Cells
word_product a b q i j = some_below 64 (λ k. rows_cells a i (64 * q + k) && rows_cells b (64 * q + k) j)
