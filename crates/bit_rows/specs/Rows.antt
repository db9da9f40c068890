-- Rows of bits and their cells.
use Rattle.std.specs.Prelude.{◌≡◌, ◌==◌, ◌<◌, ◌+◌, ◌-◌, ◌&&◌, nat_lt, cond, ℕ, Bool, true, false, List, length, slice_index_or}
use Rattle.std.specs.Int.{bit_at}
use Rattle.rel_model.specs.Cells.{Cells, some_below}
use Rattle.bit_rows.specs.declared.row.Row.{Row}

-- whether a word has a bit
abbrev pub has_bit : ℕ → ℕ → Bool
has_bit w k = bit_at w k == 1

-- whether a row has a column
unfoldable pub row_has : Row → ℕ → Bool
row_has r j = cond (nat_lt j 64) (has_bit r.w0 j) (cond (nat_lt j 128) (has_bit r.w1 (j - 64))
    (cond (nat_lt j 192) (has_bit r.w2 (j - 128)) (nat_lt j 256 && has_bit r.w3 (j - 192))))

-- the row with no column
unfoldable pub no_row : Row
no_row = record { w0 = 0; w1 = 0; w2 = 0; w3 = 0 }

-- the cells of a list of rows
abbrev pub rows_cells : List Row → Cells
rows_cells rows i j = row_has (slice_index_or rows i no_row) j

-- a row has every column of `count` rows, from a row on
abbrev pub HasColumns : List Row → ℕ → ℕ → Row → Type 0
HasColumns rows from count r = (t j : ℕ) → t < count → rows_cells rows (from + t) j ≡ true → row_has r j ≡ true

-- a word is split into a bit and the rest
pub record IsSplit (w k rest : ℕ) : Type 0 where
  pub within : k < 64
  pub here : has_bit w k ≡ true
  pub gone : has_bit rest k ≡ false
  pub others : (i : ℕ) → i < 64 → (i ≡ k → ⊥) → has_bit rest i ≡ has_bit w i
  pub smaller : rest < w

-- whether one of 64 rows has a column, among those whose bit a word has
unfoldable pub picks : List Row → ℕ → ℕ → ℕ → Bool
picks rows from w j = some_below 64 (λ k. has_bit w k && rows_cells rows (from + k) j)

-- whether one of the rows has a column, among those whose number is a column of a row
abbrev pub product_has : Row → List Row → ℕ → Bool
product_has row rows j = some_below (length rows) (λ k. row_has row k && rows_cells rows k j)
