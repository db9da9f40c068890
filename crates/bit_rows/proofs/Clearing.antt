-- Rows with no column, and windows with no cell.
use Rattle.std.proofs.Common.{◌≡◌, ◌<◌, ◌≤◌, ◌+◌, ◌-◌, ◌*◌, ◌||◌, ltb, ℕ, Bool, true, false, List, length, refl, sym, ap, ◌∙◌, inl, inr, arith, get_or, replicate}
use Rattle.std.specs.Int.{bit_at}
use Rattle.std.proofs.lemmas.Bool.{false≢true, cases_lt, cases_eq, le-ltb, ne_eqb, and_left, and_right, or_left, or_right}
use Rattle.std.proofs.lemmas.List.{get_or_default, get_or-replicate, length-replicate}
use Rattle.std.proofs.lemmas.Nat.Bits.{bit_at-zero}
use Rattle.rel_model.specs.Cells.{no_cells}
use Rattle.leaf_block.proofs.Sets.{same_cells}
use Rattle.bit_rows.specs.declared.row.Row.{Row}
use Rattle.bit_rows.specs.Rows.{has_bit, row_has, no_row, rows_cells, HasColumns}
use Rattle.bit_rows.specs.Places.{window, IsByte}
use Rattle.bit_rows.proofs.Rows.{row_has-none, rows_cells-past}

pub none_at : (r : Row) (j : ℕ) → r ≡ no_row → row_has r j ≡ false
none_at r j e = ap (λ (x : Row). row_has x j) e ∙ row_has-none j

pub zero_row : no_row ≡ record { w0 = 0; w1 = 0; w2 = 0; w3 = 0 }
unfolding no_row
zero_row = refl

pub replicated : (n : ℕ) (r : Row) → r ≡ no_row → rows_cells (replicate n r) ≡ no_cells
replicated n r e = same_cells _ _ (λ i j. elim (cases_lt i n) [
  | inl l ↦ ap (λ (x : Row). row_has x j) (get_or-replicate n i r no_row l) ∙ none_at r j e
  | inr g ↦ rows_cells-past (replicate n r) i j (let x = length-replicate n r in omega arith)
])

-- ---- the columns of rows
pub columns_none : (rows : List Row) (from : ℕ) (r : Row) → HasColumns rows from 0 r
columns_none rows from r t j l e = absurd (omega arith)

pub columns_more : (rows : List Row) (from t : ℕ) (all next d : Row) → from + t < length rows
    → ((j : ℕ) → row_has next j ≡ (row_has all j || row_has (get_or rows (from + t) d) j)) → HasColumns rows from t all → HasColumns rows from (t + 1) next
columns_more rows from t all next d l n c k j h e = elim (cases_eq k t) [
  | inl s ↦ n j ∙ or_right (row_has all j) _ (ap (λ (r : Row). row_has r j) (get_or_default rows (from + t) d no_row l) ∙ sym (ap (λ (x : ℕ). rows_cells rows (from + x) j) s) ∙ e)
  | inr s ↦ n j ∙ or_left (row_has all j) _ (c k j (omega arith) e)
]

pub columns_fewer : (rows : List Row) (from t n : ℕ) (r : Row) → n ≤ t → HasColumns rows from t r → HasColumns rows from n r
columns_fewer rows from t n r l c k j h e = c k j (omega arith) e

-- ---- bytes with no bit
-- a row has none of so many columns from one on
abbrev pub HasNone : Row → ℕ → ℕ → Type 0
HasNone r col count = (j : ℕ) → j < count → row_has r (col + j) ≡ false

pub byte_none : (r : Row) (col byte j : ℕ) → byte ≡ 0 → IsByte r col byte → j < 8 → row_has r (col + j) ≡ false
byte_none r col byte j e s l = sym (s.bits j l) ∙ ap (λ (x : ℕ). has_bit x j) e ∙ ne_eqb (bit_at 0 j) 1 (λ h. let z = bit_at-zero j in omega arith)

pub none_more : (r : Row) (col k byte : ℕ) → byte ≡ 0 → IsByte r (col + 8 * k) byte → HasNone r col (8 * k) → HasNone r col (8 * (k + 1))
none_more r col k byte e s c j h = elim (cases_lt j (8 * k)) [
  | inl l ↦ c j l
  | inr g ↦ (let x : col + 8 * k + (j - 8 * k) ≡ col + j = omega arith in
      ap (row_has r) (sym x) ∙ byte_none r (col + 8 * k) byte (j - 8 * k) e s (omega arith))
]

-- ---- windows
none_there : (b : Bool) → (b ≡ true → ⊥) → b ≡ false
none_there true h = absurd (h refl)
none_there false h = refl

pub window_clear : (rows : List Row) (row col side : ℕ) (r : Row) → HasColumns rows row side r → HasNone r col side → window row col side (rows_cells rows) ≡ no_cells
window_clear rows row col side r c n = same_cells _ _ (λ i j. elim (cases_lt i side) [
  | inr g ↦ and_left (ltb i side) _ (le-ltb i side g)
  | inl l ↦ elim (cases_lt j side) [
    | inr g ↦ and_right (ltb i side) _ (and_left (ltb j side) _ (le-ltb j side g))
    | inl m ↦ and_right (ltb i side) _ (and_right (ltb j side) _ (none_there _ (λ e. false≢true (sym (n j m) ∙ c i (col + j) l e))))
  ]
])
