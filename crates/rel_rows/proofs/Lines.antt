-- Rows of a square by its quarters.
-- 1. The row of two squares side by side is the corner of their rows and of two empty squares.
-- 2. What is added to a row is added to the two quarters that it crosses.
-- 3. A set that lies within the columns of the western half has its row there.
use Rattle.std.proofs.Common.{◌≡◌, ◌<◌, ◌≤◌, ◌+◌, ◌-◌, ◌∙◌, ◌&&◌, ◌||◌, eqb, ℕ, Bool, true, false, refl, sym, ap, arith, inl, inr}
use Rattle.std.proofs.lemmas.Bool.{cases_eq, cases_lt, lt-ltb, le-ltb, eq-eqb, ne_eqb, and_right}
use Rattle.rel_model.specs.Cells.{Cells, no_cells}
use Rattle.rel_model.specs.Trees.{beside, quartered}
use Rattle.rel_model.specs.Quarters.{LiesWithin}
use Rattle.rel_model.proofs.TreeLaws.{same_cells}
use Rattle.rel_model.proofs.Rooting.{outside}
use Rattle.rel_rows.specs.Rows.{row_cells, added_cells}

or-none : (a b : Bool) → b ≡ false → a ≡ (a || b)
or-none true b e = refl
or-none false b e = sym e

-- ---- the row of a square
pub row-corner : (m i : ℕ) (f g : Cells) → 0 < m → quartered m (row_cells i f) (row_cells i g) no_cells no_cells ≡ row_cells i (beside m f g)
row-corner m i f g l = same_cells _ _ (λ a j. elim (cases_lt a m) [
  | inl p ↦ elim (cases_lt j m) [
    | inl q ↦ rw (lt-ltb a m p, lt-ltb j m q) refl
    | inr q ↦ rw (lt-ltb a m p, le-ltb j m q) refl
  ]
  | inr p ↦ elim (cases_lt j m) [
    | inl q ↦ rw (le-ltb a m p, lt-ltb j m q, ne_eqb a 0 (λ e. omega arith)) refl
    | inr q ↦ rw (le-ltb a m p, le-ltb j m q, ne_eqb a 0 (λ e. omega arith)) refl
  ]
])

module _ (m i : ℕ) (a b c d : Cells) where
  -- ---- what is added to a row
  pub added-north : (e f x y : Cells) → i < m → quartered m (added_cells i e a) (added_cells i f b) c d ≡ added_cells i (quartered m e f x y) (quartered m a b c d)
  added-north e f x y l = same_cells _ _ (λ r j. elim (cases_lt r m) [
    | inl p ↦ elim (cases_lt j m) [
      | inl q ↦ rw (lt-ltb r m p, lt-ltb j m q, lt-ltb 0 m (omega arith)) refl
      | inr q ↦ rw (lt-ltb r m p, le-ltb j m q, lt-ltb 0 m (omega arith)) refl
    ]
    | inr p ↦ elim (cases_lt j m) [
      | inl q ↦ rw (le-ltb r m p, lt-ltb j m q, ne_eqb r i (λ k. omega arith)) (or-none (c (r - m) j) false refl)
      | inr q ↦ rw (le-ltb r m p, le-ltb j m q, ne_eqb r i (λ k. omega arith)) (or-none (d (r - m) (j - m)) false refl)
    ]
  ])

  same_row : (r : ℕ) → m ≤ r → m ≤ i → eqb (r - m) (i - m) ≡ eqb r i
  same_row r p l = elim (cases_eq r i) [
    | inl e ↦ eq-eqb (r - m) (i - m) (ap (λ k. k - m) e) ∙ sym (eq-eqb r i e)
    | inr e ↦ ne_eqb (r - m) (i - m) (λ k. e (omega arith)) ∙ sym (ne_eqb r i e)
  ]

  pub added-south : (e f x y : Cells) → 0 < m → m ≤ i → quartered m a b (added_cells (i - m) e c) (added_cells (i - m) f d) ≡ added_cells i (quartered m e f x y) (quartered m a b c d)
  added-south e f x y z l = same_cells _ _ (λ r j. elim (cases_lt r m) [
    | inl p ↦ elim (cases_lt j m) [
      | inl q ↦ rw (lt-ltb r m p, lt-ltb j m q, ne_eqb r i (λ k. omega arith)) (or-none (a r j) false refl)
      | inr q ↦ rw (lt-ltb r m p, le-ltb j m q, ne_eqb r i (λ k. omega arith)) (or-none (b r (j - m)) false refl)
    ]
    | inr p ↦ elim (cases_lt j m) [
      | inl q ↦ rw (le-ltb r m p, lt-ltb j m q, lt-ltb 0 m z) (ap (λ t. c (r - m) j || (t && e 0 j)) (same_row r p l))
      | inr q ↦ rw (le-ltb r m p, le-ltb j m q, lt-ltb 0 m z) (ap (λ t. d (r - m) (j - m) || (t && f 0 (j - m))) (same_row r p l))
    ]
  ])

  -- a set within the western half is added to one quarter
  pub low-north : (g : Cells) (n : ℕ) → LiesWithin n m g → i < m → quartered m (added_cells i g a) b c d ≡ added_cells i g (quartered m a b c d)
  low-north g n w l = same_cells _ _ (λ r j. elim (cases_lt r m) [
    | inl p ↦ elim (cases_lt j m) [
      | inl q ↦ rw (lt-ltb r m p, lt-ltb j m q) refl
      | inr q ↦ rw (lt-ltb r m p, le-ltb j m q) (or-none (b r (j - m)) _ (and_right (eqb r i) _ (outside n m g w 0 j (inr q))))
    ]
    | inr p ↦ elim (cases_lt j m) [
      | inl q ↦ rw (le-ltb r m p, lt-ltb j m q, ne_eqb r i (λ k. omega arith)) (or-none (c (r - m) j) false refl)
      | inr q ↦ rw (le-ltb r m p, le-ltb j m q, ne_eqb r i (λ k. omega arith)) (or-none (d (r - m) (j - m)) false refl)
    ]
  ])

  -- in the southern half it is added to the south-west quarter, with the row counted from the middle
  pub low-south : (g : Cells) (n : ℕ) → LiesWithin n m g → m ≤ i → quartered m a b (added_cells (i - m) g c) d ≡ added_cells i g (quartered m a b c d)
  low-south g n w l = same_cells _ _ (λ r j. elim (cases_lt r m) [
    | inl p ↦ elim (cases_lt j m) [
      | inl q ↦ rw (lt-ltb r m p, lt-ltb j m q, ne_eqb r i (λ k. omega arith)) (or-none (a r j) false refl)
      | inr q ↦ rw (lt-ltb r m p, le-ltb j m q, ne_eqb r i (λ k. omega arith)) (or-none (b r (j - m)) false refl)
    ]
    | inr p ↦ elim (cases_lt j m) [
      | inl q ↦ rw (le-ltb r m p, lt-ltb j m q) (ap (λ t. c (r - m) j || (t && g 0 j)) (same_row r p l))
      | inr q ↦ rw (le-ltb r m p, le-ltb j m q) (or-none (d (r - m) (j - m)) _ (and_right (eqb r i) _ (outside n m g w 0 j (inr q))))
    ]
  ])

  -- ---- sets within the western half
  module _ (n cols : ℕ) (w : LiesWithin n cols (quartered m a b c d)) (l : cols ≤ m) where
    north-cell : (r j : ℕ) → r < m → j < m → quartered m a b c d r j ≡ a r j
    north-cell r j p q = rw (lt-ltb r m p, lt-ltb j m q) refl

    south-cell : (r j : ℕ) → j < m → quartered m a b c d (m + r) j ≡ c r j
    south-cell r j q = rw (le-ltb (m + r) m (omega arith), lt-ltb j m q) (let e : m + r - m ≡ r = omega arith in ap (λ x. c x j) e)

    pub narrow-north : LiesWithin m m a → LiesWithin m cols a
    narrow-north s = record { row = s.row; col = λ r j h. w.col r j (north-cell r j (s.row r j h) (s.col r j h) ∙ h) }

    pub narrow-south : LiesWithin m m c → LiesWithin m cols c
    narrow-south s = record { row = s.row; col = λ r j h. w.col (m + r) j (south-cell r j (s.col r j h) ∙ h) }

    pub narrow_row-north : LiesWithin m m a → i < m → row_cells i a ≡ row_cells i (quartered m a b c d)
    narrow_row-north s k = same_cells _ _ (λ x j. ap (λ t. eqb x 0 && t) (elim (cases_lt j m) [
      | inl q ↦ sym (north-cell i j k q)
      | inr q ↦ outside m m a s i j (inr q) ∙ sym (outside n cols (quartered m a b c d) w i j (inr (omega arith)))
    ]))

    pub narrow_row-south : LiesWithin m m c → m ≤ i → row_cells (i - m) c ≡ row_cells i (quartered m a b c d)
    narrow_row-south s k = same_cells _ _ (λ x j. ap (λ t. eqb x 0 && t) (elim (cases_lt j m) [
      | inl q ↦ (let e : m + (i - m) ≡ i = omega arith in sym (south-cell (i - m) j q) ∙ ap (λ r. quartered m a b c d r j) e)
      | inr q ↦ outside m m c s (i - m) j (inr q) ∙ sym (outside n cols (quartered m a b c d) w i j (inr (omega arith)))
    ]))
