-- The pairs of words, row by row.
-- 1. In a leaf's row, the pairs of the columns so far (`cell_more`, `cell_none`).
-- 2. In a strip's row, those of the leaves so far, which lie left of what is left (`Rowing`).
-- 3. In the strip, those of the rows so far (`rows_more`).
use Rattle.std.proofs.Common.{◌≡◌, ◌∙◌, ◌≤◌, ◌<◌, ◌+◌, ◌-◌, ◌*◌, ◌/◌, ◌%◌, ◌^◌, ◌++◌, ◌&&◌, ◌||◌, eqb, ltb, leb, ℕ, true, false, List, [], ◌∷◌, refl, sym, ap, subst, inl, inr, arith}
use Rattle.std.specs.Int.{bit_at}
use Rattle.std.proofs.lemmas.Bool.{false≢true, cases_lt, and_parts, and_from, and_right, or_cases, or_right, lt-ltb, le-ltb, ltb-true, eqb-true, eq-eqb}
use Rattle.std.proofs.lemmas.Nat.{pow_pos, shr_split, mod_below}
use Rattle.std.proofs.lemmas.Nat.Bits.{bit_at-zero, bit_at_cat_low, bit_at_cat_high}
use Rattle.rel_model.specs.Relation.{before, size_limit}
use Rattle.rel_model.specs.Cells.{Cells, no_cells, bits_cells, cells_union}
use Rattle.rel_listing.specs.Lists.{Adds}
use Rattle.rel_listing.specs.Strips.{Spaced, placed, laid, on_row}
use Rattle.rel_listing.proofs.Truth.{or_here, or_none, or_or}
use Rattle.rel_listing.proofs.Lists.{adds_none, adds_one, adds_on, adds_same}
use Rattle.rel_listing.proofs.Strips.{placed_is, spaced-le}

-- ---- the order of pairs
pub before_by_row : (i j k l : ℕ) → i < k → before (i, j) (k, l) ≡ true
before_by_row i j k l h = or_here (ltb i k) _ (lt-ltb i k h)

pub before_by_column : (i j k l : ℕ) → i ≡ k → j < l → before (i, j) (k, l) ≡ true
before_by_column i j k l e h = or_right (ltb i k) _ (and_from (eqb i k) (ltb j l) (eq-eqb i k e) (lt-ltb j l h))

-- ---- bits
-- a cell lies within its leaf
pub bits_within : (m bits i j : ℕ) → bits_cells m bits i j ≡ true → (i < m) × (j < m)
bits_within m bits i j h =
    let a = and_parts (ltb i m) _ h in
    let b = and_parts (ltb j m) _ a.1 in
    (ltb-true i m a.0, ltb-true j m b.0)

-- a cell is a bit
pub cell_bit : (m bits i j : ℕ) → i < m → j < m → bits_cells m bits i j ≡ eqb (bits / 2 ^ (m * i + j) % 2) 1
cell_bit m bits i j a b = rw (lt-ltb i m a, lt-ltb j m b) refl

-- a row whose bits are 0 has no cell
pub empty_row : (m bits i j : ℕ) → bits / 2 ^ (m * i) % 2 ^ m ≡ 0 → bits_cells m bits i j ≡ false
empty_row m bits i j e = elim (cases_lt j m) [
  | inl l ↦ and_right (ltb i m) _ (and_right (ltb j m) _ (ap (λ x. eqb x 1) (none l)))
  | inr l ↦ and_right (ltb i m) _ (ap (λ b. b && eqb (bit_at bits (m * i + j)) 1) (le-ltb j m l))
]
  where
    low : (n : ℕ) → j < m → bit_at (n % 2 ^ m) j ≡ bit_at n j
    low n l = sym (bit_at_cat_low (n / 2 ^ m) m (n % 2 ^ m) j l) ∙ ap (λ x. bit_at x j) (shr_split n m)

    high : (n s : ℕ) → bit_at (n / 2 ^ s) j ≡ bit_at n (s + j)
    high n s =
        let e : s + j - s ≡ j = omega arith in
        sym (bit_at_cat_high (n / 2 ^ s) s (n % 2 ^ s) (s + j) (mod_below n (2 ^ s) (pow_pos s)) (omega arith) ∙ ap (bit_at (n / 2 ^ s)) e) ∙ ap (λ x. bit_at x (s + j)) (shr_split n s)

    none : j < m → bit_at bits (m * i + j) ≡ 0
    none l = sym (high bits (m * i)) ∙ sym (low (bits / 2 ^ (m * i)) l) ∙ ap (λ x. bit_at x j) e ∙ bit_at-zero j

-- ---- one row of one leaf
-- a set's cells in the columns before one
abbrev pub left_of : ℕ → Cells → Cells
left_of c f i j = ltb j c && f i j

module _ (row i c m bits : ℕ) where
  abbrev pub leaf : Cells
  leaf = on_row (row + i) (placed row c (bits_cells m bits))

  in_leaf : (x y : ℕ) → leaf x y ≡ true → (x ≡ row + i) × (c ≤ y) × (y < c + m)
  in_leaf x y h =
      let a = and_parts (eqb x (row + i)) _ h in
      let p = placed_is row c (bits_cells m bits) x y a.1 in
      let q = bits_within m bits (x - row) (y - c) p.there in
      let r = p.right in
      let s = q.1 in
      (eqb-true x (row + i) a.0, r, omega (arith, r, s))

  pub cells_none : (xs : List (ℕ × ℕ)) → Adds (left_of (c + 0) leaf) xs xs
  cells_none xs = adds_none xs (λ x y h. (let a = and_parts (ltb y (c + 0)) (leaf x y) h in
      let b = in_leaf x y a.1 in
      let l = ltb-true y (c + 0) a.0 in
      omega (arith, b.1, l)))

  pub cells_all : {old new : List (ℕ × ℕ)} (j : ℕ) → m ≤ j → Adds (left_of (c + j) leaf) old new → Adds leaf old new
  cells_all j l s = adds_same (λ x y h. (and_parts (ltb y (c + j)) (leaf x y) h).1) (λ x y h. (let b = in_leaf x y h in and_from (ltb y (c + j)) (leaf x y) (lt-ltb y (c + j) (omega (arith, b.2, l))) h)) s

  -- whether the cell of column j is in the leaf's row
  cell_at : (j : ℕ) → leaf (row + i) (c + j) ≡ bits_cells m bits i j
  cell_at j =
      let e : row + i - row ≡ i = omega arith in
      let f : c + j - c ≡ j = omega arith in
      ap (λ b. b && placed row c (bits_cells m bits) (row + i) (c + j)) (eq-eqb (row + i) (row + i) refl)
      ∙ ap (λ b. b && (leb c (c + j) && bits_cells m bits (row + i - row) (c + j - c))) (low row i)
      ∙ ap (λ b. b && bits_cells m bits (row + i - row) (c + j - c)) (low c j)
      ∙ ap (λ x. bits_cells m bits x (c + j - c)) e ∙ ap (bits_cells m bits i) f
    where
      low : (a b : ℕ) → leb a (a + b) ≡ true
      low a b = grind arith

  at_cell : (j x y : ℕ) → leaf x y ≡ true → y ≡ c + j → leaf (row + i) (c + j) ≡ true
  at_cell j x y h e = let b = in_leaf x y h in ap (λ z. leaf z (c + j)) (sym b.0) ∙ ap (leaf x) (sym e) ∙ h

  pub cell_none : {old new : List (ℕ × ℕ)} (j : ℕ) → bits_cells m bits i j ≡ false → Adds (left_of (c + j) leaf) old new → Adds (left_of (c + (j + 1)) leaf) old new
  cell_none j n s = adds_same (λ x y h. (let a = and_parts (ltb y (c + j)) (leaf x y) h in
      let l = ltb-true y (c + j) a.0 in
      and_from (ltb y (c + (j + 1))) (leaf x y) (lt-ltb y (c + (j + 1)) (omega (arith, l))) a.1))
      (λ x y h. (let a = and_parts (ltb y (c + (j + 1))) (leaf x y) h in
      let l = ltb-true y (c + (j + 1)) a.0 in
      elim (cases_lt y (c + j)) [
        | inl k ↦ and_from (ltb y (c + j)) (leaf x y) (lt-ltb y (c + j) k) a.1
        | inr k ↦ absurd (false≢true (sym n ∙ sym (cell_at j) ∙ at_cell j x y a.1 (omega (arith, l, k))))
      ])) s

  pub cell_more : {old now new : List (ℕ × ℕ)} (j : ℕ) → bits_cells m bits i j ≡ true → new ≡ now ++ (row + i, c + j) ∷ [] → Adds (left_of (c + j) leaf) old now → Adds (left_of (c + (j + 1)) leaf) old new
  cell_more {old} {now} {new} j t e s =
      subst (λ (zs : List (ℕ × ℕ)). Adds (left_of (c + (j + 1)) leaf) old zs) (sym e)
      (adds_same to back (adds_on s (adds_one (row + i) (c + j) now) order))
    where
      order : (a b k l : ℕ) → left_of (c + j) leaf a b ≡ true → (eqb k (row + i) && eqb l (c + j)) ≡ true → before (a, b) (k, l) ≡ true
      order a b k l h g =
          let x = and_parts (ltb b (c + j)) (leaf a b) h in
          let y = and_parts (eqb k (row + i)) (eqb l (c + j)) g in
          let z = in_leaf a b x.1 in
          let p = ltb-true b (c + j) x.0 in
          let q = eqb-true l (c + j) y.1 in
          before_by_column a b k l (z.0 ∙ sym (eqb-true k (row + i) y.0)) (omega (arith, p, q))

      to : (x y : ℕ) → (left_of (c + j) leaf x y || (eqb x (row + i) && eqb y (c + j))) ≡ true → left_of (c + (j + 1)) leaf x y ≡ true
      to x y h = elim (or_cases (left_of (c + j) leaf x y) _ h) [
        | inl g ↦ (let a = and_parts (ltb y (c + j)) (leaf x y) g in
            let l = ltb-true y (c + j) a.0 in
            and_from (ltb y (c + (j + 1))) (leaf x y) (lt-ltb y (c + (j + 1)) (omega (arith, l))) a.1)
        | inr g ↦ (let a = and_parts (eqb x (row + i)) (eqb y (c + j)) g in
            let p = eqb-true x (row + i) a.0 in
            let q = eqb-true y (c + j) a.1 in
            and_from (ltb y (c + (j + 1))) (leaf x y) (lt-ltb y (c + (j + 1)) (omega (arith, q))) (ap (λ z. leaf z y) p ∙ ap (leaf (row + i)) q ∙ cell_at j ∙ t))
      ]

      back : (x y : ℕ) → left_of (c + (j + 1)) leaf x y ≡ true → (left_of (c + j) leaf x y || (eqb x (row + i) && eqb y (c + j))) ≡ true
      back x y h =
          let a = and_parts (ltb y (c + (j + 1))) (leaf x y) h in
          let l = ltb-true y (c + (j + 1)) a.0 in
          elim (cases_lt y (c + j)) [
            | inl k ↦ or_here (left_of (c + j) leaf x y) _ (and_from (ltb y (c + j)) (leaf x y) (lt-ltb y (c + j) k) a.1)
            | inr k ↦ or_right (left_of (c + j) leaf x y) _ (and_from (eqb x (row + i)) (eqb y (c + j)) (eq-eqb x (row + i) (in_leaf x y a.1).0) (eq-eqb y (c + j) (omega (arith, l, k))))
          ]

  -- a row without a cell
  pub leaf_none : (xs : List (ℕ × ℕ)) → ((j : ℕ) → bits_cells m bits i j ≡ false) → Adds leaf xs xs
  leaf_none xs n = adds_none xs (λ x y h. (let b = in_leaf x y h in
      let w : y ≡ c + (y - c) = omega (arith, b.1) in
      false≢true (sym (n (y - c)) ∙ sym (cell_at (y - c)) ∙ at_cell (y - c) x y h w)))

-- ---- one row of a strip
-- the pairs of the leaves so far lie left of those that are left
pub record Rowing (m row i : ℕ) (words rest : List (ℕ × ℕ)) (old now : List (ℕ × ℕ)) : Type 0 where
  pub at : ℕ
  pub set : Cells
  pub adds : Adds (on_row (row + i) set) old now
  pub rest_is : Spaced m at size_limit rest
  pub left : (x y : ℕ) → set x y ≡ true → y < at
  pub means : (x y : ℕ) → (set x y || laid (bits_cells m) row rest x y) ≡ laid (bits_cells m) row words x y

pub rowing_none : (m row i : ℕ) {words rest : List (ℕ × ℕ)} (old : List (ℕ × ℕ)) → rest ≡ words → Spaced m 0 size_limit words → Rowing m row i words rest old old
rowing_none m row i {words} {rest} old e s = record {
  at = 0;
  set = no_cells;
  adds = adds_none old (λ x y h. false≢true ((and_parts (eqb x (row + i)) false h).1));
  rest_is = subst (λ (zs : List (ℕ × ℕ)). Spaced m 0 size_limit zs) (sym e) s;
  left = λ x y h. absurd (false≢true h);
  means = λ x y. ap (λ (zs : List (ℕ × ℕ)). laid (bits_cells m) row zs x y) e;
}

-- the first leaf that is left lies within the limit
pub word_fits : (m at : ℕ) (e : ℕ × ℕ) (rest more : List (ℕ × ℕ)) → rest ≡ e ∷ more → Spaced m at size_limit rest → e.1 + m ≤ size_limit
word_fits m at e rest more r s =
    let t : Spaced m at size_limit (e ∷ more) = subst (λ (zs : List (ℕ × ℕ)). Spaced m at size_limit zs) r s in
    spaced-le m (e.1 + m) size_limit more t.1

pub rowing_more : {m row i : ℕ} {words rest more old now new : List (ℕ × ℕ)} (e : ℕ × ℕ) → rest ≡ e ∷ more → Adds (on_row (row + i) (placed row e.1 (bits_cells m e.0))) now new → Rowing m row i words rest old now → Rowing m row i words more old new
rowing_more {m} {row} {i} {words} {rest} {more} {old} {now} {new} e r a s =
    let t : Spaced m s.at size_limit (e ∷ more) = subst (λ (zs : List (ℕ × ℕ)). Spaced m s.at size_limit zs) r s.rest_is in
    let start : s.at ≤ e.1 = t.0 in
    record {
      at = e.1 + m;
      set = cells_union s.set here;
      adds = adds_same to back (adds_on s.adds a (λ x y k l h g.
          (let p = and_parts (eqb x (row + i)) (s.set x y) h in
          let q = and_parts (eqb k (row + i)) (here k l) g in
          let u = s.left x y p.1 in
          let v = (placed_is row e.1 (bits_cells m e.0) k l q.1).right in
          before_by_column x y k l (eqb-true x (row + i) p.0 ∙ sym (eqb-true k (row + i) q.0)) (omega (arith, u, v, start)))));
      rest_is = t.1;
      left = λ x y h. elim (or_cases (s.set x y) (here x y) h) [
        | inl g ↦ (let u = s.left x y g in omega (arith, u, start))
        | inr g ↦ (let p = placed_is row e.1 (bits_cells m e.0) x y g in
            let u = (bits_within m e.0 (x - row) (y - e.1) p.there).1 in
            let v = p.right in
            omega (arith, u, v))
      ];
      means = λ x y. sym (or_or (s.set x y) (here x y) (laid (bits_cells m) row more x y))
          ∙ ap (λ (zs : List (ℕ × ℕ)). s.set x y || laid (bits_cells m) row zs x y) (sym r) ∙ s.means x y;
    }
  where
    here : Cells
    here = placed row e.1 (bits_cells m e.0)

    to : (x y : ℕ) → (on_row (row + i) s.set x y || on_row (row + i) here x y) ≡ true → on_row (row + i) (cells_union s.set here) x y ≡ true
    to x y h = elim (or_cases (on_row (row + i) s.set x y) (on_row (row + i) here x y) h) [
      | inl g ↦ (let p = and_parts (eqb x (row + i)) (s.set x y) g in and_from (eqb x (row + i)) _ p.0 (or_here (s.set x y) (here x y) p.1))
      | inr g ↦ (let p = and_parts (eqb x (row + i)) (here x y) g in and_from (eqb x (row + i)) _ p.0 (or_right (s.set x y) (here x y) p.1))
    ]

    back : (x y : ℕ) → on_row (row + i) (cells_union s.set here) x y ≡ true → (on_row (row + i) s.set x y || on_row (row + i) here x y) ≡ true
    back x y h =
        let p = and_parts (eqb x (row + i)) (s.set x y || here x y) h in
        elim (or_cases (s.set x y) (here x y) p.1) [
          | inl g ↦ or_here (on_row (row + i) s.set x y) _ (and_from (eqb x (row + i)) (s.set x y) p.0 g)
          | inr g ↦ or_right (on_row (row + i) s.set x y) _ (and_from (eqb x (row + i)) (here x y) p.0 g)
        ]

pub rowing_all : {m row i : ℕ} {words rest old new : List (ℕ × ℕ)} → rest ≡ [] → Rowing m row i words rest old new → Adds (on_row (row + i) (laid (bits_cells m) row words)) old new
rowing_all {m} {row} {i} {words} {rest} r s =
    adds_same (λ x y h. (let p = and_parts (eqb x (row + i)) (s.set x y) h in and_from (eqb x (row + i)) _ p.0 (sym (whole x y) ∙ p.1)))
    (λ x y h. (let p = and_parts (eqb x (row + i)) (laid (bits_cells m) row words x y) h in and_from (eqb x (row + i)) _ p.0 (whole x y ∙ p.1))) s.adds
  where
    whole : (x y : ℕ) → s.set x y ≡ laid (bits_cells m) row words x y
    whole x y = sym (or_none (s.set x y)) ∙ ap (λ (zs : List (ℕ × ℕ)). s.set x y || laid (bits_cells m) row zs x y) (sym r) ∙ s.means x y

-- ---- the rows of a strip
pub laid_rows : (m row : ℕ) (words : List (ℕ × ℕ)) (x y : ℕ) → laid (bits_cells m) row words x y ≡ true → (row ≤ x) × (x < row + m)
laid_rows m row [] x y h = absurd (false≢true h)
laid_rows m row (e ∷ es) x y h = elim (or_cases (placed row e.1 (bits_cells m e.0) x y) (laid (bits_cells m) row es x y) h) [
  | inl g ↦ (let p = placed_is row e.1 (bits_cells m e.0) x y g in
      let a = (bits_within m e.0 (x - row) (y - e.1) p.there).0 in
      let b = p.below in
      (b, omega (arith, a, b)))
  | inr g ↦ laid_rows m row es x y g
]

-- a set's cells in the rows before one
abbrev pub above_row : ℕ → Cells → Cells
above_row r f i j = ltb i r && f i j

pub rows_none : (m row : ℕ) (words old : List (ℕ × ℕ)) → Adds (above_row (row + 0) (laid (bits_cells m) row words)) old old
rows_none m row words old = adds_none old (λ x y h. (let a = and_parts (ltb x (row + 0)) _ h in
    let l = ltb-true x (row + 0) a.0 in
    let b = (laid_rows m row words x y a.1).0 in
    omega (arith, l, b)))

pub rows_more : (m row i : ℕ) (words : List (ℕ × ℕ)) {old now new : List (ℕ × ℕ)} → Adds (above_row (row + i) (laid (bits_cells m) row words)) old now → Adds (on_row (row + i) (laid (bits_cells m) row words)) now new → Adds (above_row (row + (i + 1)) (laid (bits_cells m) row words)) old new
rows_more m row i words s t = adds_same to back (adds_on s t (λ x y k l h g.
    (let a = and_parts (ltb x (row + i)) (f x y) h in
    let b = and_parts (eqb k (row + i)) (f k l) g in
    let p = ltb-true x (row + i) a.0 in
    let q = eqb-true k (row + i) b.0 in
    before_by_row x y k l (omega (arith, p, q)))))
  where
    f : Cells
    f = laid (bits_cells m) row words

    to : (x y : ℕ) → (above_row (row + i) f x y || on_row (row + i) f x y) ≡ true → above_row (row + (i + 1)) f x y ≡ true
    to x y h = elim (or_cases (above_row (row + i) f x y) (on_row (row + i) f x y) h) [
      | inl g ↦ (let a = and_parts (ltb x (row + i)) (f x y) g in
          let p = ltb-true x (row + i) a.0 in
          and_from (ltb x (row + (i + 1))) (f x y) (lt-ltb x (row + (i + 1)) (omega (arith, p))) a.1)
      | inr g ↦ (let a = and_parts (eqb x (row + i)) (f x y) g in
          let p = eqb-true x (row + i) a.0 in
          and_from (ltb x (row + (i + 1))) (f x y) (lt-ltb x (row + (i + 1)) (omega (arith, p))) a.1)
    ]

    back : (x y : ℕ) → above_row (row + (i + 1)) f x y ≡ true → (above_row (row + i) f x y || on_row (row + i) f x y) ≡ true
    back x y h =
        let a = and_parts (ltb x (row + (i + 1))) (f x y) h in
        let l = ltb-true x (row + (i + 1)) a.0 in
        elim (cases_lt x (row + i)) [
          | inl k ↦ or_here (above_row (row + i) f x y) _ (and_from (ltb x (row + i)) (f x y) (lt-ltb x (row + i) k) a.1)
          | inr k ↦ or_right (above_row (row + i) f x y) _ (and_from (eqb x (row + i)) (f x y) (eq-eqb x (row + i) (omega (arith, l, k))) a.1)
        ]

pub rows_all : (m row i : ℕ) (words : List (ℕ × ℕ)) {old new : List (ℕ × ℕ)} → m ≤ i → Adds (above_row (row + i) (laid (bits_cells m) row words)) old new → Adds (laid (bits_cells m) row words) old new
rows_all m row i words l s = adds_same (λ x y h. (and_parts (ltb x (row + i)) _ h).1)
    (λ x y h. (let b = (laid_rows m row words x y h).1 in and_from (ltb x (row + i)) _ (lt-ltb x (row + i) (omega (arith, b, l))) h)) s
