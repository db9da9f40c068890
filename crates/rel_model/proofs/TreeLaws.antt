-- Laws of trees: a name that stands keeps standing with its set, a set lies within its sizes, and one set has one name.
-- 1. A name that stands at the next depth is stored, and both its halves stand at this one (`standing`, `stands_from`, `parts_stand`).
-- 2. By recursion on the depth, what stands keeps standing, with the same cells (`kept_stands`, `kept_cells`).
-- 3. A set of a depth lies within the rows and columns of that depth (`cells_within`), so two halves are read back from their pairing (`paired_halves`).
-- 4. By recursion on the depth, equal sets have equal halves, hence equal words, hence one name (`one_set_one_name`).
use Rattle.std.proofs.Common.{◌≡◌, ◌<◌, ◌≤◌, ◌≢◌, ◌+◌, ◌-◌, ◌*◌, ◌/◌, ◌%◌, ◌&&◌, ◌⊎◌, eqb, ltb, zero, suc, ℕ, true, false, cond, List, length, refl, sym, ap, subst, ◌∙◌, inl, inr, arith, get_or}
use Rattle.std.proofs.lemmas.Bool.{false≢true, cases_Bool, cases_lt, ltb-true, ltb-false, lt-ltb, le-ltb, eqb-true, eqb-false, eq-eqb, ne_eqb, and_parts, and_from, or_cases, or_left, or_right, and_right, not_from_true, not_from_false}
use Rattle.std.proofs.lemmas.List.{get_or_past}
use Rattle.std.proofs.lemmas.Nat.Bits.{same_from_bits_below, bit_at-lt, bit_at-zero}
use Rattle.std.specs.Int.{bit_at}
use Rattle.rel_model.specs.Cells.{Cells, block_cells, no_cells}
use Rattle.rel_model.specs.Trees.{first_of, second_of, beside, above, is_square, rows_at, cols_at, paired, cells, is_stored, stands}
use Rattle.rel_model.specs.Words.{Extends, IsDistinct}

-- ---- what is stored
pub stored_not_0 : (words : List ℕ) (n : ℕ) → is_stored words n ≡ true → get_or words n 0 ≢ 0
stored_not_0 words n s e = false≢true (sym (not_from_true _ (eq-eqb _ _ e)) ∙ s)

pub stored_from : (words : List ℕ) (n : ℕ) → get_or words n 0 ≢ 0 → is_stored words n ≡ true
stored_from words n h = not_from_false _ (ne_eqb (get_or words n 0) 0 h)

-- ---- what stands stays
pub record Standing (words : List ℕ) (k n : ℕ) : Type 0 where
  pub stored : get_or words n 0 ≢ 0
  pub first : stands words k (first_of (get_or words n 0)) ≡ true
  pub second : stands words k (second_of (get_or words n 0)) ≡ true

pub standing : (words : List ℕ) (k n : ℕ) → n ≢ 0 → stands words (suc k) n ≡ true → Standing words k n
standing words k n h s =
    elim (or_cases _ _ s) [
      | inl e ↦ absurd (h (eqb-true n 0 e))
      | inr e ↦ let a = and_parts _ _ e in let b = and_parts _ _ a.1 in record { stored = stored_not_0 words n a.0; first = b.0; second = b.1 }
    ]

pub stands_from : (words : List ℕ) (k n : ℕ) → Standing words k n → stands words (suc k) n ≡ true
stands_from words k n s = or_right (eqb n 0) _ (and_from _ _ (stored_from words n s.stored) (and_from _ _ s.first s.second))

pub zero_stands : (words : List ℕ) (k : ℕ) → stands words k 0 ≡ true
zero_stands words zero = refl
zero_stands words (suc k) = refl

-- what stands keeps standing as words are added: by induction on the depth, since its word is kept and its halves stand
pub kept_stands : (old new : List ℕ) → Extends old new → (k n : ℕ) → stands old k n ≡ true → stands new k n ≡ true
kept_stands old new x zero n s =
    elim (or_cases _ _ s) [
      | inl e ↦ or_left (eqb n 0) _ e
      | inr e ↦ or_right (eqb n 0) _ (let h = stored_not_0 old n e in stored_from new n (λ z. h (sym (x.kept n h) ∙ z)))
    ]
kept_stands old new x (suc k) n s =
    elim (or_cases _ _ s) [
      | inl e ↦ or_left (eqb n 0) _ e
      | inr e ↦ let a = and_parts _ _ e in
          let b = and_parts _ _ a.1 in
          let h = stored_not_0 old n a.0 in
          let w : get_or old n 0 ≡ get_or new n 0 = sym (x.kept n h) in
          stands_from new k n
          (record {
            stored = λ z. h (w ∙ z);
            first = subst (λ (v : ℕ). stands new k (first_of v) ≡ true) w (kept_stands old new x k _ b.0);
            second = subst (λ (v : ℕ). stands new k (second_of v) ≡ true) w (kept_stands old new x k _ b.1);
          })
    ]

-- ---- name 0 has no cell
-- two sets with the same cells are one
pub same_cells : (f g : Cells) → ((i j : ℕ) → f i j ≡ g i j) → f ≡ g
same_cells f g h = λ t i j. h i j t

no_bits : (i j : ℕ) → block_cells 0 i j ≡ false
no_bits i j = and_right (ltb i 8) _ (and_right (ltb j 8) _ (ne_eqb (bit_at 0 (8 * i + j)) 1 (λ e. let z = bit_at-zero (8 * i + j) in omega arith)))

pub paired_none : (k : ℕ) → paired k no_cells no_cells ≡ no_cells
paired_none k = same_cells _ _ (λ i j. elim (cases_Bool (is_square k)) [
  | inl e ↦ rw e (elim (cases_Bool (ltb j (cols_at k))) [ inl d ↦ rw d refl | inr d ↦ rw d refl ])
  | inr e ↦ rw e (elim (cases_Bool (ltb i (rows_at k))) [ inl d ↦ rw d refl | inr d ↦ rw d refl ])
])

pub zero_cells : (words : List ℕ) → get_or words 0 0 ≡ 0 → (k : ℕ) → cells words k 0 ≡ no_cells
zero_cells words z zero = ap block_cells z ∙ same_cells _ _ no_bits
zero_cells words z (suc k) =
    ap (λ (w : ℕ). paired k (cells words k (first_of w)) (cells words k (second_of w))) z
    ∙ ap (λ (f : Cells). paired k f f) (zero_cells words z k) ∙ paired_none k

-- ---- a set stays
pub kept_cells : (old new : List ℕ) → Extends old new → get_or old 0 0 ≡ 0 → get_or new 0 0 ≡ 0 → (k n : ℕ) → stands old k n ≡ true → cells new k n ≡ cells old k n
kept_cells old new x y z zero n s =
    elim (or_cases _ _ s) [
      | inl e ↦ let n0 : n ≡ 0 = eqb-true n 0 e in ap block_cells (ap (λ (m : ℕ). get_or new m 0) n0 ∙ z ∙ sym y ∙ ap (λ (m : ℕ). get_or old m 0) (sym n0))
      | inr e ↦ ap block_cells (x.kept n (stored_not_0 old n e))
    ]
kept_cells old new x y z (suc k) n s =
    elim (or_cases _ _ s) [
      | inl e ↦ let n0 : n ≡ 0 = eqb-true n 0 e in
          ap (cells new (suc k)) n0 ∙ zero_cells new z (suc k) ∙ sym (zero_cells old y (suc k)) ∙ ap (cells old (suc k)) (sym n0)
      | inr e ↦ let a = and_parts _ _ e in
          let b = and_parts _ _ a.1 in
          ap (λ (w : ℕ). paired k (cells new k (first_of w)) (cells new k (second_of w))) (x.kept n (stored_not_0 old n a.0))
          ∙ ap (λ (f : Cells). paired k f (cells new k (second_of (get_or old n 0)))) (kept_cells old new x y z k _ b.0)
          ∙ ap (λ (g : Cells). paired k (cells old k (first_of (get_or old n 0))) g) (kept_cells old new x y z k _ b.1)
    ]

-- ---- a set lies within its sizes
pub record Within (m n : ℕ) (f : Cells) : Type 0 where
  pub row : (i j : ℕ) → f i j ≡ true → i < m
  pub col : (i j : ℕ) → f i j ≡ true → j < n

block_within : (bits : ℕ) → Within 8 8 (block_cells bits)
block_within bits = record {
  row = λ i j h. ltb-true i 8 (and_parts _ _ h).0;
  col = λ i j h. ltb-true j 8 (and_parts _ _ (and_parts _ _ h).1).0;
}

beside_within : (m n : ℕ) (f g : Cells) → Within m n f → Within m n g → Within m (n + n) (beside n f g)
beside_within m n f g v w = record {
  row = λ i j h. elim (cases_Bool (ltb j n)) [ inl d ↦ v.row i j (rw d at h) | inr d ↦ w.row i (j - n) (rw d at h) ];
  col = λ i j h. elim (cases_Bool (ltb j n)) [ inl d ↦ let b = ltb-true j n d in omega arith | inr d ↦ let b = w.col i (j - n) (rw d at h) in omega arith ];
}

above_within : (m n : ℕ) (f g : Cells) → Within m n f → Within m n g → Within (m + m) n (above m f g)
above_within m n f g v w = record {
  row = λ i j h. elim (cases_Bool (ltb i m)) [ inl d ↦ let b = ltb-true i m d in omega arith | inr d ↦ let b = w.row (i - m) j (rw d at h) in omega arith ];
  col = λ i j h. elim (cases_Bool (ltb i m)) [ inl d ↦ v.col i j (rw d at h) | inr d ↦ w.col (i - m) j (rw d at h) ];
}

paired_within : (k : ℕ) (f g : Cells) → Within (rows_at k) (cols_at k) f → Within (rows_at k) (cols_at k) g → Within (rows_at (suc k)) (cols_at (suc k)) (paired k f g)
paired_within k f g v w = elim (cases_Bool (is_square k)) [
  | inl e ↦ rw e (beside_within (rows_at k) (cols_at k) f g v w)
  | inr e ↦ rw e (above_within (rows_at k) (cols_at k) f g v w)
]

pub cells_within : (words : List ℕ) (k n : ℕ) → Within (rows_at k) (cols_at k) (cells words k n)
cells_within words zero n = block_within (get_or words n 0)
cells_within words (suc k) n = paired_within k _ _ (cells_within words k _) (cells_within words k _)

-- ---- one set has one name
pub out_of : (m n : ℕ) (f : Cells) → Within m n f → (i j : ℕ) → (m ≤ i) ⊎ (n ≤ j) → f i j ≡ false
out_of m n f w i j h = elim (cases_Bool (f i j)) [
  | inl e ↦ absurd (elim h [ inl a ↦ (let b = w.row i j e in omega arith) | inr a ↦ (let b = w.col i j e in omega arith) ])
  | inr e ↦ e
]

pub record Halves (f g x y : Cells) : Type 0 where
  pub firsts : f ≡ x
  pub seconds : g ≡ y

-- two sets side by side are told apart: columns below n belong to the first, which lies within them, and later ones to
-- the second
beside_halves : (m n : ℕ) (f g x y : Cells) → Within m n f → Within m n x → beside n f g ≡ beside n x y → Halves f g x y
beside_halves m n f g x y v w e = record {
  firsts = same_cells f x (λ i j. elim (cases_Bool (ltb j n)) [
    | inl d ↦ (let h : cond (ltb j n) (f i j) (g i (j - n)) ≡ cond (ltb j n) (x i j) (y i (j - n)) = ap (λ (c : Cells). c i j) e in rw d at h)
    | inr d ↦ let b = ltb-false j n d in out_of m n f v i j (inr b) ∙ sym (out_of m n x w i j (inr b))
  ]);
  seconds = same_cells g y (λ i j.
      let h : cond (ltb (j + n) n) (f i (j + n)) (g i (j + n - n)) ≡ cond (ltb (j + n) n) (x i (j + n)) (y i (j + n - n)) = ap (λ (c : Cells). c i (j + n)) e in
      let d : ltb (j + n) n ≡ false = le-ltb (j + n) n (omega arith) in
      let b : j + n - n ≡ j = omega arith in
      rw (d, b) at h);
}

-- so are two sets one above the other: rows below m belong to the first, and later ones to the second
above_halves : (m n : ℕ) (f g x y : Cells) → Within m n f → Within m n x → above m f g ≡ above m x y → Halves f g x y
above_halves m n f g x y v w e = record {
  firsts = same_cells f x (λ i j. elim (cases_Bool (ltb i m)) [
    | inl d ↦ (let h : cond (ltb i m) (f i j) (g (i - m) j) ≡ cond (ltb i m) (x i j) (y (i - m) j) = ap (λ (c : Cells). c i j) e in rw d at h)
    | inr d ↦ let b = ltb-false i m d in out_of m n f v i j (inl b) ∙ sym (out_of m n x w i j (inl b))
  ]);
  seconds = same_cells g y (λ i j.
      let h : cond (ltb (i + m) m) (f (i + m) j) (g (i + m - m) j) ≡ cond (ltb (i + m) m) (x (i + m) j) (y (i + m - m) j) = ap (λ (c : Cells). c (i + m) j) e in
      let d : ltb (i + m) m ≡ false = le-ltb (i + m) m (omega arith) in
      let b : i + m - m ≡ i = omega arith in
      rw (d, b) at h);
}

pub paired_halves : (k : ℕ) (f g x y : Cells) → Within (rows_at k) (cols_at k) f → Within (rows_at k) (cols_at k) x → paired k f g ≡ paired k x y → Halves f g x y
paired_halves k f g x y v w e = elim (cases_Bool (is_square k)) [
  | inl d ↦ beside_halves (rows_at k) (cols_at k) f g x y v w (rw d at e)
  | inr d ↦ above_halves (rows_at k) (cols_at k) f g x y v w (rw d at e)
]

-- one word has one name
one_name : (words : List ℕ) → IsDistinct words → (k a b : ℕ) → stands words k a ≡ true → stands words k b ≡ true → get_or words a 0 ≡ get_or words b 0 → a ≡ b
one_name words w k a b s t e = elim (cases_0 k a s) [
  | inl x ↦ elim (cases_0 k b t) [ inl y ↦ x ∙ sym y | inr y ↦ absurd (y (sym e ∙ ap (λ (m : ℕ). get_or words m 0) x ∙ w.none_at_0)) ]
  | inr x ↦ w.one_place a b x e
]
  where
    cases_0 : (k n : ℕ) → stands words k n ≡ true → (n ≡ 0) ⊎ (get_or words n 0 ≢ 0)
    cases_0 zero n s = elim (or_cases _ _ s) [ inl e ↦ inl (eqb-true n 0 e) | inr e ↦ inr (stored_not_0 words n e) ]
    cases_0 (suc k) n s = elim (or_cases _ _ s) [ inl e ↦ inl (eqb-true n 0 e) | inr e ↦ inr (stored_not_0 words n (and_parts _ _ e).0) ]

-- the names of a name stand at the depth below
pub parts_stand : (words : List ℕ) → IsDistinct words → (k n : ℕ) → stands words (suc k) n ≡ true
    → (stands words k (first_of (get_or words n 0)) ≡ true) × (stands words k (second_of (get_or words n 0)) ≡ true)
parts_stand words w k n s = elim (or_cases _ _ s) [
  | inl e ↦ let z : 0 ≡ get_or words n 0 = sym (ap (λ (m : ℕ). get_or words m 0) (eqb-true n 0 e) ∙ w.none_at_0) in
      (subst (λ (v : ℕ). stands words k (first_of v) ≡ true) z (zero_stands words k), subst (λ (v : ℕ). stands words k (second_of v) ≡ true) z (zero_stands words k))
  | inr e ↦ and_parts _ _ (and_parts _ _ e).1
]

-- the bits of a block from its cells
cell_of_bit : (u v : ℕ) → block_cells u ≡ block_cells v → (m : ℕ) → m < 64 → bit_at u m ≡ bit_at v m
cell_of_bit u v e m l =
    let i : ℕ = m / 8 in
    let j : ℕ = m % 8 in
    let h : (ltb i 8 && (ltb j 8 && eqb (bit_at u (8 * i + j)) 1)) ≡ (ltb i 8 && (ltb j 8 && eqb (bit_at v (8 * i + j)) 1)) = ap (λ (c : Cells). c i j) e in
    let a : ltb i 8 ≡ true = lt-ltb i 8 (omega arith) in
    let b : ltb j 8 ≡ true = lt-ltb j 8 (omega arith) in
    let c : 8 * i + j ≡ m = omega arith in
    let t : eqb (bit_at u m) 1 ≡ eqb (bit_at v m) 1 = rw (a, b, c) at h in
    same_bit (bit_at u m) (bit_at v m) (bit_at-lt u m) (bit_at-lt v m) t
  where
    same_bit : (p q : ℕ) → p < 2 → q < 2 → eqb p 1 ≡ eqb q 1 → p ≡ q
    same_bit p q x y t = elim (cases_Bool (eqb p 1)) [
      | inl e ↦ eqb-true p 1 e ∙ sym (eqb-true q 1 (sym t ∙ e))
      | inr e ↦ let a = eqb-false p 1 e in let b = eqb-false q 1 (sym t ∙ e) in omega arith
    ]

-- Two names that stand at one depth and have one set are one name.
pub one_set_one_name : (words : List ℕ) → IsDistinct words → (k a b : ℕ) → stands words k a ≡ true → stands words k b ≡ true → cells words k a ≡ cells words k b → a ≡ b
one_set_one_name words w zero a b s t e =
    one_name words w zero a b s t (same_from_bits_below 64 (get_or words a 0) (get_or words b 0) (w.fits a) (w.fits b) (cell_of_bit _ _ e))
one_set_one_name words w (suc k) a b s t e =
    let p = parts_stand words w k a s in
    let q = parts_stand words w k b t in
    let h = paired_halves k _ _ _ _ (cells_within words k _) (cells_within words k _) e in
    let x : first_of (get_or words a 0) ≡ first_of (get_or words b 0) = one_set_one_name words w k _ _ p.0 q.0 h.firsts in
    let y : second_of (get_or words a 0) ≡ second_of (get_or words b 0) = one_set_one_name words w k _ _ p.1 q.1 h.seconds in
    one_name words w (suc k) a b s t (omega arith)

-- ---- names are places
-- a stored name is a place of the words
pub stored_below : (words : List ℕ) (n : ℕ) → get_or words n 0 ≢ 0 → n < length words
stored_below words n h = elim (cases_lt n (length words)) [ inl l ↦ l | inr l ↦ absurd (h (get_or_past words n 0 l)) ]

-- a name that stands is a place of the words
pub stands-below : (words : List ℕ) → 0 < length words → (k n : ℕ) → stands words k n ≡ true → n < length words
stands-below words z zero n s = elim (or_cases _ _ s) [
  | inl e ↦ let n0 : n ≡ 0 = eqb-true n 0 e in omega arith
  | inr e ↦ stored_below words n (stored_not_0 words n e)
]
stands-below words z (suc k) n s = elim (or_cases _ _ s) [
  | inl e ↦ let n0 : n ≡ 0 = eqb-true n 0 e in omega arith
  | inr e ↦ stored_below words n (stored_not_0 words n (and_parts _ _ e).0)
]
