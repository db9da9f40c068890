-- The squares of the numbers of a file: what a number stands for, and that different numbers stand for different squares.
-- 1. A number at a height is 0, the cell's, or that of a listed square whose parts are numbers at the height below.
-- 2. Its cells lie within its square, and there are none exactly if the number is 0.
-- 3. Where no square is listed twice, numbers of one height with the same cells are one: their quarters have the same cells.
use Rattle.std.proofs.Common.{◌≡◌, ◌≢◌, ◌<◌, ◌⊎◌, ◌+◌, ◌-◌, ◌^◌, ◌&&◌, not, ltb, cond, eqb, zero, suc, ℕ, Bool, true, false, List, [], ◌∷◌, Option, Some, None, refl, sym, ap, subst, ◌∙◌, inl, inr, arith}
use Rattle.std.specs.Prelude.{slice_get, unwrap_or, filter}
use Rattle.std.proofs.lemmas.Bool.{cases_lt, lt-ltb, le-ltb, lt-leb, eqb-true, and_parts, false≢true}
use Rattle.rel_model.specs.Relation.{IsRelation, relation_of}
use Rattle.rel_model.specs.Listed.{is_among}
use Rattle.rel_model.specs.Cells.{Cells, no_cells}
use Rattle.rel_model.specs.Trees.{quartered}
use Rattle.rel_model.specs.Quarters.{LiesWithin}
use Rattle.rel_model.proofs.Pairs.{all-member}
use Rattle.rel_model.proofs.Relations.{IsRelation-relation_of, has-relation_of, relation_of-agree, of_itself}
use Rattle.rel_model.proofs.Rooting.{same_within}
use Rattle.rel_model.proofs.TreeLaws.{same_cells}
use Rattle.run_model.specs.SharedFiles.{Quadrant, no_quadrant, parts_of, no_parts, quadrant_at, cells_told}
use Rattle.run_model.specs.SharedBytes.{quarter}

-- ---- squares as sets of cells
pub two-halves : (h : ℕ) → 2 ^ h + 2 ^ h ≡ 2 ^ suc h
two-halves h = omega arith

-- the pairs of a set of cells within a square
abbrev pub pairs_of : ℕ → Cells → List (ℕ × ℕ)
pairs_of side f = (relation_of side side f).pairs

as_relation : (side : ℕ) (f : Cells) → relation_of side side f ≡ record { rows = side; cols = side; pairs = pairs_of side f }
unfolding relation_of
as_relation side f = refl

pub pairs_valid : (side : ℕ) (f : Cells) → IsRelation (record { rows = side; cols = side; pairs = pairs_of side f })
pairs_valid side f = subst IsRelation (as_relation side f) (IsRelation-relation_of side side f)

pub pairs_agree : (side : ℕ) (f g : Cells) → ((i j : ℕ) → i < side → j < side → f i j ≡ g i j) → pairs_of side f ≡ pairs_of side g
pairs_agree side f g h = ap (λ r. r.pairs) (relation_of-agree side side f g h)

pub among_within : (m n : ℕ) (ps : List (ℕ × ℕ)) → IsRelation (record { rows = m; cols = n; pairs = ps }) → LiesWithin m n (is_among ps)
among_within m n ps v = record {
  row = λ i j h. (all-member (λ p. (p.0 < m) × (p.1 < n)) ps (i, j) v.within h).0;
  col = λ i j h. (all-member (λ p. (p.0 < m) × (p.1 < n)) ps (i, j) v.within h).1;
}

-- a set within its square is that of its pairs
pub among_pairs : (side : ℕ) (f : Cells) → LiesWithin side side f → is_among (pairs_of side f) ≡ f
among_pairs side f w =
    same_within side side (is_among (pairs_of side f)) f (among_within side side (pairs_of side f) (pairs_valid side f)) w
    (λ i j a b. has-relation_of side side f i j a b)

-- the pairs of a square are those of its set
pub pairs_among : (side : ℕ) (ps : List (ℕ × ℕ)) → IsRelation (record { rows = side; cols = side; pairs = ps }) → pairs_of side (is_among ps) ≡ ps
pairs_among side ps v = sym (ap (λ r. r.pairs) (of_itself (record { rows = side; cols = side; pairs = ps }) v))

-- ---- quarters
module _ (m : ℕ) (a b c d : Cells) where
  pub nw_cell : (i j : ℕ) → i < m → j < m → quartered m a b c d i j ≡ a i j
  nw_cell i j x y = rw (lt-ltb i m x, lt-ltb j m y) refl

  pub ne_cell : (i j : ℕ) → i < m → quartered m a b c d i (m + j) ≡ b i j
  ne_cell i j x = rw (lt-ltb i m x, le-ltb (m + j) m (omega arith)) (ap (b i) (back m j))
    where
      back : (m j : ℕ) → (m + j) - m ≡ j
      back m j = omega arith

  pub sw_cell : (i j : ℕ) → j < m → quartered m a b c d (m + i) j ≡ c i j
  sw_cell i j y = rw (le-ltb (m + i) m (omega arith), lt-ltb j m y) (ap (λ x. c x j) (back m i))
    where
      back : (m j : ℕ) → (m + j) - m ≡ j
      back m j = omega arith

  pub se_cell : (i j : ℕ) → quartered m a b c d (m + i) (m + j) ≡ d i j
  se_cell i j = rw (le-ltb (m + i) m (omega arith), le-ltb (m + j) m (omega arith)) (λ k. d (back m i k) (back m j k))
    where
      back : (m j : ℕ) → (m + j) - m ≡ j
      back m j = omega arith

  -- four sets within squares of side m make one within side 2 m: a cell lies in one quarter,
  -- whose set bounds its offsets
  pub within_quartered : LiesWithin m m a → LiesWithin m m b → LiesWithin m m c → LiesWithin m m d → LiesWithin (m + m) (m + m) (quartered m a b c d)
  within_quartered v w x y = record {
    row = λ i j h. (both i j h).0;
    col = λ i j h. (both i j h).1;
  }
    where
      both : (i j : ℕ) → quartered m a b c d i j ≡ true → (i < m + m) × (j < m + m)
      both i j h = elim (cases_lt i m) [
        | inl p ↦ elim (cases_lt j m) [
          | inl q ↦ (omega (arith, p), omega (arith, q))
          | inr q ↦
              let e : b i (j - m) ≡ true = sym (ap (λ t. cond t (cond (ltb j m) (a i j) (b i (j - m))) (cond (ltb j m) (c (i - m) j) (d (i - m) (j - m)))) (lt-ltb i m p) ∙ ap (λ t. cond t (a i j) (b i (j - m))) (le-ltb j m q)) ∙ h in
              (omega (arith, p), omega (arith, q, w.col i (j - m) e))
        ]
        | inr p ↦ elim (cases_lt j m) [
          | inl q ↦
              let e : c (i - m) j ≡ true = sym (ap (λ t. cond t (cond (ltb j m) (a i j) (b i (j - m))) (cond (ltb j m) (c (i - m) j) (d (i - m) (j - m)))) (le-ltb i m p) ∙ ap (λ t. cond t (c (i - m) j) (d (i - m) (j - m))) (lt-ltb j m q)) ∙ h in
              (omega (arith, p, x.row (i - m) j e), omega (arith, q))
          | inr q ↦
              let e : d (i - m) (j - m) ≡ true = sym (ap (λ t. cond t (cond (ltb j m) (a i j) (b i (j - m))) (cond (ltb j m) (c (i - m) j) (d (i - m) (j - m)))) (le-ltb i m p) ∙ ap (λ t. cond t (c (i - m) j) (d (i - m) (j - m))) (le-ltb j m q)) ∙ h in
              (omega (arith, p, y.row (i - m) (j - m) e), omega (arith, q, y.col (i - m) (j - m) e))
        ]
      ]

-- the four quarters of the pairs of four sets
module _ (m : ℕ) (a b c d : Cells) (va : LiesWithin m m a) (vb : LiesWithin m m b) (vc : LiesWithin m m c) (vd : LiesWithin m m d) where
  whole_is : is_among (pairs_of (m + m) (quartered m a b c d)) ≡ quartered m a b c d
  whole_is = among_pairs (m + m) (quartered m a b c d) (within_quartered m a b c d va vb vc vd)

  pub nw_quarter : quarter m 0 0 (pairs_of (m + m) (quartered m a b c d)) ≡ pairs_of m a
  nw_quarter = pairs_agree m (λ i j. is_among (pairs_of (m + m) (quartered m a b c d)) (0 + i) (0 + j)) a
      (λ i j x y. (λ k. whole_is k (from_zero i k) (from_zero j k)) ∙ nw_cell m a b c d i j x y)
    where
      from_zero : (n : ℕ) → 0 + n ≡ n
      from_zero n = omega arith

  pub ne_quarter : quarter m 0 m (pairs_of (m + m) (quartered m a b c d)) ≡ pairs_of m b
  ne_quarter = pairs_agree m (λ i j. is_among (pairs_of (m + m) (quartered m a b c d)) (0 + i) (m + j)) b
      (λ i j x y. (λ k. whole_is k (from_zero i k) (m + j)) ∙ ne_cell m a b c d i j x)
    where
      from_zero : (n : ℕ) → 0 + n ≡ n
      from_zero n = omega arith

  pub sw_quarter : quarter m m 0 (pairs_of (m + m) (quartered m a b c d)) ≡ pairs_of m c
  sw_quarter = pairs_agree m (λ i j. is_among (pairs_of (m + m) (quartered m a b c d)) (m + i) (0 + j)) c
      (λ i j x y. (λ k. whole_is k (m + i) (from_zero j k)) ∙ sw_cell m a b c d i j y)
    where
      from_zero : (n : ℕ) → 0 + n ≡ n
      from_zero n = omega arith

  -- the south-eastern quarter of the pairs is the fourth set's, cell by cell, as in the others
  pub se_quarter : quarter m m m (pairs_of (m + m) (quartered m a b c d)) ≡ pairs_of m d
  se_quarter = pairs_agree m (λ i j. is_among (pairs_of (m + m) (quartered m a b c d)) (m + i) (m + j)) d
      (λ i j x y. (λ k. whole_is k (m + i) (m + j)) ∙ se_cell m a b c d i j)

-- ---- numbers
-- a number at a height: none, the cell's, or that of a listed square of such parts, not all none
abbrev pub IsNumber : List Quadrant → ℕ → ℕ → Type 0
IsNumber quads zero n = (n ≡ 0) ⊎ (n ≡ 1)
IsNumber quads (suc h) n =
    (n ≡ 0) ⊎ ((k : ℕ) × (q : Quadrant) × (n ≡ k + 2) × (slice_get quads k ≡ Some q) × (no_parts (parts_of q) ≡ false)
    × IsNumber quads h q.nw × IsNumber quads h q.ne × IsNumber quads h q.sw × IsNumber quads h q.se)

-- no square is listed twice
abbrev pub IsDistinct : List Quadrant → Type 0
IsDistinct quads = (j k : ℕ) (q : Quadrant) → slice_get quads j ≡ Some q → slice_get quads k ≡ Some q → j ≡ k

-- one of the parts is there
part_there : (a b c d : ℕ) → no_parts (filter (λ n. not (eqb n 0)) (a ∷ b ∷ c ∷ d ∷ [])) ≡ false → (a ≢ 0) ⊎ ((b ≢ 0) ⊎ ((c ≢ 0) ⊎ (d ≢ 0)))
part_there zero zero zero zero h = absurd (false≢true (sym h))
part_there (suc a) b c d h = inl (λ e. omega (arith, e))
part_there zero (suc b) c d h = inr (inl (λ e. omega (arith, e)))
part_there zero zero (suc c) d h = inr (inr (inl (λ e. omega (arith, e))))
part_there zero zero zero (suc d) h = inr (inr (inr (λ e. omega (arith, e))))

module _ (quads : List Quadrant) where
  pub quadrant-listed : (k : ℕ) (q : Quadrant) → slice_get quads k ≡ Some q → quadrant_at quads (k + 2) ≡ q
  quadrant-listed k q h =
      ap (λ b. cond b no_quadrant (unwrap_or (slice_get quads ((k + 2) - 2)) no_quadrant)) (lt-leb (k + 2) 1 (omega arith))
      ∙ (ap (λ n. unwrap_or (slice_get quads n) no_quadrant) (less k) ∙ ap (λ o. unwrap_or o no_quadrant) h)
    where
      less : (k : ℕ) → (k + 2) - 2 ≡ k
      less k = omega arith

  -- number 0 has no cell
  pub zero_cells : (h : ℕ) → cells_told quads h 0 ≡ no_cells
  zero_cells zero = refl
  zero_cells (suc h) =
      (λ l. quartered (2 ^ h) (zero_cells h l) (zero_cells h l) (zero_cells h l) (zero_cells h l))
      ∙ same_cells (quartered (2 ^ h) no_cells no_cells no_cells no_cells) no_cells (λ i j. none (ltb i (2 ^ h)) (ltb j (2 ^ h)))
    where
      none : (b d : Bool) → cond b (cond d false false) (cond d false false) ≡ false
      none true true = refl
      none true false = refl
      none false true = refl
      none false false = refl

  pub cells_within : (h n : ℕ) → LiesWithin (2 ^ h) (2 ^ h) (cells_told quads h n)
  cells_within zero n = record {
    row = λ i j e. let p = and_parts (eqb i 0) (eqb j 0) (and_parts (eqb n 1) (eqb i 0 && eqb j 0) e).1 in let q = eqb-true i 0 p.0 in omega (arith, q);
    col = λ i j e. let p = and_parts (eqb i 0) (eqb j 0) (and_parts (eqb n 1) (eqb i 0 && eqb j 0) e).1 in let q = eqb-true j 0 p.1 in omega (arith, q);
  }
  cells_within (suc h) n =
      let q = quadrant_at quads n in
      subst (λ side. LiesWithin side side (cells_told quads (suc h) n)) (two-halves h)
      (within_quartered (2 ^ h) (cells_told quads h q.nw) (cells_told quads h q.ne) (cells_told quads h q.sw) (cells_told quads h q.se)
      (cells_within h q.nw) (cells_within h q.ne) (cells_within h q.sw) (cells_within h q.se))

  -- the cells of a listed square are those of its parts
  pub cells_listed : (h k : ℕ) (q : Quadrant) → slice_get quads k ≡ Some q →
      cells_told quads (suc h) (k + 2) ≡ quartered (2 ^ h) (cells_told quads h q.nw) (cells_told quads h q.ne) (cells_told quads h q.sw) (cells_told quads h q.se)
  cells_listed h k q at =
      ap (λ x. quartered (2 ^ h) (cells_told quads h x.nw) (cells_told quads h x.ne) (cells_told quads h x.sw) (cells_told quads h x.se)) (quadrant-listed k q at)

  -- another number than 0 has a cell
  pub some_cell : (h n : ℕ) → IsNumber quads h n → n ≢ 0 → (i j : ℕ) × (cells_told quads h n i j ≡ true)
  some_cell zero n (inl e) other = absurd (other e)
  some_cell zero n (inr e) other = (0, 0, ap (λ m. eqb m 1 && (eqb 0 0 && eqb 0 0)) e)
  some_cell (suc h) n (inl e) other = absurd (other e)
  some_cell (suc h) n (inr (k, q, is, at, some, nw, ne, sw, se)) other =
      let m = 2 ^ h in
      let a = cells_told quads h q.nw in
      let b = cells_told quads h q.ne in
      let c = cells_told quads h q.sw in
      let d = cells_told quads h q.se in
      let whole : cells_told quads (suc h) n ≡ quartered m a b c d = ap (cells_told quads (suc h)) is ∙ cells_listed h k q at in
      elim (part_there q.nw q.ne q.sw q.se some) [
        | inl x ↦ let w = some_cell h q.nw nw x in
            (w.0, w.1, (λ l. whole l w.0 w.1) ∙ (nw_cell m a b c d w.0 w.1 ((cells_within h q.nw).row w.0 w.1 w.2) ((cells_within h q.nw).col w.0 w.1 w.2) ∙ w.2))
        | inr (inl x) ↦ let w = some_cell h q.ne ne x in
            (w.0, m + w.1, (λ l. whole l w.0 (m + w.1)) ∙ (ne_cell m a b c d w.0 w.1 ((cells_within h q.ne).row w.0 w.1 w.2) ∙ w.2))
        | inr (inr (inl x)) ↦ let w = some_cell h q.sw sw x in
            (m + w.0, w.1, (λ l. whole l (m + w.0) w.1) ∙ (sw_cell m a b c d w.0 w.1 ((cells_within h q.sw).col w.0 w.1 w.2) ∙ w.2))
        | inr (inr (inr x)) ↦ let w = some_cell h q.se se x in
            (m + w.0, m + w.1, (λ l. whole l (m + w.0) (m + w.1)) ∙ (se_cell m a b c d w.0 w.1 ∙ w.2))
      ]

  -- equal wholes have equal quarters
  parts_agree : (h : ℕ) (p q : Quadrant) →
      quartered (2 ^ h) (cells_told quads h p.nw) (cells_told quads h p.ne) (cells_told quads h p.sw) (cells_told quads h p.se)
      ≡ quartered (2 ^ h) (cells_told quads h q.nw) (cells_told quads h q.ne) (cells_told quads h q.sw) (cells_told quads h q.se) →
      (cells_told quads h p.nw ≡ cells_told quads h q.nw) × (cells_told quads h p.ne ≡ cells_told quads h q.ne)
      × (cells_told quads h p.sw ≡ cells_told quads h q.sw) × (cells_told quads h p.se ≡ cells_told quads h q.se)
  parts_agree h p q e =
      let m = 2 ^ h in
      let t = cells_told quads h in (
        same_within m m (t p.nw) (t q.nw) (cells_within h p.nw) (cells_within h q.nw)
            (λ i j x y. sym (nw_cell m (t p.nw) (t p.ne) (t p.sw) (t p.se) i j x y) ∙ ((λ l. e l i j) ∙ nw_cell m (t q.nw) (t q.ne) (t q.sw) (t q.se) i j x y)),
        same_within m m (t p.ne) (t q.ne) (cells_within h p.ne) (cells_within h q.ne)
            (λ i j x y. sym (ne_cell m (t p.nw) (t p.ne) (t p.sw) (t p.se) i j x) ∙ ((λ l. e l i (m + j)) ∙ ne_cell m (t q.nw) (t q.ne) (t q.sw) (t q.se) i j x)),
        same_within m m (t p.sw) (t q.sw) (cells_within h p.sw) (cells_within h q.sw)
            (λ i j x y. sym (sw_cell m (t p.nw) (t p.ne) (t p.sw) (t p.se) i j y) ∙ ((λ l. e l (m + i) j) ∙ sw_cell m (t q.nw) (t q.ne) (t q.sw) (t q.se) i j y)),
        same_within m m (t p.se) (t q.se) (cells_within h p.se) (cells_within h q.se)
            (λ i j x y. sym (se_cell m (t p.nw) (t p.ne) (t p.sw) (t p.se) i j) ∙ ((λ l. e l (m + i) (m + j)) ∙ se_cell m (t q.nw) (t q.ne) (t q.sw) (t q.se) i j)),
      )

  no_cell_zero : (h n : ℕ) → IsNumber quads h n → cells_told quads h n ≡ no_cells → n ≡ 0
  no_cell_zero h zero is e = refl
  no_cell_zero h (suc n) is e =
      let w = some_cell h (suc n) is (λ z. omega (arith, z)) in absurd (false≢true (sym (λ l. e l w.0 w.1) ∙ w.2))

  -- numbers of one height with the same cells are one
  pub one_number : IsDistinct quads → (h m n : ℕ) → IsNumber quads h m → IsNumber quads h n → cells_told quads h m ≡ cells_told quads h n → m ≡ n
  one_number distinct zero m n x y e = told m n x y (λ i. e i 0 0)
    where
      told : (m n : ℕ) → (m ≡ 0) ⊎ (m ≡ 1) → (n ≡ 0) ⊎ (n ≡ 1) → (eqb m 1 && (eqb 0 0 && eqb 0 0)) ≡ (eqb n 1 && (eqb 0 0 && eqb 0 0)) → m ≡ n
      told m n (inl a) (inl b) e = a ∙ sym b
      told m n (inr a) (inr b) e = a ∙ sym b
      told m n (inl a) (inr b) e = absurd (false≢true (sym (ap (λ z. eqb z 1 && (eqb 0 0 && eqb 0 0)) a) ∙ (e ∙ ap (λ z. eqb z 1 && (eqb 0 0 && eqb 0 0)) b)))
      told m n (inr a) (inl b) e = absurd (false≢true (sym (ap (λ z. eqb z 1 && (eqb 0 0 && eqb 0 0)) b) ∙ (sym e ∙ ap (λ z. eqb z 1 && (eqb 0 0 && eqb 0 0)) a)))
  one_number distinct (suc h) m n (inl a) y e = a ∙ sym (no_cell_zero (suc h) n y (sym e ∙ (ap (cells_told quads (suc h)) a ∙ zero_cells (suc h))))
  one_number distinct (suc h) m n (inr x) (inl b) e = no_cell_zero (suc h) m (inr x) (e ∙ (ap (cells_told quads (suc h)) b ∙ zero_cells (suc h))) ∙ sym b
  one_number distinct (suc h) m n (inr (j, p, mis, pat, psome, pnw, pne, psw, pse)) (inr (k, q, nis, qat, qsome, qnw, qne, qsw, qse)) e =
      let parts = parts_agree h p q (sym (ap (cells_told quads (suc h)) mis ∙ cells_listed h j p pat) ∙ (e ∙ (ap (cells_told quads (suc h)) nis ∙ cells_listed h k q qat))) in
      let nw = one_number distinct h p.nw q.nw pnw qnw parts.0 in
      let ne = one_number distinct h p.ne q.ne pne qne parts.1 in
      let sw = one_number distinct h p.sw q.sw psw qsw parts.2 in
      let se = one_number distinct h p.se q.se pse qse parts.3 in
      let same : p ≡ q = λ i. record { nw = nw i; ne = ne i; sw = sw i; se = se i } in
      mis ∙ (ap (λ z. z + 2) (distinct j k q (pat ∙ ap (λ z. Some z) same) qat) ∙ sym nis)

  -- another number than 0 has one height
  pub one_height : (g h n : ℕ) → IsNumber quads g n → IsNumber quads h n → n ≢ 0 → g ≡ h
  one_height zero zero n x y other = refl
  one_height zero (suc h) n (inl a) y other = absurd (other a)
  one_height zero (suc h) n (inr a) (inl b) other = absurd (other b)
  one_height zero (suc h) n (inr a) (inr y) other = let b = y.2 in absurd (omega (arith, a, b))
  one_height (suc g) zero n (inl a) y other = absurd (other a)
  one_height (suc g) zero n (inr x) (inl b) other = absurd (other b)
  one_height (suc g) zero n (inr x) (inr b) other = let a = x.2 in absurd (omega (arith, b, a))
  one_height (suc g) (suc h) n (inl a) y other = absurd (other a)
  one_height (suc g) (suc h) n (inr x) (inl b) other = absurd (other b)
  one_height (suc g) (suc h) n (inr (j, p, mis, pat, psome, pnw, pne, psw, pse)) (inr (k, q, nis, qat, qsome, qnw, qne, qsw, qse)) other =
      let here : j ≡ k = omega (arith, mis, nis) in
      let same : p ≡ q = ap (or_else p) (sym pat ∙ (ap (slice_get quads) here ∙ qat)) in
      ap suc (elim (part_there p.nw p.ne p.sw p.se psome) [
        | inl x ↦ one_height g h p.nw pnw (subst (λ z. IsNumber quads h z.nw) (sym same) qnw) x
        | inr (inl x) ↦ one_height g h p.ne pne (subst (λ z. IsNumber quads h z.ne) (sym same) qne) x
        | inr (inr (inl x)) ↦ one_height g h p.sw psw (subst (λ z. IsNumber quads h z.sw) (sym same) qsw) x
        | inr (inr (inr x)) ↦ one_height g h p.se pse (subst (λ z. IsNumber quads h z.se) (sym same) qse) x
      ])
    where
      or_else : Quadrant → Option Quadrant → Quadrant
      or_else d None = d
      or_else d (Some z) = z
