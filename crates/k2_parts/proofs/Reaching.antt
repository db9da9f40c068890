-- How far a square's cells reach, from its quarters.
-- 1. The fewest rows of a quartered set are those of its southern half behind a side, or where that has no cell those of the northern.
-- 2. Columns are the rows of the transposed set, whose quarters are transposed and exchanged.
-- 3. As fewest rows and columns they tell whether a set lies within given ones.
use Rattle.std.proofs.Common.{◌≡◌, ◌≢◌, ◌<◌, ◌≤◌, ◌⊎◌, ◌+◌, ◌-◌, ◌^◌, ◌&&◌, max, leb, ltb, cond, eqb, zero, suc, ℕ, Bool, true, false, List, [], ◌∷◌, ◌++◌, length, get_or, Some, option_map, refl, sym, ap, subst, ◌∙◌, inl, inr, arith, length-append}
use Rattle.std.specs.Prelude.{slice_get}
use Rattle.std.proofs.lemmas.Bool.{cases_Bool, cases_lt, eqb-true, eq-eqb, ne_eqb, lt-ltb, le-ltb, le-leb, leb-true, and_parts, and_from, false≢true}
use Rattle.std.proofs.lemmas.Option.{slice_get_within, slice_get-get_or, get_or_from_slice_get, slice_get-map}
use Rattle.std.proofs.lemmas.List.{length-map}
use Rattle.std.proofs.Math.Nat.{le-max_left, le-max_right, pow-le-pow_right}
use Rattle.rel_model.specs.Relation.{size_height}
use Rattle.rel_model.specs.Cells.{Cells, cells_transpose}
use Rattle.rel_model.specs.Trees.{quartered}
use Rattle.rel_model.specs.Roots.{lies_within}
use Rattle.rel_model.specs.Quarters.{LiesWithin}
use Rattle.rel_model.proofs.TreeLaws.{same_cells}
use Rattle.rel_model.proofs.Rooting.{lies_within-means, lies_within-from}
use Rattle.run_model.specs.SharedFiles.{Quadrant, height_at, cells_told, is_root}
use Rattle.run_model.proofs.SharedCells.{IsNumber, nw_cell, ne_cell, sw_cell, se_cell, zero_cells, cells_within, cells_listed}
use Rattle.run_model.proofs.SharedTable.{get_next, get_back, one_of_two, IsTable}
use Rattle.run_model.proofs.SharedVisits.{not_true}
use Rattle.k2_parts.specs.declared.extents.Extent.{Extent}
use Rattle.k2_parts.specs.declared.form.Quadrant.{Quadrant as LISTED}
use Rattle.k2_parts.specs.Told.{quadrant_told, quadrants_told, AreSound}
use Rattle.k2_parts.specs.Extents.{reach_of, AreRowsOf, IsExtentOf, AreExtents, AreExtentsUpto}
use Rattle.k2_parts.proofs.Sound.{IsSoundAt, sound_table, sound_count, sound_at, sound_root, number_height, number_below}

-- ---- reaches
reach-none : (side first second : ℕ) → second ≡ 0 → reach_of side first second ≡ first
reach-none side first second e = ap (λ b. cond b first (side + second)) (eq-eqb second 0 e)

reach-more : (side first second : ℕ) → second ≢ 0 → reach_of side first second ≡ side + second
reach-more side first second e = ap (λ b. cond b first (side + second)) (ne_eqb second 0 e)

one_of_max : (a b x : ℕ) → max a b ≡ x → (a ≡ x) ⊎ (b ≡ x)
one_of_max a b x e = elim (cases_lt a b) [
  | inl l ↦ inr (omega (arith, e, l))
  | inr l ↦ inl (omega (arith, e, l))
]

-- ---- rows of a quartered set
module _ (m : ℕ) (a b c d : Cells) (va : LiesWithin m m a) (vb : LiesWithin m m b) (vc : LiesWithin m m c) (vd : LiesWithin m m d) where
  in_which : (i j : ℕ) → quartered m a b c d i j ≡ true →
      ((i < m) × ((k : ℕ) × ((a i k ≡ true) ⊎ (b i k ≡ true)))) ⊎ ((m ≤ i) × ((k : ℕ) × ((c (i - m) k ≡ true) ⊎ (d (i - m) k ≡ true))))
  in_which i j h = elim (cases_lt i m) [
    | inl p ↦
        let e : cond (ltb j m) (a i j) (b i (j - m)) ≡ true = sym (ap (λ t. cond t (cond (ltb j m) (a i j) (b i (j - m))) (cond (ltb j m) (c (i - m) j) (d (i - m) (j - m)))) (lt-ltb i m p)) ∙ h in
        inl (p, pick (ltb j m) a b i j (j - m) e)
    | inr p ↦
        let e : cond (ltb j m) (c (i - m) j) (d (i - m) (j - m)) ≡ true = sym (ap (λ t. cond t (cond (ltb j m) (a i j) (b i (j - m))) (cond (ltb j m) (c (i - m) j) (d (i - m) (j - m)))) (le-ltb i m p)) ∙ h in
        inr (p, pick (ltb j m) c d (i - m) j (j - m) e)
  ]
    where
      pick : (t : Bool) (f g : Cells) (i j k : ℕ) → cond t (f i j) (g i k) ≡ true → (n : ℕ) × ((f i n ≡ true) ⊎ (g i n ≡ true))
      pick true f g i j k e = (j, inl e)
      pick false f g i j k e = (k, inr e)

  -- the southern quarters, a side below the northern ones, reach down furthest unless they have no cell: each cell lies
  -- within the rows of a quarter, and the quarter that reaches furthest has a cell in its last row
  pub rows-quartered : (ra rb rc rd : ℕ) → AreRowsOf a ra → AreRowsOf b rb → AreRowsOf c rc → AreRowsOf d rd → AreRowsOf (quartered m a b c d) (reach_of m (max ra rb) (max rc rd))
  rows-quartered ra rb rc rd wa wb wc wd = record { inside = λ i j h. within i (in_which i j h); last = λ i e. at_last i e }
    where
      within : (i : ℕ) → ((i < m) × ((k : ℕ) × ((a i k ≡ true) ⊎ (b i k ≡ true)))) ⊎ ((m ≤ i) × ((k : ℕ) × ((c (i - m) k ≡ true) ⊎ (d (i - m) k ≡ true)))) → i < reach_of m (max ra rb) (max rc rd)
      within i (inl (l, (k, t))) =
          let less : i < max ra rb = elim t [
            | inl x ↦ (let y = wa.inside i k x in let z = le-max_left ra rb in omega (arith, y, z))
            | inr x ↦ (let y = wb.inside i k x in let z = le-max_right ra rb in omega (arith, y, z))
          ] in
          elim (cases_Bool (eqb (max rc rd) 0)) [
            | inl n ↦ subst (λ z. i < z) (sym (reach-none m (max ra rb) (max rc rd) (eqb-true (max rc rd) 0 n))) less
            | inr n ↦ subst (λ z. i < z) (sym (ap (λ b. cond b (max ra rb) (m + max rc rd)) n)) (early i m (max rc rd) l)
          ]
        where
          early : (i m x : ℕ) → i < m → i < m + x
          early i m x l = omega (arith, l)
      within i (inr (l, (k, t))) =
          let less : i - m < max rc rd = elim t [
            | inl x ↦ (let y = wc.inside (i - m) k x in let z = le-max_left rc rd in omega (arith, y, z))
            | inr x ↦ (let y = wd.inside (i - m) k x in let z = le-max_right rc rd in omega (arith, y, z))
          ] in
          subst (λ z. i < z) (sym (reach-more m (max ra rb) (max rc rd) (λ e. some (i - m) (max rc rd) less e))) (late i m (max rc rd) l less)
        where
          some : (y x : ℕ) → y < x → x ≡ 0 → ⊥
          some y x l e = omega (arith, l, e)

          late : (i m x : ℕ) → m ≤ i → i - m < x → i < m + x
          late i m x l k = omega (arith, l, k)

      north : (i : ℕ) → max ra rb ≡ i + 1 → (j : ℕ) × (quartered m a b c d i j ≡ true)
      north i e = elim (one_of_max ra rb (i + 1) e) [
        | inl x ↦ let w = wa.last i x in (w.0, nw_cell m a b c d i w.0 (va.row i w.0 w.1) (va.col i w.0 w.1) ∙ w.1)
        | inr x ↦ let w = wb.last i x in (m + w.0, ne_cell m a b c d i w.0 (vb.row i w.0 w.1) ∙ w.1)
      ]

      south : (i : ℕ) → max rc rd ≡ i + 1 → (j : ℕ) × (quartered m a b c d (m + i) j ≡ true)
      south i e = elim (one_of_max rc rd (i + 1) e) [
        | inl x ↦ let w = wc.last i x in (w.0, sw_cell m a b c d i w.0 (vc.col i w.0 w.1) ∙ w.1)
        | inr x ↦ let w = wd.last i x in (m + w.0, se_cell m a b c d i w.0 ∙ w.1)
      ]

      at_last : (i : ℕ) → reach_of m (max ra rb) (max rc rd) ≡ i + 1 → (j : ℕ) × (quartered m a b c d i j ≡ true)
      at_last i e = elim (cases_Bool (eqb (max rc rd) 0)) [
        | inl n ↦ north i (sym (reach-none m (max ra rb) (max rc rd) (eqb-true (max rc rd) 0 n)) ∙ e)
        | inr n ↦
            let whole : m + max rc rd ≡ i + 1 = sym (ap (λ b. cond b (max ra rb) (m + max rc rd)) n) ∙ e in
            let p = parted m (max rc rd) i whole (λ z. false≢true (sym n ∙ eq-eqb (max rc rd) 0 z)) in
            let w = south (i - m) p.0 in
            (w.0, ap (λ z. quartered m a b c d z w.0) (sym p.1) ∙ w.1)
      ]
        where
          parted : (m x i : ℕ) → m + x ≡ i + 1 → x ≢ 0 → (x ≡ (i - m) + 1) × (m + (i - m) ≡ i)
          parted m x i e n = (omega (arith, e, n), omega (arith, e, n))

-- ---- transposed
transposed-quartered : (m : ℕ) (a b c d : Cells) →
    cells_transpose (quartered m a b c d) ≡ quartered m (cells_transpose a) (cells_transpose c) (cells_transpose b) (cells_transpose d)
transposed-quartered m a b c d =
    same_cells (cells_transpose (quartered m a b c d)) (quartered m (cells_transpose a) (cells_transpose c) (cells_transpose b) (cells_transpose d))
    (λ i j. swap (ltb j m) (ltb i m) (a j i) (b j (i - m)) (c (j - m) i) (d (j - m) (i - m)))
  where
    swap : (x y p q r s : Bool) → cond x (cond y p q) (cond y r s) ≡ cond y (cond x p r) (cond x q s)
    swap true true p q r s = refl
    swap true false p q r s = refl
    swap false true p q r s = refl
    swap false false p q r s = refl

turned : (m : ℕ) (f : Cells) → LiesWithin m m f → LiesWithin m m (cells_transpose f)
turned m f v = record { row = λ i j h. v.col j i h; col = λ i j h. v.row j i h }

-- so the extents of four quarters tell that of the whole: its rows, and its columns as the rows of the transposed set
pub extent-quartered : (m : ℕ) (a b c d : Cells) → LiesWithin m m a → LiesWithin m m b → LiesWithin m m c → LiesWithin m m d →
    (nw ne sw se whole : Extent) → IsExtentOf a nw → IsExtentOf b ne → IsExtentOf c sw → IsExtentOf d se →
    whole.rows ≡ reach_of m (max nw.rows ne.rows) (max sw.rows se.rows) → whole.cols ≡ reach_of m (max nw.cols sw.cols) (max ne.cols se.cols) →
    IsExtentOf (quartered m a b c d) whole
extent-quartered m a b c d va vb vc vd nw ne sw se whole wa wb wc wd rows cols = record {
  are_rows = subst (AreRowsOf (quartered m a b c d)) (sym rows) (rows-quartered m a b c d va vb vc vd nw.rows ne.rows sw.rows se.rows wa.are_rows wb.are_rows wc.are_rows wd.are_rows);
  are_cols =
      subst (AreRowsOf (cells_transpose (quartered m a b c d))) (sym cols)
      (subst (λ f. AreRowsOf f (reach_of m (max nw.cols sw.cols) (max ne.cols se.cols))) (sym (transposed-quartered m a b c d))
      (rows-quartered m (cells_transpose a) (cells_transpose c) (cells_transpose b) (cells_transpose d) (turned m a va) (turned m c vc) (turned m b vb) (turned m d vd)
      nw.cols sw.cols ne.cols se.cols wa.are_cols wc.are_cols wb.are_cols wd.are_cols));
}

-- ---- within rows and columns
fewest : (f : Cells) (rows r : ℕ) → AreRowsOf f r → ((i j : ℕ) → f i j ≡ true → i < rows) → r ≤ rows
fewest f rows zero w h = omega arith
fewest f rows (suc r) w h = let k = w.last r (omega arith) in let l = h r k.0 k.1 in omega (arith, l)

pub extent_low : (rows cols : ℕ) (f : Cells) (e : Extent) → IsExtentOf f e → LiesWithin rows cols f → (e.rows ≤ rows) × (e.cols ≤ cols)
extent_low rows cols f e w v = (
  fewest f rows e.rows w.are_rows v.row,
  fewest (cells_transpose f) cols e.cols w.are_cols (λ i j h. v.col j i h),
)

-- a set lies within sizes exactly if its extent fits them: all cells are within the extent, and no fewer rows or
-- columns hold them
pub fits_is : (m rows cols : ℕ) (f : Cells) (e : Extent) → IsExtentOf f e → LiesWithin m m f → (leb e.rows rows && leb e.cols cols) ≡ lies_within m rows cols f
fits_is m rows cols f e w v = elim (cases_Bool (leb e.rows rows && leb e.cols cols)) [
  | inl t ↦
      let p = and_parts (leb e.rows rows) (leb e.cols cols) t in
      let r = leb-true e.rows rows p.0 in
      let c = leb-true e.cols cols p.1 in
      t ∙ sym (lies_within-from m rows cols f (record {
        row = λ i j h. (let l = w.are_rows.inside i j h in omega (arith, l, r));
        col = λ i j h. (let l = w.are_cols.inside j i h in omega (arith, l, c));
      }))
  | inr n ↦ n ∙ sym (not_true (lies_within m rows cols f) (λ t.
      let l = extent_low rows cols f e w (lies_within-means m rows cols f (record { row = v.row; col = v.col }) t) in
      false≢true (sym n ∙ and_from (leb e.rows rows) (leb e.cols cols) (le-leb e.rows rows l.0) (le-leb e.cols cols l.1))))
]

-- ---- extents of numbers
-- the cells of a number are those at its height
pub at_height : (quads : List Quadrant) (heights : List ℕ) → IsTable quads heights → (h n : ℕ) → IsNumber quads h n → cells_told quads (height_at heights n) n ≡ cells_told quads h n
at_height quads heights t h n is = elim (cases_Bool (eqb n 0)) [
  | inl z ↦ let e = eqb-true n 0 z in ap (cells_told quads (height_at heights n)) e ∙ (zero_cells quads (height_at heights n) ∙ (sym (zero_cells quads h) ∙ ap (cells_told quads h) (sym e)))
  | inr f ↦ ap (λ g. cells_told quads g n) (number_height quads heights t h n is (λ e. false≢true (sym f ∙ eq-eqb n 0 e)))
]

pub extent_zero : (quads : List Quadrant) (heights : List ℕ) (e : Extent) → e.rows ≡ 0 → e.cols ≡ 0 → IsExtentOf (cells_told quads (height_at heights 0) 0) e
extent_zero quads heights e r c = record {
  are_rows = record { inside = λ i j h. absurd (false≢true h); last = λ i k. absurd (omega (arith, k, r)) };
  are_cols = record { inside = λ i j h. absurd (false≢true h); last = λ i k. absurd (omega (arith, k, c)) };
}

pub extent_one : (quads : List Quadrant) (heights : List ℕ) (e : Extent) → e.rows ≡ 1 → e.cols ≡ 1 → IsExtentOf (cells_told quads (height_at heights 1) 1) e
extent_one quads heights e r c = record {
  are_rows = record {
    inside = λ i j h. (let l = eqb-true i 0 (and_parts (eqb i 0) (eqb j 0) h).0 in omega (arith, l, r));
    last = λ i k. (0, let z : i ≡ 0 = omega (arith, k, r) in ap (λ n. eqb n 0 && eqb 0 0) z);
  };
  are_cols = record {
    inside = λ i j h. (let l = eqb-true i 0 (and_parts (eqb j 0) (eqb i 0) h).1 in omega (arith, l, c));
    last = λ i k. (0, let z : i ≡ 0 = omega (arith, k, c) in ap (λ n. eqb 0 0 && eqb n 0) z);
  };
}

pub no_extents : (quads : List Quadrant) (heights : List ℕ) → AreExtentsUpto quads heights [] 0
no_extents quads heights = record { many = refl; each = λ n e at. absurd (none n e at) }
  where
    none : (n : ℕ) (e : Extent) → slice_get [] n ≡ Some e → ⊥
    none n e at = let l = slice_get_within [] n e at in omega (arith, l)

-- with that of the next number behind them they are the extents of one number more: each is one before, or the last
pub more_extents : (quads : List Quadrant) (heights : List ℕ) (es new : List Extent) (n m : ℕ) (e : Extent) → AreExtentsUpto quads heights es n → IsExtentOf (cells_told quads (height_at heights n) n) e →
    new ≡ es ++ e ∷ [] → m ≡ n + 1 → AreExtentsUpto quads heights new m
more_extents quads heights es new n m e w is list count =
    subst (λ z. AreExtentsUpto quads heights z m) (sym list)
    (record {
      many = (let l = length-append es (e ∷ []) in let k = w.many in omega (arith, l, k, count));
      each = λ k x at. elim (cases_lt k n) [
        | inl l ↦ w.each k x (get_back es (e ∷ []) k x (within k l) at)
        | inr l ↦
            let s = slice_get_within (es ++ e ∷ []) k x at in
            let a = length-append es (e ∷ []) in
            let here : n ≡ k = last k l s a in
            let long : length es ≡ k = w.many ∙ here in
            let same : e ≡ x = one_of_two e x (sym (get_next es e []) ∙ (ap (slice_get (es ++ e ∷ [])) long ∙ at)) in
            subst (λ z. IsExtentOf (cells_told quads (height_at heights z) z) x) here (subst (IsExtentOf (cells_told quads (height_at heights n) n)) same is)
      ];
    })
  where
    within : (k : ℕ) → k < n → k < length es
    within k l = let a = w.many in omega (arith, a, l)

    last : (k : ℕ) → n ≤ k → k < length (es ++ e ∷ []) → length (es ++ e ∷ []) ≡ length es + 1 → n ≡ k
    last k l s a = let b = w.many in omega (arith, l, s, a, b)

-- the extent of a quarter
pub quarter_extent : (quads : List Quadrant) (heights : List ℕ) → IsTable quads heights → (extents : List Extent) (count h n : ℕ) (e : Extent) → AreExtentsUpto quads heights extents count →
    IsNumber quads h n → slice_get extents n ≡ Some e → IsExtentOf (cells_told quads h n) e
quarter_extent quads heights t extents count h n e w is at = subst (λ f. IsExtentOf f e) (at_height quads heights t h n is) (w.each n e at)

-- the extent of a listed square
pub listed_extent : (quads : List Quadrant) (heights : List ℕ) → IsTable quads heights → (extents : List Extent) (k count : ℕ) (q : Quadrant) → AreExtentsUpto quads heights extents count →
    slice_get quads k ≡ Some q → (s : IsSoundAt quads heights k q) → (nw ne sw se whole : Extent) (side : ℕ) →
    slice_get extents q.nw ≡ Some nw → slice_get extents q.ne ≡ Some ne → slice_get extents q.sw ≡ Some sw → slice_get extents q.se ≡ Some se →
    side ≡ 2 ^ s.below →
    whole.rows ≡ reach_of side (max nw.rows ne.rows) (max sw.rows se.rows) → whole.cols ≡ reach_of side (max nw.cols sw.cols) (max ne.cols se.cols) →
    IsExtentOf (cells_told quads (height_at heights (k + 2)) (k + 2)) whole
listed_extent quads heights t extents k count q w here s nw ne sw se whole side a b c d is rows cols =
    let h = s.below in
    let f = cells_told quads h in
    let v = cells_within quads h in
    let g = λ (n : ℕ) (e : Extent) (x : IsNumber quads h n) (y : slice_get extents n ≡ Some e). quarter_extent quads heights t extents count h n e w x y in
    subst (λ z. IsExtentOf z whole) (sym (ap (λ z. cells_told quads z (k + 2)) s.high ∙ cells_listed quads h k q here))
    (extent-quartered (2 ^ h) (f q.nw) (f q.ne) (f q.sw) (f q.se) (v q.nw) (v q.ne) (v q.sw) (v q.se) nw ne sw se whole
    (g q.nw nw s.nw a) (g q.ne ne s.ne b) (g q.sw sw s.sw c) (g q.se se s.se d)
    (subst (λ z. whole.rows ≡ reach_of z (max nw.rows ne.rows) (max sw.rows se.rows)) is rows)
    (subst (λ z. whole.cols ≡ reach_of z (max nw.cols sw.cols) (max ne.cols se.cols)) is cols))

-- a quarter's extent is within its side
pub quarter_low : (quads : List Quadrant) (heights : List ℕ) → IsTable quads heights → (extents : List Extent) (count h n : ℕ) (e : Extent) → AreExtentsUpto quads heights extents count →
    IsNumber quads h n → slice_get extents n ≡ Some e → (e.rows ≤ 2 ^ h) × (e.cols ≤ 2 ^ h)
quarter_low quads heights t extents count h n e w is at =
    extent_low (2 ^ h) (2 ^ h) (cells_told quads h n) e (quarter_extent quads heights t extents count h n e w is at) (cells_within quads h n)

-- so a side and what is within it do not overflow
pub side_low : (h a b side : ℕ) → suc h ≤ size_height → side ≡ 2 ^ h → a ≤ 2 ^ h → b ≤ 2 ^ h → side + max a b < 2 ^ 32
side_low h a b side l is x y =
    let p : 2 ^ h ≤ 2 ^ 24 = pow-le-pow_right {n = 2} (omega arith) {i = h} {j = 24} (omega (arith, l)) in
    omega (arith, p, is, x, y)

-- ---- of listed quadrants
abbrev pub no_quad : LISTED
no_quad = record { nw = 0; ne = 0; sw = 0; se = 0 }

abbrev pub no_extent : Extent
no_extent = record { rows = 0; cols = 0 }

-- what a step over a quadrant knows
module _ (quads : List LISTED) (heights : List ℕ) (s : AreSound quads heights) (k : ℕ) (within : k < length quads) where
  abbrev pub the_quad : LISTED
  the_quad = get_or quads k no_quad

  pub here : slice_get quads k ≡ Some the_quad
  here = slice_get-get_or quads k no_quad within

  pub known : IsSoundAt (quadrants_told quads) heights k (quadrant_told the_quad)
  known = sound_at quads heights s k the_quad here

  pub height_within : k < length heights
  height_within = let l = sound_count quads heights s in omega (arith, l, within)

  -- its height is 1 more than that of its quarters
  pub height_read : get_or heights k 0 ≡ suc known.below
  height_read = get_or_from_slice_get heights k (suc known.below) 0 known.height

  module _ (extents : List Extent) (w : AreExtentsUpto (quadrants_told quads) heights extents (k + 2)) where
    pub extent_within : (n : ℕ) → n < k + 2 → n < length extents
    extent_within n l = let m = w.many in omega (arith, m, l)

    pub extent_read : (n : ℕ) → n < k + 2 → slice_get extents n ≡ Some (get_or extents n no_extent)
    extent_read n l = slice_get-get_or extents n no_extent (extent_within n l)

    part_low : (n : ℕ) → n < k + 2 → IsNumber (quadrants_told quads) known.below n →
        ((get_or extents n no_extent).rows ≤ 2 ^ known.below) × ((get_or extents n no_extent).cols ≤ 2 ^ known.below)
    part_low n l is =
        quarter_low (quadrants_told quads) heights (sound_table quads heights s) extents (k + 2) known.below n (get_or extents n no_extent) w is (extent_read n l)

    module _ (side : ℕ) (is : side ≡ 2 ^ (get_or heights k 0 - 1)) where
      side_is : side ≡ 2 ^ known.below
      side_is = is ∙ ap (λ n. 2 ^ n) (less (get_or heights k 0) known.below height_read)
        where
          less : (h b : ℕ) → h ≡ suc b → h - 1 ≡ b
          less h b e = omega (arith, e)

      pub rows_low : side + max (get_or extents the_quad.sw no_extent).rows (get_or extents the_quad.se no_extent).rows < 2 ^ 32
      rows_low =
          side_low known.below (get_or extents the_quad.sw no_extent).rows (get_or extents the_quad.se no_extent).rows side known.low side_is
          (part_low the_quad.sw known.less.sw known.sw).0 (part_low the_quad.se known.less.se known.se).0

      pub cols_low : side + max (get_or extents the_quad.ne no_extent).cols (get_or extents the_quad.se no_extent).cols < 2 ^ 32
      cols_low =
          side_low known.below (get_or extents the_quad.ne no_extent).cols (get_or extents the_quad.se no_extent).cols side known.low side_is
          (part_low the_quad.ne known.less.ne known.ne).1 (part_low the_quad.se known.less.se known.se).1

      pub extent_is : (whole : Extent) →
          whole.rows ≡ reach_of side (max (get_or extents the_quad.nw no_extent).rows (get_or extents the_quad.ne no_extent).rows) (max (get_or extents the_quad.sw no_extent).rows (get_or extents the_quad.se no_extent).rows) →
          whole.cols ≡ reach_of side (max (get_or extents the_quad.nw no_extent).cols (get_or extents the_quad.sw no_extent).cols) (max (get_or extents the_quad.ne no_extent).cols (get_or extents the_quad.se no_extent).cols) →
          IsExtentOf (cells_told (quadrants_told quads) (height_at heights (k + 2)) (k + 2)) whole
      extent_is whole rows cols =
          listed_extent (quadrants_told quads) heights (sound_table quads heights s) extents k (k + 2) (quadrant_told the_quad) w
          (slice_get-map quadrant_told quads k ∙ ap (option_map quadrant_told) here) known
          (get_or extents the_quad.nw no_extent) (get_or extents the_quad.ne no_extent) (get_or extents the_quad.sw no_extent) (get_or extents the_quad.se no_extent) whole side
          (extent_read the_quad.nw known.less.nw) (extent_read the_quad.ne known.less.ne) (extent_read the_quad.sw known.less.sw) (extent_read the_quad.se known.less.se)
          side_is rows cols

-- how many quadrants are told
pub told_count : (quads : List LISTED) → length (quadrants_told quads) ≡ length quads
told_count quads = length-map quads quadrant_told

-- a root's extent
module _ (quads : List LISTED) (heights : List ℕ) (s : AreSound quads heights) (extents : List Extent) (w : AreExtents (quadrants_told quads) heights extents)
    (h root : ℕ) (is : is_root (quadrants_told quads) heights h root ≡ true) where
  pub root_within : root < length extents
  root_within =
      let m = w.many in
      let l = number_below (quadrants_told quads) h root (sound_root quads heights s h root is) in
      omega (arith, m, l)

  pub root_fits : (rows cols : ℕ) → (leb (get_or extents root no_extent).rows rows && leb (get_or extents root no_extent).cols cols) ≡ lies_within (2 ^ h) rows cols (cells_told (quadrants_told quads) h root)
  root_fits rows cols =
      fits_is (2 ^ h) rows cols (cells_told (quadrants_told quads) h root) (get_or extents root no_extent)
      (quarter_extent (quadrants_told quads) heights (sound_table quads heights s) extents (length (quadrants_told quads) + 2) h root (get_or extents root no_extent) w
      (sound_root quads heights s h root is) (slice_get-get_or extents root no_extent root_within))
      (cells_within (quadrants_told quads) h root)
