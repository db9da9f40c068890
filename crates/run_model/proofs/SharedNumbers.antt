-- The listed squares of a file that is written: each has its number, and none is bad.
-- 1. A square that was visited has the number of its place, and by the numbers its own cells.
-- 2. The parts of a square come before it, have one height, and are not all without pairs.
-- 3. Two squares of the same four numbers have one height and the same cells, and so are one.
use Rattle.std.proofs.Common.{◌≡◌, ◌≢◌, ◌<◌, ◌≤◌, ◌⊎◌, ◌+◌, ◌^◌, ◌&&◌, ◌||◌, not, leb, ltb, cond, eqb, zero, suc, ℕ, Bool, true, false, List, [], ◌∷◌, ◌++◌, map, length, Option, Some, None, option_map, refl, sym, ap, subst, ◌∙◌, inl, inr, arith, append_assoc, append-nil, length-append}
use Rattle.std.specs.Prelude.{slice_get, filter}
use Rattle.std.specs.List.{list_any, AllByRecursion}
use Rattle.std.specs.Cmp.Lexicographic as texts
use Rattle.std.proofs.lemmas.Bool.{eq-eqb, ne_eqb, lt-leb, le-ltb, or_from, false≢true}
use Rattle.std.proofs.lemmas.Option.{slice_get_within, slice_get-map}
use Rattle.rel_model.specs.Relation.{size_height}
use Rattle.rel_model.specs.Listed.{is_among}
use Rattle.rel_model.specs.Cells.{Cells, no_cells}
use Rattle.rel_model.specs.Trees.{quartered}
use Rattle.rel_model.proofs.Pairs.{same_itself}
use Rattle.rel_model.proofs.Rooting.{same_within}
use Rattle.run_model.specs.SharedFiles.{Quadrant, no_quadrant, numbers_of, parts_of, no_parts, same_quadrant, height_at, height_over_parts, height_of_quadrant, heights_behind, is_bad, first_bad, cells_told}
use Rattle.run_model.specs.SharedBytes.{Square, same_square, quarter, place_in, number_in}
use Rattle.run_model.proofs.SharedCells.{pairs_of, pairs_among, among_within, IsNumber, zero_cells, cells_within, cells_listed, one_height}
use Rattle.run_model.proofs.SharedVisits.{same_square-true, same_square_itself, not_true}
use Rattle.run_model.proofs.SharedTable.{get_front, get_next, get_back, one_of_two, height_is}
use Rattle.run_model.proofs.SharedSquares.{square_of, Proper, proper_quarter, Known, AllBehind, NoneTwice, by_quarters}

-- ---- places
place_first : (xs : List Square) (k : ℕ) (s : Square) → slice_get xs k ≡ Some s → ((j : ℕ) (x : Square) → j < k → slice_get xs j ≡ Some x → x ≢ s) → place_in xs s ≡ k
place_first [] k s at n = let e : 0 ≡ 1 = ap count at in absurd (omega (arith, e))
  where
    count : Option Square → ℕ
    count None = 0
    count (Some x) = 1
place_first (x ∷ xs) zero s at n = ap (λ b. cond b 0 (1 + place_in xs s)) (ap (λ y. same_square x y) (sym (one_of_two x s at)) ∙ same_square_itself x)
place_first (x ∷ xs) (suc k) s at n =
    ap (λ b. cond b 0 (1 + place_in xs s)) (not_true (same_square x s) (λ t. n 0 x (omega arith) refl (same_square-true x s t)))
    ∙ (ap (λ m. 1 + m) (place_first xs k s at (λ j y l h. n (suc j) y (omega (arith, l)) h)) ∙ plus_one k)
  where
    plus_one : (k : ℕ) → 1 + k ≡ suc k
    plus_one k = omega arith

-- ---- four numbers
abbrev there : ℕ → Bool
there n = not (eqb n 0)

is_there : (m : ℕ) → there (suc m) ≡ true
is_there m = ap not (ne_eqb (suc m) 0 (λ e. omega (arith, e)))

-- no part is there only where all numbers are 0
all_none : (ms : List ℕ) → no_parts (filter there ms) ≡ true → AllByRecursion (λ m. m ≡ 0) ms
all_none [] h = tt
all_none (zero ∷ ms) h = (refl, all_none ms h)
all_none (suc m ∷ ms) h = absurd (false≢true (ap (λ b. no_parts (cond b (suc m ∷ filter there ms) (filter there ms))) (sym (is_there m)) ∙ h))

-- the height over parts of one height
over_parts : (heights ms : List ℕ) (h : ℕ) → AllByRecursion (λ m. m ≢ 0 → height_at heights m ≡ h) ms → no_parts (filter there ms) ≡ false → height_over_parts heights (filter there ms) ≡ suc h
over_parts heights [] h all some = absurd (false≢true (sym some))
over_parts heights (zero ∷ ms) h all some = over_parts heights ms h all.1 some
over_parts heights (suc m ∷ ms) h all some =
    ap (λ b. height_over_parts heights (cond b (suc m ∷ filter there ms) (filter there ms))) (is_there m)
    ∙ (let e = all.0 (λ z. omega (arith, z)) in omega (arith, e))

-- parts of one height do not differ
none_differs : (heights ms : List ℕ) (h top : ℕ) → top ≡ suc h → AllByRecursion (λ m. m ≢ 0 → height_at heights m ≡ h) ms →
    list_any (λ m. not (eqb (height_at heights m + 1) top)) (filter there ms) ≡ false
none_differs heights [] h top e all = refl
none_differs heights (zero ∷ ms) h top e all = none_differs heights ms h top e all.1
none_differs heights (suc m ∷ ms) h top e all =
    ap (λ b. list_any (λ m. not (eqb (height_at heights m + 1) top)) (cond b (suc m ∷ filter there ms) (filter there ms))) (is_there m)
    ∙ or_from (not (eqb (height_at heights (suc m) + 1) top)) (list_any (λ m. not (eqb (height_at heights m + 1) top)) (filter there ms))
    (ap not (eq-eqb (height_at heights (suc m) + 1) top (let f = all.0 (λ z. omega (arith, z)) in omega (arith, e, f)))) (none_differs heights ms h top e all.1)

none_high : (n : ℕ) (ms : List ℕ) → AllByRecursion (λ m. m < n) ms → list_any (λ m. leb n m) ms ≡ false
none_high n [] all = refl
none_high n (m ∷ ms) all = or_from (leb n m) (list_any (λ m. leb n m) ms) (lt-leb n m all.0) (none_high n ms all.1)

-- a part that is there
abbrev SomePart : (ℕ → Type 0) → Quadrant → Type 0
SomePart P q = ((q.nw ≢ 0) × P q.nw) ⊎ (((q.ne ≢ 0) × P q.ne) ⊎ (((q.sw ≢ 0) × P q.sw) ⊎ ((q.se ≢ 0) × P q.se)))

some_part : (P : ℕ → Type 0) (q : Quadrant) → no_parts (parts_of q) ≡ false → P q.nw → P q.ne → P q.sw → P q.se → (m : ℕ) × (m ≢ 0) × P m
some_part P q some a b c d = pick q.nw q.ne q.sw q.se some a b c d
  where
    pick : (w x y z : ℕ) → no_parts (filter there (w ∷ x ∷ y ∷ z ∷ [])) ≡ false → P w → P x → P y → P z → (m : ℕ) × (m ≢ 0) × P m
    pick zero zero zero zero some a b c d = absurd (false≢true (sym some))
    pick (suc w) x y z some a b c d = (suc w, (λ e. omega (arith, e)), a)
    pick zero (suc x) y z some a b c d = (suc x, (λ e. omega (arith, e)), b)
    pick zero zero (suc y) z some a b c d = (suc y, (λ e. omega (arith, e)), c)
    pick zero zero zero (suc z) some a b c d = (suc z, (λ e. omega (arith, e)), d)

module _ (squares : List Square) (all : AllBehind squares) (once : NoneTwice squares) where
  place_is : (k : ℕ) (s : Square) → slice_get squares k ≡ Some s → place_in squares s ≡ k
  place_is k s at =
      place_first squares k s at (λ j x l h e. let same = once j k s (h ∙ ap (λ z. Some z) e) at in omega (arith, l, same))

  -- the number of a square
  abbrev pub number : ℕ → List (ℕ × ℕ) → ℕ
  number h ps = number_in squares h ps

  -- the number of a listed square is 2 more than its place, since none is listed twice
  number_there : (h : ℕ) (p : ℕ × ℕ) (ps : List (ℕ × ℕ)) (k : ℕ) → slice_get squares k ≡ Some (square_of (suc h) (p ∷ ps)) → number (suc h) (p ∷ ps) ≡ k + 2
  number_there h p ps k at = let e = place_is k (square_of (suc h) (p ∷ ps)) at in omega (arith, e)

  -- the numbers of its quarters
  abbrev pub quadrant_by : ℕ → List (ℕ × ℕ) → Quadrant
  quadrant_by zero ps = no_quadrant
  quadrant_by (suc h) ps = record {
    nw = number h (quarter (2 ^ h) 0 0 ps);
    ne = number h (quarter (2 ^ h) 0 (2 ^ h) ps);
    sw = number h (quarter (2 ^ h) (2 ^ h) 0 ps);
    se = number h (quarter (2 ^ h) (2 ^ h) (2 ^ h) ps);
  }

  abbrev pub quadrant_of : Square → Quadrant
  quadrant_of s = quadrant_by s.height s.pairs

  abbrev pub quads : List Quadrant
  quads = map quadrant_of squares

  quads_at : (k : ℕ) (s : Square) → slice_get squares k ≡ Some s → slice_get quads k ≡ Some (quadrant_of s)
  quads_at k s at = slice_get-map quadrant_of squares k ∙ ap (option_map quadrant_of) at

  empty : (p : ℕ × ℕ) (ps : List (ℕ × ℕ)) → p ∷ ps ≡ [] → ⊥
  empty p ps e = let n : length (p ∷ ps) ≡ 0 = ap length e in omega (arith, n)

  -- the parts of a square without pairs have none
  parts_some : (h : ℕ) (ps : List (ℕ × ℕ)) → Proper (suc h) ps → ps ≢ [] →
      (cells_told quads h (number h (quarter (2 ^ h) 0 0 ps)) ≡ is_among (quarter (2 ^ h) 0 0 ps)) →
      (cells_told quads h (number h (quarter (2 ^ h) 0 (2 ^ h) ps)) ≡ is_among (quarter (2 ^ h) 0 (2 ^ h) ps)) →
      (cells_told quads h (number h (quarter (2 ^ h) (2 ^ h) 0 ps)) ≡ is_among (quarter (2 ^ h) (2 ^ h) 0 ps)) →
      (cells_told quads h (number h (quarter (2 ^ h) (2 ^ h) (2 ^ h) ps)) ≡ is_among (quarter (2 ^ h) (2 ^ h) (2 ^ h) ps)) →
      no_parts (parts_of (quadrant_by (suc h) ps)) ≡ false
  parts_some h [] v other a b c d = absurd (other refl)
  parts_some h (p ∷ ps) v other a b c d = not_true (no_parts (parts_of (quadrant_by (suc h) (p ∷ ps)))) (λ none.
      let m = 2 ^ h in
      let zeros = all_none (numbers_of (quadrant_by (suc h) (p ∷ ps))) none in
      let part : (n : ℕ) (f : Cells) → n ≡ 0 → cells_told quads h n ≡ f → f ≡ no_cells = λ n f e g. sym g ∙ (ap (cells_told quads h) e ∙ zero_cells quads h) in
      let whole : is_among (p ∷ ps) ≡ quartered m no_cells no_cells no_cells no_cells =
      by_quarters h (p ∷ ps) v
      ∙ (λ i. quartered m (part _ _ zeros.0 a i) (part _ _ zeros.1.0 b i) (part _ _ zeros.1.1.0 c i) (part _ _ zeros.1.1.1.0 d i)) in
      let here : is_among (p ∷ ps) p.0 p.1 ≡ true = ap (λ b. b || is_among ps p.0 p.1) (same_itself p) in
      false≢true (sym (none_there (ltb p.0 m) (ltb p.1 m)) ∙ (sym (λ i. whole i p.0 p.1) ∙ here)))
    where
      none_there : (x y : Bool) → cond x (cond y false false) (cond y false false) ≡ false
      none_there true true = refl
      none_there true false = refl
      none_there false true = refl
      none_there false false = refl

  -- a square that is known has a number at its height, with its cells
  pub told : (h : ℕ) (ps : List (ℕ × ℕ)) → Proper h ps → Known squares (length squares) h ps →
      IsNumber quads h (number h ps) × (cells_told quads h (number h ps) ≡ is_among ps)
  told zero [] v k = (inl refl, zero_cells quads zero)
  told zero (p ∷ ps) v k = (
    inr refl,
    same_within 1 1 (cells_told quads zero 1) (is_among (p ∷ ps)) (cells_within quads zero 1) (among_within 1 1 (p ∷ ps) v) (λ i j a b.
        let row : i ≡ 0 = omega (arith, a) in
        let col : j ≡ 0 = omega (arith, b) in
        let w = v.within.0 in
        let pr : p.0 ≡ 0 = let x = w.0 in omega (arith, x) in
        let pc : p.1 ≡ 0 = let x = w.1 in omega (arith, x) in
        (λ l. cells_told quads zero 1 (row l) (col l))
        ∙ (sym (ap (λ b. b || is_among ps 0 0) (λ l. eqb (pr l) 0 && eqb (pc l) 0)) ∙ (λ l. is_among (p ∷ ps) (sym row l) (sym col l)))),
  )
  told (suc h) [] v k = (inl refl, zero_cells quads (suc h))
  told (suc h) (p ∷ ps) v (inl e) = absurd (omega (arith, e))
  told (suc h) (p ∷ ps) v (inr (inl e)) = absurd (empty p ps e)
  told (suc h) (p ∷ ps) v (inr (inr (k, less, at))) =
      let b = all k (square_of (suc h) (p ∷ ps)) at in
      let same : b.below ≡ h = let e = b.is_height in omega (arith, e) in
      let m = 2 ^ h in
      let up : (row col : ℕ → ℕ) → Known squares k b.below (quarter (2 ^ b.below) (row b.below) (col b.below) (p ∷ ps)) → Known squares (length squares) h (quarter (2 ^ h) (row h) (col h) (p ∷ ps)) =
      λ row col kn. raise k (length squares) h (quarter (2 ^ h) (row h) (col h) (p ∷ ps)) (omega (arith, less))
      (subst (λ g. Known squares k g (quarter (2 ^ g) (row g) (col g) (p ∷ ps))) same kn) in
      let nw = told h (quarter m 0 0 (p ∷ ps)) (proper_quarter h 0 0 (p ∷ ps)) (up (λ g. 0) (λ g. 0) b.nw) in
      let ne = told h (quarter m 0 m (p ∷ ps)) (proper_quarter h 0 m (p ∷ ps)) (up (λ g. 0) (λ g. 2 ^ g) b.ne) in
      let sw = told h (quarter m m 0 (p ∷ ps)) (proper_quarter h m 0 (p ∷ ps)) (up (λ g. 2 ^ g) (λ g. 0) b.sw) in
      let se = told h (quarter m m m (p ∷ ps)) (proper_quarter h m m (p ∷ ps)) (up (λ g. 2 ^ g) (λ g. 2 ^ g) b.se) in
      let q = quadrant_by (suc h) (p ∷ ps) in
      let here = quads_at k (square_of (suc h) (p ∷ ps)) at in
      let n = number_there h p ps k at in (
        inr (k, q, n, here, parts_some h (p ∷ ps) v (empty p ps) nw.1 ne.1 sw.1 se.1, nw.0, ne.0, sw.0, se.0),
        ap (cells_told quads (suc h)) n
            ∙ (cells_listed quads h k q here ∙ ((λ i. quartered m (nw.1 i) (ne.1 i) (sw.1 i) (se.1 i)) ∙ sym (by_quarters h (p ∷ ps) v))),
      )
    where
      raise : (k m h : ℕ) (qs : List (ℕ × ℕ)) → k ≤ m → Known squares k h qs → Known squares m h qs
      raise k m h qs l (inl e) = inl e
      raise k m h qs l (inr (inl e)) = inr (inl e)
      raise k m h qs l (inr (inr (j, a, at))) = inr (inr (j, omega (arith, a, l), at))

  -- ---- a part before a place
  part_below : (k h : ℕ) (qs : List (ℕ × ℕ)) → Known squares k h qs → number h qs < k + 2
  part_below k h [] kn = omega arith
  part_below k zero (q ∷ qs) kn = omega arith
  part_below k (suc h) (q ∷ qs) (inl e) = absurd (omega (arith, e))
  part_below k (suc h) (q ∷ qs) (inr (inl e)) = absurd (empty q qs e)
  part_below k (suc h) (q ∷ qs) (inr (inr (j, less, at))) = let e = number_there h q qs j at in omega (arith, e, less)

  -- the height that the earlier squares tell of a part is its own: a part with a number above 1 is listed among them
  part_height : (pre : List Square) (more : List Square) → squares ≡ pre ++ more → (h : ℕ) (qs : List (ℕ × ℕ)) → Known squares (length pre) h qs → number h qs ≢ 0 →
      height_at (map (λ s. s.height) pre) (number h qs) ≡ h
  part_height pre more w h [] kn other = absurd (other refl)
  part_height pre more w zero (q ∷ qs) kn other = refl
  part_height pre more w (suc h) (q ∷ qs) (inl e) other = absurd (omega (arith, e))
  part_height pre more w (suc h) (q ∷ qs) (inr (inl e)) other = absurd (empty q qs e)
  part_height pre more w (suc h) (q ∷ qs) (inr (inr (j, less, at))) other =
      let there : slice_get pre j ≡ Some (square_of (suc h) (q ∷ qs)) = get_back pre more j (square_of (suc h) (q ∷ qs)) less (ap (λ z. slice_get z j) (sym w) ∙ at) in
      ap (height_at (map (λ s. s.height) pre)) (number_there h q qs j at)
      ∙ height_is quads (map (λ s. s.height) pre) j (suc h) (slice_get-map (λ s. s.height) pre j ∙ ap (option_map (λ s. s.height)) there)

  -- ---- a listed square at its place
  pub record Placed (k : ℕ) (s : Square) : Type 0 where
    pub below : ℕ
    pub is_height : s.height ≡ suc below
    pub low : suc below ≤ size_height
    pub proper : Proper (suc below) s.pairs
    pub quadrant : quadrant_of s ≡ quadrant_by (suc below) s.pairs
    pub some : no_parts (parts_of (quadrant_by (suc below) s.pairs)) ≡ false
    pub nw : Known squares k below (quarter (2 ^ below) 0 0 s.pairs)
    pub ne : Known squares k below (quarter (2 ^ below) 0 (2 ^ below) s.pairs)
    pub sw : Known squares k below (quarter (2 ^ below) (2 ^ below) 0 s.pairs)
    pub se : Known squares k below (quarter (2 ^ below) (2 ^ below) (2 ^ below) s.pairs)
    pub is_nw : IsNumber quads below (number below (quarter (2 ^ below) 0 0 s.pairs))
    pub is_ne : IsNumber quads below (number below (quarter (2 ^ below) 0 (2 ^ below) s.pairs))
    pub is_sw : IsNumber quads below (number below (quarter (2 ^ below) (2 ^ below) 0 s.pairs))
    pub is_se : IsNumber quads below (number below (quarter (2 ^ below) (2 ^ below) (2 ^ below) s.pairs))
    pub cells : cells_told quads (suc below) (k + 2) ≡ is_among s.pairs

  -- a listed square has the quadrant of its parts' numbers and, by these, its own cells: its parts are known before it,
  -- so that each has its number and its cells
  pub placed : (k : ℕ) (s : Square) → slice_get squares k ≡ Some s → Placed k s
  placed k s at =
      let b = all k s at in
      let h = b.below in
      let l = slice_get_within squares k s at in
      let m = 2 ^ h in
      let nw = told h (quarter m 0 0 s.pairs) (proper_quarter h 0 0 s.pairs) (raise k (length squares) h _ (omega (arith, l)) b.nw) in
      let ne = told h (quarter m 0 m s.pairs) (proper_quarter h 0 m s.pairs) (raise k (length squares) h _ (omega (arith, l)) b.ne) in
      let sw = told h (quarter m m 0 s.pairs) (proper_quarter h m 0 s.pairs) (raise k (length squares) h _ (omega (arith, l)) b.sw) in
      let se = told h (quarter m m m s.pairs) (proper_quarter h m m s.pairs) (raise k (length squares) h _ (omega (arith, l)) b.se) in
      let quadrant : quadrant_of s ≡ quadrant_by (suc h) s.pairs = ap (λ z. quadrant_by z s.pairs) b.is_height in
      record {
        below = h;
        is_height = b.is_height;
        low = b.low;
        proper = b.proper;
        quadrant = quadrant;
        some = parts_some h s.pairs b.proper b.some nw.1 ne.1 sw.1 se.1;
        nw = b.nw;
        ne = b.ne;
        sw = b.sw;
        se = b.se;
        is_nw = nw.0;
        is_ne = ne.0;
        is_sw = sw.0;
        is_se = se.0;
        cells =
            cells_listed quads h k (quadrant_by (suc h) s.pairs) (quads_at k s at ∙ ap (λ z. Some z) quadrant)
            ∙ ((λ i. quartered m (nw.1 i) (ne.1 i) (sw.1 i) (se.1 i)) ∙ sym (by_quarters h s.pairs b.proper));
      }
    where
      raise : (k m h : ℕ) (qs : List (ℕ × ℕ)) → k ≤ m → Known squares k h qs → Known squares m h qs
      raise k m h qs l (inl e) = inl e
      raise k m h qs l (inr (inl e)) = inr (inl e)
      raise k m h qs l (inr (inr (j, a, at))) = inr (inr (j, omega (arith, a, l), at))

  -- squares of the same four numbers are one
  same_numbers : (j k : ℕ) (x y : Square) → slice_get squares j ≡ Some x → slice_get squares k ≡ Some y → quadrant_of x ≡ quadrant_of y → x ≡ y
  same_numbers j k x y hj hk e =
      let a = placed j x hj in
      let b = placed k y hk in
      let four : quadrant_by (suc a.below) x.pairs ≡ quadrant_by (suc b.below) y.pairs = sym a.quadrant ∙ (e ∙ b.quadrant) in
      let q = quadrant_by (suc b.below) y.pairs in
      let part = some_part (λ n. IsNumber quads a.below n × IsNumber quads b.below n) q b.some
      (subst (IsNumber quads a.below) (ap (λ z. z.nw) four) a.is_nw, b.is_nw) (subst (IsNumber quads a.below) (ap (λ z. z.ne) four) a.is_ne, b.is_ne)
      (subst (IsNumber quads a.below) (ap (λ z. z.sw) four) a.is_sw, b.is_sw) (subst (IsNumber quads a.below) (ap (λ z. z.se) four) a.is_se, b.is_se) in
      let one : a.below ≡ b.below = one_height quads a.below b.below part.0 part.2.0 part.2.1 part.1 in
      let cells : is_among x.pairs ≡ is_among y.pairs =
      sym a.cells ∙ (cells_listed quads a.below j (quadrant_of x) (quads_at j x hj)
      ∙ ((λ i. quartered (2 ^ one i) (cells_told quads (one i) (e i).nw) (cells_told quads (one i) (e i).ne) (cells_told quads (one i) (e i).sw) (cells_told quads (one i) (e i).se))
      ∙ (sym (cells_listed quads b.below k (quadrant_of y) (quads_at k y hk)) ∙ b.cells))) in
      let pairs : x.pairs ≡ y.pairs =
      sym (pairs_among (2 ^ suc a.below) x.pairs a.proper) ∙ ((λ i. pairs_of (2 ^ suc (one i)) (cells i)) ∙ pairs_among (2 ^ suc b.below) y.pairs b.proper) in
      let height : x.height ≡ y.height = a.is_height ∙ (ap suc one ∙ sym b.is_height) in
      λ i. record { height = height i; pairs = pairs i }

  -- ---- no listed square is bad
  quadrant_text : (p q : Quadrant) → same_quadrant p q ≡ true → p ≡ q
  quadrant_text p q h =
      let e = texts.same_text (numbers_of p) (numbers_of q) (sym h) in
      λ i. record { nw = at_0 (e i); ne = at_1 (e i); sw = at_2 (e i); se = at_3 (e i) }
    where
      at_0 : List ℕ → ℕ
      at_0 [] = 0
      at_0 (x ∷ xs) = x

      at_1 : List ℕ → ℕ
      at_1 [] = 0
      at_1 (x ∷ xs) = at_0 xs

      at_2 : List ℕ → ℕ
      at_2 [] = 0
      at_2 (x ∷ xs) = at_1 xs

      at_3 : List ℕ → ℕ
      at_3 [] = 0
      at_3 (x ∷ xs) = at_2 xs

  none_same : (q : Quadrant) (xs : List Square) → ((j : ℕ) (y : Square) → slice_get xs j ≡ Some y → same_quadrant q (quadrant_of y) ≡ false) → list_any (same_quadrant q) (map quadrant_of xs) ≡ false
  none_same q [] h = refl
  none_same q (x ∷ xs) h = or_from (same_quadrant q (quadrant_of x)) (list_any (same_quadrant q) (map quadrant_of xs)) (h 0 x refl) (none_same q xs (λ j y at. h (suc j) y at))

  map_one : {B : Type 0} (f : Square → B) (xs : List Square) (y : Square) → map f (xs ++ y ∷ []) ≡ map f xs ++ f y ∷ []
  map_one f [] y = refl
  map_one f (x ∷ xs) y = ap (λ l. f x ∷ l) (map_one f xs y)

  -- a listed square behind earlier ones: it is not bad, and has its height
  good_square : (pre : List Square) (s : Square) (more : List Square) → squares ≡ pre ++ s ∷ more →
      (is_bad (length pre + 2) (map quadrant_of pre) (map (λ s. s.height) pre) (quadrant_of s) ≡ false)
      × (height_of_quadrant (map (λ s. s.height) pre) (quadrant_of s) ≡ s.height)
  good_square pre s more w =
      let k = length pre in
      let heights = map (λ s. s.height) pre in
      let at : slice_get squares k ≡ Some s = ap (λ z. slice_get z k) w ∙ get_next pre s more in
      let p = placed k s at in
      let q = quadrant_by (suc p.below) s.pairs in
      let low : AllByRecursion (λ m. m ≢ 0 → height_at heights m ≡ p.below) (numbers_of q) =
      (part_height pre (s ∷ more) w p.below _ p.nw, (part_height pre (s ∷ more) w p.below _ p.ne, (part_height pre (s ∷ more) w p.below _ p.sw, (part_height pre (s ∷ more) w p.below _ p.se, tt)))) in
      let top : height_of_quadrant heights q ≡ suc p.below = over_parts heights (numbers_of q) p.below low p.some in
      let high : AllByRecursion (λ m. m < k + 2) (numbers_of q) = (part_below k p.below _ p.nw, (part_below k p.below _ p.ne, (part_below k p.below _ p.sw, (part_below k p.below _ p.se, tt)))) in
      let other : list_any (same_quadrant q) (map quadrant_of pre) ≡ false = none_same q pre (λ j y hj. not_true (same_quadrant q (quadrant_of y)) (λ t.
      let j_less = slice_get_within pre j y hj in
      let there : slice_get squares j ≡ Some y = ap (λ z. slice_get z j) w ∙ get_front pre (s ∷ more) j y hj in
      let same : quadrant_of s ≡ quadrant_of y = p.quadrant ∙ quadrant_text q (quadrant_of y) t in
      let one = once j k s (there ∙ ap (λ z. Some z) (sym (same_numbers k j s y at there same))) at in
      omega (arith, one, j_less))) in
      let good : is_bad (k + 2) (map quadrant_of pre) heights q ≡ false =
      or_from (no_parts (parts_of q)) _ p.some
      (or_from (list_any (λ m. leb (k + 2) m) (numbers_of q)) _ (none_high (k + 2) (numbers_of q) high)
      (or_from (list_any (λ m. not (eqb (height_at heights m + 1) (height_of_quadrant heights q))) (parts_of q)) _ (none_differs heights (numbers_of q) p.below (height_of_quadrant heights q) top low)
      (or_from (ltb size_height (height_of_quadrant heights q)) (list_any (same_quadrant q) (map quadrant_of pre)) (le-ltb size_height (height_of_quadrant heights q) (let l = p.low in omega (arith, top, l))) other))) in (
        ap (is_bad (k + 2) (map quadrant_of pre) heights) p.quadrant ∙ good,
        ap (height_of_quadrant heights) p.quadrant ∙ (top ∙ sym p.is_height),
      )

  -- by induction on the squares: behind the earlier ones a square is not bad and has its height, so that the
  -- search goes on to the next
  none_bad : (pre qs : List Square) → squares ≡ pre ++ qs → first_bad (length pre + 2) (map quadrant_of pre) (map (λ s. s.height) pre) (map quadrant_of qs) ≡ None
  none_bad pre [] w = refl
  none_bad pre (s ∷ qs) w =
      let k = length pre in
      let heights = map (λ s. s.height) pre in
      let g = good_square pre s qs w in
      let i = none_bad (pre ++ s ∷ []) qs (w ∙ sym (append_assoc pre (s ∷ []) qs)) in
      ap (λ b. cond b (Some (k + 2)) (first_bad ((k + 2) + 1) (map quadrant_of pre ++ quadrant_of s ∷ []) (heights ++ height_of_quadrant heights (quadrant_of s) ∷ []) (map quadrant_of qs))) g.0
      ∙ ((λ l. first_bad (later pre s l) (sym (map_one quadrant_of pre s) l) ((ap (λ z. heights ++ z ∷ []) g.1 ∙ sym (map_one (λ s. s.height) pre s)) l) (map quadrant_of qs)) ∙ i)
    where
      later : (pre : List Square) (s : Square) → (length pre + 2) + 1 ≡ length (pre ++ s ∷ []) + 2
      later pre s = let e = length-append pre (s ∷ []) in omega (arith, e)

  pub no_bad_square : first_bad 2 [] [] quads ≡ None
  no_bad_square = none_bad [] squares refl

  all_heights : (pre qs : List Square) → squares ≡ pre ++ qs → heights_behind (map (λ s. s.height) pre) (map quadrant_of qs) ≡ map (λ s. s.height) squares
  all_heights pre [] w = ap (map (λ s. s.height)) (sym (append-nil pre) ∙ sym w)
  all_heights pre (s ∷ qs) w =
      let heights = map (λ s. s.height) pre in
      ap (λ z. heights_behind z (map quadrant_of qs)) (ap (λ z. heights ++ z ∷ []) (good_square pre s qs w).1 ∙ sym (map_one (λ s. s.height) pre s))
      ∙ all_heights (pre ++ s ∷ []) qs (w ∙ sym (append_assoc pre (s ∷ []) qs))

  pub heights_are : heights_behind [] quads ≡ map (λ s. s.height) squares
  heights_are = all_heights [] squares refl
