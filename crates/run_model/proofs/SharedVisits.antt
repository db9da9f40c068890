-- The visits of squares as sets are the visits of their numbers.
-- 1. A number's square has pairs exactly if the number is not 0, and its quarters are the squares of its parts.
-- 2. A square is among those of a list of numbers exactly if its number is among them.
-- 3. So a visit of the square of a number leaves the squares of the numbers that the visit of the number leaves.
use Rattle.std.proofs.Common.{◌≡◌, ◌≢◌, ◌+◌, ◌^◌, ◌||◌, cond, eqb, zero, suc, ℕ, Bool, true, false, List, [], ◌∷◌, ◌++◌, map, Some, refl, sym, ap, subst, ◌∙◌, inl, inr, arith}
use Rattle.std.specs.Prelude.{slice_get}
use Rattle.std.specs.List.{list_any, AllByRecursion}
use Rattle.std.proofs.lemmas.Bool.{cases_Bool, eqb-true, eq-eqb, ne_eqb, and_parts, and_from, false≢true}
use Rattle.rel_model.specs.Listed.{is_among}
use Rattle.rel_model.specs.Cells.{no_cells}
use Rattle.rel_model.proofs.Pairs.{same, same-true, same_itself}
use Rattle.rel_model.specs.Trees.{quartered}
use Rattle.run_model.specs.SharedFiles.{Quadrant, cells_told, with_number, visit_number}
use Rattle.run_model.specs.SharedBytes.{Square, same_pairs, same_square, with_square, where_pairs, visit, quarter}
use Rattle.run_model.proofs.SharedCells.{pairs_of, among_pairs, two-halves, nw_quarter, ne_quarter, sw_quarter, se_quarter, IsNumber, IsDistinct, quadrant-listed, zero_cells, cells_within, cells_listed, some_cell, one_number}

-- ---- lists of pairs
same_pairs-true : (xs ys : List (ℕ × ℕ)) → same_pairs xs ys ≡ true → xs ≡ ys
same_pairs-true [] [] h = refl
same_pairs-true [] (y ∷ ys) h = absurd (false≢true h)
same_pairs-true (x ∷ xs) [] h = absurd (false≢true h)
same_pairs-true (x ∷ xs) (y ∷ ys) h =
    let p = and_parts (same x y) (same_pairs xs ys) h in
    λ i. same-true x y p.0 i ∷ same_pairs-true xs ys p.1 i

same_pairs_itself : (xs : List (ℕ × ℕ)) → same_pairs xs xs ≡ true
same_pairs_itself [] = refl
same_pairs_itself (x ∷ xs) = and_from (same x x) (same_pairs xs xs) (same_itself x) (same_pairs_itself xs)

pub same_square-true : (a b : Square) → same_square a b ≡ true → a ≡ b
same_square-true a b h =
    let p = and_parts (eqb a.height b.height) (same_pairs a.pairs b.pairs) h in
    let e = eqb-true a.height b.height p.0 in
    let f = same_pairs-true a.pairs b.pairs p.1 in
    λ i. record { height = e i; pairs = f i }

pub same_square_itself : (a : Square) → same_square a a ≡ true
same_square_itself a = and_from (eqb a.height a.height) (same_pairs a.pairs a.pairs) (eq-eqb a.height a.height refl) (same_pairs_itself a.pairs)

pub not_true : (b : Bool) → (b ≡ true → ⊥) → b ≡ false
not_true true h = absurd (h refl)
not_true false h = refl

-- ---- pairs of numbers
module _ (quads : List Quadrant) where
  -- the pairs of the square of a number
  abbrev pub pairs_at : ℕ → ℕ → List (ℕ × ℕ)
  pairs_at h n = pairs_of (2 ^ h) (cells_told quads h n)

  among_is : (h n : ℕ) → is_among (pairs_at h n) ≡ cells_told quads h n
  among_is h n = among_pairs (2 ^ h) (cells_told quads h n) (cells_within quads h n)

  pub no_pairs : (h : ℕ) → pairs_at h 0 ≡ []
  no_pairs h = none (pairs_at h 0) (among_is h 0 ∙ zero_cells quads h)
    where
      none : (ps : List (ℕ × ℕ)) → is_among ps ≡ no_cells → ps ≡ []
      none [] e = refl
      none (p ∷ ps) e =
          let t : is_among (p ∷ ps) p.0 p.1 ≡ true = ap (λ b. b || is_among ps p.0 p.1) (same_itself p) in
          absurd (false≢true (sym (λ i. e i p.0 p.1) ∙ t))

  pub some_pairs : (h n : ℕ) → IsNumber quads h n → n ≢ 0 → (p : ℕ × ℕ) × (ps : List (ℕ × ℕ)) × (pairs_at h n ≡ p ∷ ps)
  some_pairs h n is other = first (pairs_at h n) refl
    where
      first : (ps : List (ℕ × ℕ)) → pairs_at h n ≡ ps → (p : ℕ × ℕ) × (qs : List (ℕ × ℕ)) × (ps ≡ p ∷ qs)
      first [] e =
          let w = some_cell quads h n is other in
          absurd (false≢true ((λ i. is_among (sym e i) w.0 w.1) ∙ ((λ i. among_is h n i w.0 w.1) ∙ w.2)))
      first (p ∷ ps) e = (p, ps, refl)

  -- numbers of one height with the same pairs are one
  pub pairs_one : IsDistinct quads → (h m n : ℕ) → IsNumber quads h m → IsNumber quads h n → pairs_at h m ≡ pairs_at h n → m ≡ n
  pairs_one distinct h m n x y e = one_number quads distinct h m n x y (sym (among_is h m) ∙ (ap is_among e ∙ among_is h n))

  -- the quarters of a listed square are the squares of its parts
  pub record Quarters (h k : ℕ) (q : Quadrant) : Type 0 where
    pub nw : quarter (2 ^ h) 0 0 (pairs_at (suc h) (k + 2)) ≡ pairs_at h q.nw
    pub ne : quarter (2 ^ h) 0 (2 ^ h) (pairs_at (suc h) (k + 2)) ≡ pairs_at h q.ne
    pub sw : quarter (2 ^ h) (2 ^ h) 0 (pairs_at (suc h) (k + 2)) ≡ pairs_at h q.sw
    pub se : quarter (2 ^ h) (2 ^ h) (2 ^ h) (pairs_at (suc h) (k + 2)) ≡ pairs_at h q.se

  -- the quarters of a listed square are the squares of its parts, since its cells are those of its parts put together
  pub quarters_are : (h k : ℕ) (q : Quadrant) → slice_get quads k ≡ Some q → Quarters h k q
  quarters_are h k q at =
      let m = 2 ^ h in
      let t = cells_told quads h in
      let w = cells_within quads h in
      let whole : pairs_at (suc h) (k + 2) ≡ pairs_of (m + m) (quartered m (t q.nw) (t q.ne) (t q.sw) (t q.se)) =
      λ i. pairs_of (sym (two-halves h) i) (cells_listed quads h k q at i) in
      record {
        nw = ap (quarter m 0 0) whole ∙ nw_quarter m (t q.nw) (t q.ne) (t q.sw) (t q.se) (w q.nw) (w q.ne) (w q.sw) (w q.se);
        ne = ap (quarter m 0 m) whole ∙ ne_quarter m (t q.nw) (t q.ne) (t q.sw) (t q.se) (w q.nw) (w q.ne) (w q.sw) (w q.se);
        sw = ap (quarter m m 0) whole ∙ sw_quarter m (t q.nw) (t q.ne) (t q.sw) (t q.se) (w q.nw) (w q.ne) (w q.sw) (w q.se);
        se = ap (quarter m m m) whole ∙ se_quarter m (t q.nw) (t q.ne) (t q.sw) (t q.se) (w q.nw) (w q.ne) (w q.sw) (w q.se);
      }

  -- ---- squares of numbers, of which each listed one has its height
  module _ (distinct : IsDistinct quads) (height : ℕ → ℕ) (high : (h n : ℕ) → IsNumber quads (suc h) n → n ≢ 0 → height n ≡ suc h) where
    abbrev pub square_at : ℕ → Square
    square_at n = record { height = height n; pairs = pairs_at (height n) n }

    -- a number of a listed square
    abbrev pub IsListed : ℕ → Type 0
    IsListed n = (h : ℕ) × (n ≢ 0) × IsNumber quads (suc h) n

    pub square_is : (h n : ℕ) → IsNumber quads (suc h) n → n ≢ 0 → square_at n ≡ record { height = suc h; pairs = pairs_at (suc h) n }
    square_is h n is other = λ i. record { height = high h n is other i; pairs = pairs_at (high h n is other i) n }

    -- listed squares are one exactly if their numbers are
    pub same_number : (m n : ℕ) → IsListed m → IsListed n → same_square (square_at n) (square_at m) ≡ eqb m n
    same_number m n (g, mo, x) (h, no', y) = elim (cases_Bool (eqb m n)) [
      | inl t ↦
          let e = eqb-true m n t in
          ap (λ z. same_square (square_at n) (square_at z)) e ∙ (same_square_itself (square_at n) ∙ sym t)
      | inr f ↦ not_true (same_square (square_at n) (square_at m)) (λ t.
          let e = same_square-true (square_at n) (square_at m) t in
          let heights : suc h ≡ suc g = sym (high h n y no') ∙ (ap (λ s. s.height) e ∙ high g m x mo) in
          let one : h ≡ g = omega (arith, heights) in
          let pairs : pairs_at (suc h) n ≡ pairs_at (suc h) m =
          ap (λ z. pairs_at z n) (sym (high h n y no')) ∙ (ap (λ s. s.pairs) e ∙ (ap (λ z. pairs_at z m) (high g m x mo) ∙ ap (λ z. pairs_at (suc z) m) (sym one))) in
          let same = pairs_one distinct (suc h) n m y (subst (λ z. IsNumber quads (suc z) m) (sym one) x) pairs in
          false≢true (sym f ∙ eq-eqb m n (sym same))) ∙ sym f
    ]

    among_squares : (n : ℕ) → IsListed n → (ns : List ℕ) → AllByRecursion IsListed ns → list_any (same_square (square_at n)) (map square_at ns) ≡ list_any (λ m. eqb m n) ns
    among_squares n is [] h = refl
    among_squares n is (m ∷ ns) h = λ i. same_number m n h.0 is i || among_squares n is ns h.1 i

    map_append : (xs ys : List ℕ) → map square_at (xs ++ ys) ≡ map square_at xs ++ map square_at ys
    map_append [] ys = refl
    map_append (x ∷ xs) ys = ap (λ l. square_at x ∷ l) (map_append xs ys)

    with_one : (n : ℕ) → IsListed n → (ns : List ℕ) → AllByRecursion IsListed ns → with_square (square_at n) (map square_at ns) ≡ map square_at (with_number n ns)
    with_one n is ns h =
        ap (λ b. cond b (map square_at ns) (map square_at ns ++ square_at n ∷ [])) (among_squares n is ns h)
        ∙ picked (list_any (λ m. eqb m n) ns)
      where
        picked : (b : Bool) → cond b (map square_at ns) (map square_at ns ++ square_at n ∷ []) ≡ map square_at (cond b ns (ns ++ n ∷ []))
        picked true = refl
        picked false = sym (map_append ns (n ∷ []))

    listed_append : (xs ys : List ℕ) → AllByRecursion IsListed xs → AllByRecursion IsListed ys → AllByRecursion IsListed (xs ++ ys)
    listed_append [] ys h k = k
    listed_append (x ∷ xs) ys h k = (h.0, listed_append xs ys h.1 k)

    with_listed : (n : ℕ) → IsListed n → (ns : List ℕ) → AllByRecursion IsListed ns → AllByRecursion IsListed (with_number n ns)
    with_listed n is ns h = picked (list_any (λ m. eqb m n) ns)
      where
        picked : (b : Bool) → AllByRecursion IsListed (cond b ns (ns ++ n ∷ []))
        picked true = h
        picked false = listed_append ns (n ∷ []) h (is, tt)

    -- a visit of a listed square's number is one of its parts and then of itself
    number_step : (h k : ℕ) (q : Quadrant) → slice_get quads k ≡ Some q → (list : List ℕ) →
        visit_number quads (suc h) (k + 2) list
        ≡ with_number (k + 2) (visit_number quads h q.se (visit_number quads h q.sw (visit_number quads h q.ne (visit_number quads h q.nw list))))
    number_step h k q at list =
        ap (λ z. cond (eqb (k + 2) 0) list (with_number (k + 2) (visit_number quads h z.se (visit_number quads h z.sw (visit_number quads h z.ne (visit_number quads h z.nw list)))))) (quadrant-listed quads k q at)
        ∙ ap (λ b. cond b list (with_number (k + 2) (visit_number quads h q.se (visit_number quads h q.sw (visit_number quads h q.ne (visit_number quads h q.nw list)))))) (ne_eqb (k + 2) 0 (λ e. omega (arith, e)))

    none_step : (h : ℕ) (list : List ℕ) → visit_number quads h 0 list ≡ list
    none_step zero list = refl
    none_step (suc h) list = refl

    pub visited_listed : (h n : ℕ) → IsNumber quads h n → (ns : List ℕ) → AllByRecursion IsListed ns → AllByRecursion IsListed (visit_number quads h n ns)
    visited_listed zero n is ns l = l
    visited_listed (suc h) n (inl e) ns l = subst (λ z. AllByRecursion IsListed (visit_number quads (suc h) z ns)) (sym e) l
    visited_listed (suc h) n (inr (k, q, is, at, some, nw, ne, sw, se)) ns l =
        let a = visited_listed h q.nw nw ns l in
        let b = visited_listed h q.ne ne (visit_number quads h q.nw ns) a in
        let c = visited_listed h q.sw sw (visit_number quads h q.ne (visit_number quads h q.nw ns)) b in
        let d = visited_listed h q.se se (visit_number quads h q.sw (visit_number quads h q.ne (visit_number quads h q.nw ns))) c in
        subst (λ z. AllByRecursion IsListed (visit_number quads (suc h) z ns)) (sym is)
        (subst (AllByRecursion IsListed) (sym (number_step h k q at ns))
        (with_listed (k + 2) (h, (λ e. omega (arith, e)), inr (k, q, refl, at, some, nw, ne, sw, se)) _ d))

    -- the visit of a square is that of its number
    pub visited : (h n : ℕ) → IsNumber quads h n → (ns : List ℕ) → AllByRecursion IsListed ns →
        visit h (pairs_at h n) (map square_at ns) ≡ map square_at (visit_number quads h n ns)
    visited zero n is ns l = refl
    visited (suc h) n (inl e) ns l =
        ap (λ ps. visit (suc h) ps (map square_at ns)) (ap (pairs_at (suc h)) e ∙ no_pairs (suc h))
        ∙ ap (map square_at) (sym (ap (λ z. visit_number quads (suc h) z ns) e ∙ none_step (suc h) ns))
    visited (suc h) n (inr (k, q, is, at, some, nw, ne, sw, se)) ns l =
        let m = 2 ^ h in
        let self : IsNumber quads (suc h) (k + 2) = inr (k, q, refl, at, some, nw, ne, sw, se) in
        let other : k + 2 ≢ 0 = λ e. omega (arith, e) in
        let first = some_pairs (suc h) (k + 2) self other in
        let four = quarters_are h k q at in
        let n1 = visit_number quads h q.nw ns in
        let n2 = visit_number quads h q.ne n1 in
        let n3 = visit_number quads h q.sw n2 in
        let n4 = visit_number quads h q.se n3 in
        let l1 = visited_listed h q.nw nw ns l in
        let l2 = visited_listed h q.ne ne n1 l1 in
        let l3 = visited_listed h q.sw sw n2 l2 in
        let l4 = visited_listed h q.se se n3 l3 in
        let e1 : visit h (quarter m 0 0 (pairs_at (suc h) (k + 2))) (map square_at ns) ≡ map square_at n1 =
        ap (λ ps. visit h ps (map square_at ns)) four.nw ∙ visited h q.nw nw ns l in
        let e2 : visit h (quarter m 0 m (pairs_at (suc h) (k + 2))) (visit h (quarter m 0 0 (pairs_at (suc h) (k + 2))) (map square_at ns)) ≡ map square_at n2 =
        (λ i. visit h (four.ne i) (e1 i)) ∙ visited h q.ne ne n1 l1 in
        let e3 : visit h (quarter m m 0 (pairs_at (suc h) (k + 2))) (visit h (quarter m 0 m (pairs_at (suc h) (k + 2))) (visit h (quarter m 0 0 (pairs_at (suc h) (k + 2))) (map square_at ns))) ≡ map square_at n3 =
        (λ i. visit h (four.sw i) (e2 i)) ∙ visited h q.sw sw n2 l2 in
        let e4 : visit h (quarter m m m (pairs_at (suc h) (k + 2))) (visit h (quarter m m 0 (pairs_at (suc h) (k + 2))) (visit h (quarter m 0 m (pairs_at (suc h) (k + 2))) (visit h (quarter m 0 0 (pairs_at (suc h) (k + 2))) (map square_at ns)))) ≡ map square_at n4 =
        (λ i. visit h (four.se i) (e3 i)) ∙ visited h q.se se n3 l3 in
        ap (λ z. visit (suc h) (pairs_at (suc h) z) (map square_at ns)) is
        ∙ (there (pairs_at (suc h) (k + 2)) first.0 first.1 first.2 (map square_at ns) _
        ∙ ((λ i. with_square (sym (square_is h (k + 2) self other) i) (e4 i))
        ∙ (with_one (k + 2) (h, other, self) n4 l4
        ∙ ap (map square_at) (sym (ap (λ z. visit_number quads (suc h) z ns) is ∙ number_step h k q at ns)))))
      where
        there : (ps : List (ℕ × ℕ)) (p : ℕ × ℕ) (qs : List (ℕ × ℕ)) → ps ≡ p ∷ qs → (list made : List Square) → where_pairs ps list made ≡ made
        there ps p qs e list made = ap (λ z. where_pairs z list made) e
