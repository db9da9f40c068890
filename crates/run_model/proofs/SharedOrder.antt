-- The order of the squares of a file: where the visits list the numbers from 2 on, the squares of its relations are those of
-- its numbers, each at its place.
use Rattle.std.proofs.Common.{◌≡◌, ◌≢◌, ◌<◌, ◌≤◌, ◌+◌, ◌||◌, cond, eqb, zero, suc, ℕ, Bool, true, false, List, [], ◌∷◌, ◌++◌, map, length, Option, Some, None, refl, sym, ap, subst, ◌∙◌, inl, inr, arith, append_assoc, length-append}
use Rattle.std.specs.Prelude.{slice_get}
use Rattle.std.specs.List.{list_any, flat_map, AllByRecursion}
use Rattle.std.specs.Int.{w32, to_be_bytes}
use Rattle.std.proofs.lemmas.Bool.{cases_Bool, eqb-true, eq-eqb, ne_eqb, or_parts, or_from, false≢true}
use Rattle.std.proofs.lemmas.Option.{slice_get_within}
use Rattle.run_model.specs.SharedFiles.{Quadrant, quadrant_at, height_at, with_number, visit_number, first_out}
use Rattle.run_model.specs.SharedBytes.{Square, same_square, place_in, number_in, quarter_bytes}
use Rattle.run_model.proofs.SharedCells.{IsNumber}
use Rattle.run_model.proofs.SharedVisits.{pairs_at, some_pairs, no_pairs, quarters_are, square_at, IsListed, square_is, same_number}
use Rattle.run_model.proofs.SharedTable.{get_next, IsTable, table_height}
use Rattle.run_model.proofs.SharedBytes.{quadrant_bytes}

-- so many numbers from one on
abbrev pub numbers_from : ℕ → ℕ → List ℕ
numbers_from n zero = []
numbers_from n (suc k) = n ∷ numbers_from (n + 1) k

pub numbers_count : (n k : ℕ) → length (numbers_from n k) ≡ k
numbers_count n zero = refl
numbers_count n (suc k) = ap suc (numbers_count (n + 1) k)

-- ---- no number twice
abbrev among : ℕ → List ℕ → Bool
among n = list_any (λ m. eqb m n)

abbrev pub Once : List ℕ → Type 0
Once [] = Unit {0}
Once (x ∷ xs) = (among x xs ≡ false) × Once xs

among_append : (n : ℕ) (xs ys : List ℕ) → among n (xs ++ ys) ≡ (among n xs || among n ys)
among_append n [] ys = refl
among_append n (x ∷ xs) ys = ap (λ b. eqb x n || b) (among_append n xs ys) ∙ or_or (eqb x n) (among n xs) (among n ys)
  where
    or_or : (a b c : Bool) → (a || (b || c)) ≡ ((a || b) || c)
    or_or true b c = refl
    or_or false b c = refl

-- a list without repeats stays so when a number that is not in it is put behind it
once_append : (xs : List ℕ) (n : ℕ) → Once xs → among n xs ≡ false → Once (xs ++ n ∷ [])
once_append [] n h k = (refl, tt)
once_append (x ∷ xs) n h k =
    let o = or_parts (eqb x n) (among n xs) k in (
      among_append x xs (n ∷ []) ∙ or_from (among x xs) (eqb n x || false) h.0 (or_from (eqb n x) false (turned x n o.0) refl),
      once_append xs n h.1 o.1,
    )
  where
    turned : (x n : ℕ) → eqb x n ≡ false → eqb n x ≡ false
    turned x n e = elim (cases_Bool (eqb n x)) [
      | inl t ↦ absurd (false≢true (sym e ∙ eq-eqb x n (sym (eqb-true n x t))))
      | inr f ↦ f
    ]

with_once : (n : ℕ) (xs : List ℕ) → Once xs → Once (with_number n xs)
with_once n xs h = picked (among n xs) refl
  where
    picked : (b : Bool) → among n xs ≡ b → Once (cond b xs (xs ++ n ∷ []))
    picked true e = h
    picked false e = once_append xs n h e

pub visit_once : (quads : List Quadrant) (h n : ℕ) (xs : List ℕ) → Once xs → Once (visit_number quads h n xs)
visit_once quads zero n xs o = o
visit_once quads (suc h) n xs o =
    let q = quadrant_at quads n in
    picked (eqb n 0) _
    (with_once n _ (visit_once quads h q.se _ (visit_once quads h q.sw _ (visit_once quads h q.ne _ (visit_once quads h q.nw xs o)))))
  where
    picked : (b : Bool) (ys : List ℕ) → Once ys → Once (cond b xs ys)
    picked true ys k = o
    picked false ys k = k

-- a number among so many from another on
among_numbers : (n d k : ℕ) → d < k → among (n + d) (numbers_from n k) ≡ true
among_numbers n d zero l = absurd (omega (arith, l))
among_numbers n zero (suc k) l = ap (λ b. b || among (n + 0) (numbers_from (n + 1) k)) (eq-eqb n (n + 0) (omega arith))
among_numbers n (suc d) (suc k) l =
    ap (λ b. eqb n (n + suc d) || b) (ap (λ m. among m (numbers_from (n + 1) k)) (later n d) ∙ among_numbers (n + 1) d k (omega (arith, l))) ∙ or_true (eqb n (n + suc d))
  where
    later : (n d : ℕ) → n + suc d ≡ (n + 1) + d
    later n d = omega arith

    or_true : (b : Bool) → (b || true) ≡ true
    or_true true = refl
    or_true false = refl

abbrev out_count : Option ℕ → ℕ
out_count None = 0
out_count (Some n) = 1

-- a list that begins with so many numbers in order
pub in_order : (n k : ℕ) (list : List ℕ) → first_out n k list ≡ None → (rest : List ℕ) × (list ≡ numbers_from n k ++ rest)
in_order n zero list h = (list, refl)
in_order n (suc k) [] h = let e : 1 ≡ 0 = ap out_count h in absurd (omega (arith, e))
in_order n (suc k) (m ∷ list) h = elim (cases_Bool (eqb m n)) [
  | inl t ↦
      let r = in_order (n + 1) k list (sym (ap (λ b. cond b (first_out (n + 1) k list) (Some n)) t) ∙ h) in
      (r.0, λ i. eqb-true m n t i ∷ r.1 i)
  | inr f ↦ let e : 1 ≡ 0 = ap out_count (sym (ap (λ b. cond b (first_out (n + 1) k list) (Some n)) f) ∙ h) in absurd (omega (arith, e))
]

-- in a list without repeats, what stands behind is not among what stands before: by induction on the latter
once_left : (xs : List ℕ) (v : ℕ) (rest : List ℕ) → Once (xs ++ v ∷ rest) → among v xs ≡ false
once_left [] v rest o = refl
once_left (x ∷ xs) v rest o =
    let a = or_parts (among x xs) (among x (v ∷ rest)) (sym (among_append x xs (v ∷ rest)) ∙ o.0) in
    let b = or_parts (eqb v x) (among x rest) a.1 in
    or_from (eqb x v) (among v xs) (turned x v b.0) (once_left xs v rest o.1)
  where
    turned : (x n : ℕ) → eqb n x ≡ false → eqb x n ≡ false
    turned x n e = elim (cases_Bool (eqb x n)) [
      | inl t ↦ absurd (false≢true (sym e ∙ eq-eqb n x (sym (eqb-true x n t))))
      | inr f ↦ f
    ]

-- ---- a table whose squares are visited in order
module _ (quads : List Quadrant) (heights : List ℕ) (t : IsTable quads heights) where
  abbrev pub height : ℕ → ℕ
  height = height_at heights

  -- the table gives each number other than 0 above the cells the height at which it is a number
  pub high : (h n : ℕ) → IsNumber quads (suc h) n → n ≢ 0 → height n ≡ suc h
  high h n is other = table_height quads heights t h n is other

  abbrev pub Listed : ℕ → Type 0
  Listed = IsListed quads t.distinct height high

  abbrev pub square : ℕ → Square
  square = square_at quads t.distinct height high

  abbrev pub all_numbers : List ℕ
  all_numbers = numbers_from 2 (length quads)

  abbrev pub all_squares : List Square
  all_squares = map square all_numbers

  -- a listed number is one of those from 2 on
  listed_below : (n : ℕ) → Listed n → (k : ℕ) × (n ≡ k + 2) × (k < length quads)
  listed_below n (h, other, inl e) = absurd (other e)
  listed_below n (h, other, inr x) = (x.0, x.2, slice_get_within quads x.0 x.1 x.3)

  -- visits that list them in order list no more
  pub exactly : (list : List ℕ) → Once list → AllByRecursion Listed list → first_out 2 (length quads) list ≡ None → list ≡ all_numbers
  exactly list o l h =
      let r = in_order 2 (length quads) list h in
      none r.0 r.1
    where
      front : (P : ℕ → Type 0) (xs ys : List ℕ) → AllByRecursion P (xs ++ ys) → AllByRecursion P ys
      front P [] ys h = h
      front P (x ∷ xs) ys h = front P xs ys h.1

      none : (rest : List ℕ) → list ≡ all_numbers ++ rest → list ≡ all_numbers
      none [] e = e ∙ append_none all_numbers
        where
          append_none : (xs : List ℕ) → xs ++ [] ≡ xs
          append_none [] = refl
          append_none (x ∷ xs) = ap (λ ys. x ∷ ys) (append_none xs)
      none (v ∷ rest) e =
          let b = listed_below v (front Listed all_numbers (v ∷ rest) (subst (AllByRecursion Listed) e l)).0 in
          let out = once_left all_numbers v rest (subst Once e o) in
          let is : v ≡ 2 + b.0 = let q = b.1 in omega (arith, q) in
          absurd (false≢true (sym out ∙ (ap (λ z. among z all_numbers) is ∙ among_numbers 2 b.0 (length quads) b.2)))

  listed_from : (k j : ℕ) → k + j ≤ length quads → AllByRecursion Listed (numbers_from (j + 2) k)
  listed_from zero j l = tt
  listed_from (suc k) j l =
      let s = t.stand j (omega (arith, l)) in (
        (s.0, (λ e. omega (arith, e)), s.2),
        subst (λ z. AllByRecursion Listed (numbers_from z k)) (later j) (listed_from k (j + 1) (omega (arith, l))),
      )
    where
      later : (j : ℕ) → (j + 1) + 2 ≡ (j + 2) + 1
      later j = omega arith

  -- the place of a square among them
  place : (k j d : ℕ) → k + j ≤ length quads → d < k → place_in (map square (numbers_from (j + 2) k)) (square ((j + d) + 2)) ≡ d
  place zero j d l less = absurd (omega (arith, less))
  place (suc k) j zero l less =
      let all = listed_from (suc k) j l in
      let one : j + 2 ≡ (j + 0) + 2 = omega arith in
      ap (λ b. cond b 0 (1 + place_in (map square (numbers_from ((j + 2) + 1) k)) (square ((j + 0) + 2))))
      (ap (λ z. same_is (j + 2) z) (sym one) ∙ (same_number quads t.distinct height high (j + 2) (j + 2) all.0 all.0 ∙ eq-eqb (j + 2) (j + 2) refl))
    where
      same_is : ℕ → ℕ → Bool
      same_is m n = same_square (square m) (square n)
  place (suc k) j (suc d) l less =
      let all = listed_from (suc k) j l in
      let s = t.stand (j + suc d) (omega (arith, l, less)) in
      let i = place k (j + 1) d (omega (arith, l)) (omega (arith, less)) in
      ap (λ b. cond b 0 (1 + place_in (map square (numbers_from ((j + 2) + 1) k)) (square ((j + suc d) + 2))))
      (same_number quads t.distinct height high ((j + suc d) + 2) (j + 2) (s.0, (λ e. omega (arith, e)), s.2) all.0
      ∙ ne_eqb ((j + suc d) + 2) (j + 2) (λ e. omega (arith, e)))
      ∙ (ap (λ n. 1 + n) ((λ i. place_in (map square (numbers_from (later j i) k)) (square (along j d i + 2))) ∙ i) ∙ plus_one d)
    where
      later : (j : ℕ) → (j + 2) + 1 ≡ (j + 1) + 2
      later j = omega arith

      along : (j d : ℕ) → j + suc d ≡ (j + 1) + d
      along j d = omega arith

      plus_one : (d : ℕ) → 1 + d ≡ suc d
      plus_one d = omega arith

  -- the number of a number's square
  pub number_is : (h n : ℕ) → IsNumber quads h n → number_in all_squares h (pairs_at quads h n) ≡ n
  number_is zero n (inl e) = ap (λ z. number_in all_squares zero (pairs_at quads zero z)) e ∙ (ap (number_in all_squares zero) (no_pairs quads zero) ∙ sym e)
  number_is zero n (inr e) =
      let p = some_pairs quads zero n (inr e) (λ z. omega (arith, z, e)) in
      ap (number_in all_squares zero) p.2 ∙ sym e
  number_is (suc h) n (inl e) = ap (λ z. number_in all_squares (suc h) (pairs_at quads (suc h) z)) e ∙ (ap (number_in all_squares (suc h)) (no_pairs quads (suc h)) ∙ sym e)
  number_is (suc h) n (inr x) =
      let k = x.0 in
      let is : n ≡ k + 2 = x.2 in
      let self : IsNumber quads (suc h) (k + 2) = subst (IsNumber quads (suc h)) is (inr x) in
      let other : k + 2 ≢ 0 = λ e. omega (arith, e) in
      let p = some_pairs quads (suc h) (k + 2) self other in
      let l = slice_get_within quads k x.1 x.3 in
      ap (λ z. number_in all_squares (suc h) (pairs_at quads (suc h) z)) is
      ∙ (ap (number_in all_squares (suc h)) p.2
      ∙ (ap (λ ps. 2 + place_in all_squares (record { height = suc h; pairs = ps })) (sym p.2)
      ∙ (ap (λ s. 2 + place_in all_squares s) (sym (square_is quads t.distinct height high h (k + 2) self other))
      ∙ (ap (λ z. 2 + place_in all_squares (square (z + 2))) (from_zero k)
      ∙ (ap (λ z. 2 + z) (place (length quads) 0 k (omega arith) l) ∙ (two_more k ∙ sym is))))))
    where
      from_zero : (k : ℕ) → k ≡ 0 + k
      from_zero k = omega arith

      two_more : (k : ℕ) → 2 + k ≡ k + 2
      two_more k = omega arith

  -- the bytes of a listed square's quarters
  square_bytes : (k : ℕ) (q : Quadrant) → slice_get quads k ≡ Some q → quarter_bytes all_squares (square (k + 2)).height (square (k + 2)).pairs ≡ quadrant_bytes q
  square_bytes k q at =
      let s = t.stand k (slice_get_within quads k q at) in
      parts s.0 s.2
    where
      parts : (h : ℕ) → IsNumber quads (suc h) (k + 2) → quarter_bytes all_squares (square (k + 2)).height (square (k + 2)).pairs ≡ quadrant_bytes q
      parts h (inl e) = absurd (omega (arith, e))
      parts h (inr (j, p, is, pat, some, nw, ne, sw, se)) =
          let here : j ≡ k = omega (arith, is) in
          let same : p ≡ q = ap (or_else p) (sym pat ∙ (ap (slice_get quads) here ∙ at)) in
          let four = quarters_are quads h k q at in
          let whole = square_is quads t.distinct height high h (k + 2) (inr (j, p, is, pat, some, nw, ne, sw, se)) (λ e. omega (arith, e)) in
          ap (λ s. quarter_bytes all_squares s.height s.pairs) whole
          ∙ (λ i.
          ((to_be_bytes w32 ((ap (number_in all_squares h) four.nw ∙ number_is h q.nw (subst (λ z. IsNumber quads h z.nw) same nw)) i)
          ++ to_be_bytes w32 ((ap (number_in all_squares h) four.ne ∙ number_is h q.ne (subst (λ z. IsNumber quads h z.ne) same ne)) i))
          ++ to_be_bytes w32 ((ap (number_in all_squares h) four.sw ∙ number_is h q.sw (subst (λ z. IsNumber quads h z.sw) same sw)) i))
          ++ to_be_bytes w32 ((ap (number_in all_squares h) four.se ∙ number_is h q.se (subst (λ z. IsNumber quads h z.se) same se)) i))
        where
          or_else : Quadrant → Option Quadrant → Quadrant
          or_else d None = d
          or_else d (Some z) = z

  squares_bytes : (pre qs : List Quadrant) → quads ≡ pre ++ qs →
      flat_map (λ s. quarter_bytes all_squares s.height s.pairs) (map square (numbers_from (length pre + 2) (length qs))) ≡ flat_map quadrant_bytes qs
  squares_bytes pre [] w = refl
  squares_bytes pre (q ∷ qs) w =
      let at : slice_get quads (length pre) ≡ Some q = ap (λ z. slice_get z (length pre)) w ∙ get_next pre q qs in
      let i = squares_bytes (pre ++ q ∷ []) qs (w ∙ sym (append_assoc pre (q ∷ []) qs)) in
      λ j. square_bytes (length pre) q at j
      ++ (ap (λ n. flat_map (λ s. quarter_bytes all_squares s.height s.pairs) (map square (numbers_from n (length qs)))) (later pre q) ∙ i) j
    where
      later : (pre : List Quadrant) (q : Quadrant) → (length pre + 2) + 1 ≡ length (pre ++ q ∷ []) + 2
      later pre q = let e = length-append pre (q ∷ []) in omega (arith, e)

  pub all_bytes : flat_map (λ s. quarter_bytes all_squares s.height s.pairs) all_squares ≡ flat_map quadrant_bytes quads
  all_bytes = squares_bytes [] quads refl
