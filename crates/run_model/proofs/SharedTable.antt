-- Listed squares of which none is bad: each number stands at its height, and no square is listed twice.
-- 1. The parts of a listed square come before it, and have one height.
-- 2. So square after square each is a number at 1 more than the height of its parts.
use Rattle.std.proofs.Common.{◌≡◌, ◌≢◌, ◌<◌, ◌+◌, ◌-◌, ◌||◌, not, leb, ltb, cond, eqb, zero, suc, ℕ, Bool, true, false, List, [], ◌∷◌, ◌++◌, length, Option, Some, None, refl, sym, ap, subst, ◌∙◌, inl, inr, arith, append_assoc, length-append}
use Rattle.std.specs.Prelude.{slice_get, slice_index, filter}
use Rattle.std.specs.List.{list_any}
use Rattle.std.proofs.lemmas.Bool.{cases_Bool, cases_lt, eqb-true, eq-eqb, ne_eqb, leb-false, lt-leb, or_parts, and_from, false≢true}
use Rattle.std.proofs.lemmas.Option.{slice_get_within, get_or_from_slice_get}
use Rattle.rel_model.specs.Relation.{size_height}
use Rattle.lang_model.specs.Tokens.{same_text}
use Rattle.run_model.specs.SharedFiles.{Quadrant, numbers_of, parts_of, no_parts, same_quadrant, height_at, height_over_parts, height_of_quadrant, heights_behind, is_bad, first_bad}
use Rattle.run_model.proofs.SharedCells.{IsNumber, IsDistinct, one_height}

-- ---- lists
module _ {X : Type 0} where
  abbrev get_count : Option X → ℕ
  get_count None = 0
  get_count (Some x) = 1

  pub get_front : (xs ys : List X) (k : ℕ) (x : X) → slice_get xs k ≡ Some x → slice_get (xs ++ ys) k ≡ Some x
  get_front [] ys k x h = let e : 0 ≡ 1 = ap get_count h in absurd (omega (arith, e))
  get_front (y ∷ xs) ys zero x h = h
  get_front (y ∷ xs) ys (suc k) x h = get_front xs ys k x h

  pub get_next : (xs : List X) (x : X) (ys : List X) → slice_get (xs ++ x ∷ ys) (length xs) ≡ Some x
  get_next [] x ys = refl
  get_next (y ∷ xs) x ys = get_next xs x ys

  pub get_less : (xs : List X) (k : ℕ) → k < length xs → (x : X) × (slice_get xs k ≡ Some x)
  get_less [] k l = absurd (omega (arith, l))
  get_less (x ∷ xs) zero l = (x, refl)
  get_less (x ∷ xs) (suc k) l = get_less xs k (omega (arith, l))

  pub get_back : (xs ys : List X) (k : ℕ) (x : X) → k < length xs → slice_get (xs ++ ys) k ≡ Some x → slice_get xs k ≡ Some x
  get_back [] ys k x l h = absurd (omega (arith, l))
  get_back (y ∷ xs) ys zero x l h = h
  get_back (y ∷ xs) ys (suc k) x l h = get_back xs ys k x (omega (arith, l)) h

  pub one_of_two : (x y : X) → Some x ≡ Some y → x ≡ y
  one_of_two x y e = ap (or_else x) e
    where
      or_else : X → Option X → X
      or_else d None = d
      or_else d (Some z) = z

  -- where an element of a list passes a test, some element does: by induction to its place
  pub found_one : (p : X → Bool) (xs : List X) (k : ℕ) (x : X) → slice_get xs k ≡ Some x → p x ≡ true → list_any p xs ≡ true
  found_one p [] k x h t = let e : 0 ≡ 1 = ap get_count h in absurd (omega (arith, e))
  found_one p (y ∷ xs) zero x h t = ap (λ z. p z || list_any p xs) (one_of_two y x h) ∙ ap (λ b. b || list_any p xs) t
  found_one p (y ∷ xs) (suc k) x h t = ap (λ b. p y || b) (found_one p xs k x h t) ∙ or_true (p y)
    where
      or_true : (b : Bool) → (b || true) ≡ true
      or_true true = refl
      or_true false = refl

-- ---- heights
module _ (quads : List Quadrant) where
  -- so many of the listed squares stand at these heights
  abbrev pub StandUpto : List ℕ → ℕ → Type 0
  StandUpto heights k = (j : ℕ) → j < k → (h : ℕ) × (slice_get heights j ≡ Some (suc h)) × IsNumber quads (suc h) (j + 2)

  -- among so many none is listed twice
  abbrev DistinctUpto : ℕ → Type 0
  DistinctUpto k = (i j : ℕ) (q : Quadrant) → i < k → j < k → slice_get quads i ≡ Some q → slice_get quads j ≡ Some q → i ≡ j

  pub height_is : (heights : List ℕ) (j g : ℕ) → slice_get heights j ≡ Some g → height_at heights (j + 2) ≡ g
  height_is heights j g h =
      ap (λ b. cond b 0 (slice_index heights ((j + 2) - 2))) (lt-leb (j + 2) 1 (omega arith))
      ∙ (ap (slice_index heights) (less j) ∙ get_or_from_slice_get heights j g 0 h)
    where
      less : (j : ℕ) → (j + 2) - 2 ≡ j
      less j = omega arith

  -- a number of this height, below the next
  part_number : (heights : List ℕ) (k : ℕ) → StandUpto heights k → (h m : ℕ) → m < k + 2 → (m ≢ 0 → height_at heights m ≡ h) → IsNumber quads h m
  part_number heights k st h zero l e = none h
    where
      none : (h : ℕ) → IsNumber quads h 0
      none zero = inl refl
      none (suc h) = inl refl
  part_number heights k st h (suc zero) l e = subst (λ z. IsNumber quads z 1) (e (λ z. omega (arith, z))) (inr refl)
  part_number heights k st h (suc (suc j)) l e =
      let s = st j (omega (arith, l)) in
      let two : suc (suc j) ≡ j + 2 = omega arith in
      let is : suc s.0 ≡ h = sym (height_is heights j (suc s.0) s.1) ∙ (ap (height_at heights) (sym two) ∙ e (λ z. omega (arith, z))) in
      subst (λ z. IsNumber quads z (suc (suc j))) is (subst (IsNumber quads (suc s.0)) (sym two) s.2)

  -- a part that is there passes what all parts pass
  of_parts : (p : ℕ → Bool) (a b c d : ℕ) → list_any p (filter (λ n. not (eqb n 0)) (a ∷ b ∷ c ∷ d ∷ [])) ≡ false →
      (a ≢ 0 → p a ≡ false) × (b ≢ 0 → p b ≡ false) × (c ≢ 0 → p c ≡ false) × (d ≢ 0 → p d ≡ false)
  of_parts p a b c d h =
      let x = one a (b ∷ c ∷ d ∷ []) h in
      let y = one b (c ∷ d ∷ []) x.1 in
      let z = one c (d ∷ []) y.1 in
      let w = one d [] z.1 in
      (x.0, y.0, z.0, w.0)
    where
      one : (m : ℕ) (ms : List ℕ) → list_any p (filter (λ n. not (eqb n 0)) (m ∷ ms)) ≡ false →
          (m ≢ 0 → p m ≡ false) × (list_any p (filter (λ n. not (eqb n 0)) ms) ≡ false)
      one zero ms h = ((λ other. absurd (other refl)), h)
      one (suc m) ms h =
          let rest = filter (λ n. not (eqb n 0)) ms in
          let o = or_parts (p (suc m)) (list_any p rest) (sym (ap (λ b. list_any p (cond (not b) (suc m ∷ rest) rest)) (ne_eqb (suc m) 0 (λ e. omega (arith, e)))) ∙ h) in
          ((λ other. o.0), o.1)

  all_four : (p : ℕ → Bool) (a b c d : ℕ) → list_any p (a ∷ b ∷ c ∷ d ∷ []) ≡ false → (p a ≡ false) × (p b ≡ false) × (p c ≡ false) × (p d ≡ false)
  all_four p a b c d h =
      let x = or_parts (p a) (list_any p (b ∷ c ∷ d ∷ [])) h in
      let y = or_parts (p b) (list_any p (c ∷ d ∷ [])) x.1 in
      let z = or_parts (p c) (list_any p (d ∷ [])) y.1 in
      let w = or_parts (p d) false z.1 in
      (x.0, y.0, z.0, w.0)

  not_not : (b : Bool) → not b ≡ false → b ≡ true
  not_not true h = refl
  not_not false h = absurd (false≢true (sym h))

  -- the height of a square is over that of its first part
  over_first : (heights ps : List ℕ) → (h : ℕ) × (height_over_parts heights ps ≡ suc h)
  over_first heights [] = (0, refl)
  over_first heights (p ∷ ps) = (height_at heights p, omega arith)

  -- a listed square that is not bad stands over its parts
  good_one : (heights : List ℕ) (k : ℕ) (earlier : List Quadrant) (q : Quadrant) → slice_get quads k ≡ Some q → StandUpto heights k →
      is_bad (k + 2) earlier heights q ≡ false →
      (h : ℕ) × (height_of_quadrant heights q ≡ suc h) × IsNumber quads (suc h) (k + 2) × (list_any (same_quadrant q) earlier ≡ false)
  good_one heights k earlier q at st good =
      let o1 = or_parts (no_parts (parts_of q)) _ good in
      let o2 = or_parts (list_any (λ m. leb (k + 2) m) (numbers_of q)) _ o1.1 in
      let o3 = or_parts (list_any (λ m. not (eqb (height_at heights m + 1) (height_of_quadrant heights q))) (parts_of q)) _ o2.1 in
      let o4 = or_parts (ltb size_height (height_of_quadrant heights q)) _ o3.1 in
      let below = all_four (λ m. leb (k + 2) m) q.nw q.ne q.sw q.se o2.0 in
      let level = of_parts (λ m. not (eqb (height_at heights m + 1) (height_of_quadrant heights q))) q.nw q.ne q.sw q.se o3.0 in
      let top = over_first heights (parts_of q) in
      let less : (m : ℕ) → leb (k + 2) m ≡ false → m < k + 2 = λ m e. leb-false (k + 2) m e in
      let one : (m : ℕ) → not (eqb (height_at heights m + 1) (height_of_quadrant heights q)) ≡ false → height_at heights m ≡ top.0 =
      λ m e. let f = eqb-true (height_at heights m + 1) (height_of_quadrant heights q) (not_not _ e) in let g = top.1 in omega (arith, f, g) in (
        top.0,
        top.1,
        inr (
          k,
          q,
          refl,
          at,
          o1.0,
          part_number heights k st top.0 q.nw (less q.nw below.0) (λ other. one q.nw (level.0 other)),
          part_number heights k st top.0 q.ne (less q.ne below.1) (λ other. one q.ne (level.1 other)),
          part_number heights k st top.0 q.sw (less q.sw below.2) (λ other. one q.sw (level.2 other)),
          part_number heights k st top.0 q.se (less q.se below.3) (λ other. one q.se (level.3 other)),
        ),
        o4.1,
      )

  number_text : (xs : List ℕ) → same_text xs xs ≡ true
  number_text [] = refl
  number_text (x ∷ xs) = and_from (eqb x x) (same_text xs xs) (eq-eqb x x refl) (number_text xs)

  abbrev bad_count : Option ℕ → ℕ
  bad_count None = 0
  bad_count (Some n) = 1

  -- square after square
  pub good_all : (earlier qs : List Quadrant) (heights : List ℕ) → quads ≡ earlier ++ qs → length heights ≡ length earlier →
      first_bad (length earlier + 2) earlier heights qs ≡ None → StandUpto heights (length earlier) → DistinctUpto (length earlier) →
      StandUpto (heights_behind heights qs) (length quads) × DistinctUpto (length quads)
  good_all earlier [] heights w l none st di =
      let n : length quads ≡ length earlier = ap length w ∙ (length-append earlier [] ∙ plus_none (length earlier)) in
      (subst (StandUpto heights) (sym n) st, subst DistinctUpto (sym n) di)
    where
      plus_none : (n : ℕ) → n + 0 ≡ n
      plus_none n = omega arith
  good_all earlier (q ∷ qs) heights w l none st di = elim (cases_Bool (is_bad (length earlier + 2) earlier heights q)) [
    | inl bad ↦ let e : 1 ≡ 0 = ap bad_count (sym (ap (λ b. cond b (Some (length earlier + 2)) (first_bad ((length earlier + 2) + 1) (earlier ++ q ∷ []) (heights ++ height_of_quadrant heights q ∷ []) qs)) bad) ∙ none) in absurd (omega (arith, e))
    | inr good ↦
        let k = length earlier in
        let at : slice_get quads k ≡ Some q = ap (λ x. slice_get x k) w ∙ get_next earlier q qs in
        let g = good_one heights k earlier q at st good in
        let heights2 : List ℕ = heights ++ height_of_quadrant heights q ∷ [] in
        let long : length (earlier ++ q ∷ []) ≡ k + 1 = length-append earlier (q ∷ []) in
        let rest : first_bad (length (earlier ++ q ∷ []) + 2) (earlier ++ q ∷ []) heights2 qs ≡ None =
        ap (λ n. first_bad n (earlier ++ q ∷ []) heights2 qs) (same_number k (length (earlier ++ q ∷ [])) long)
        ∙ (sym (ap (λ b. cond b (Some (k + 2)) (first_bad ((k + 2) + 1) (earlier ++ q ∷ []) heights2 qs)) good) ∙ none) in
        good_all (earlier ++ q ∷ []) qs heights2 (w ∙ sym (append_assoc earlier (q ∷ []) qs))
        (length-append heights (height_of_quadrant heights q ∷ []) ∙ (ap (λ n. n + 1) l ∙ sym long)) rest
        (subst (StandUpto heights2) (sym long) (one_more k heights (height_of_quadrant heights q) l st (g.0, g.1, g.2)))
        (subst DistinctUpto (sym long) (one_other k earlier q qs w refl at di g.3))
  ]
    where
      same_number : (k m : ℕ) → m ≡ k + 1 → m + 2 ≡ (k + 2) + 1
      same_number k m e = omega (arith, e)

      one_more : (k : ℕ) (heights : List ℕ) (top : ℕ) → length heights ≡ k → StandUpto heights k → (h : ℕ) × (top ≡ suc h) × IsNumber quads (suc h) (k + 2) → StandUpto (heights ++ top ∷ []) (k + 1)
      one_more k heights top l st g j less = elim (cases_lt j k) [
        | inl a ↦ let s = st j a in (s.0, get_front heights (top ∷ []) j (suc s.0) s.1, s.2)
        | inr a ↦
            let e : j ≡ k = omega (arith, a, less) in
            (g.0, ap (slice_get (heights ++ top ∷ [])) (e ∙ sym l) ∙ (get_next heights top [] ∙ ap (λ z. Some z) g.1), subst (λ z. IsNumber quads (suc g.0) (z + 2)) (sym e) g.2)
      ]

      one_other : (k : ℕ) (earlier : List Quadrant) (q : Quadrant) (qs : List Quadrant) → quads ≡ earlier ++ q ∷ qs → length earlier ≡ k → slice_get quads k ≡ Some q → DistinctUpto k → list_any (same_quadrant q) earlier ≡ false → DistinctUpto (k + 1)
      one_other k earlier q qs w l at di none i j x a b hi hj = elim (cases_lt i k) [
        | inl c ↦ elim (cases_lt j k) [
          | inl d ↦ di i j x c d hi hj
          | inr d ↦ let e : j ≡ k = omega (arith, d, b) in absurd (met i x c hi (one_of_two x q (sym hj ∙ (ap (slice_get quads) e ∙ at))))
        ]
        | inr c ↦ elim (cases_lt j k) [
          | inl d ↦ let e : i ≡ k = omega (arith, c, a) in absurd (met j x d hj (one_of_two x q (sym hi ∙ (ap (slice_get quads) e ∙ at))))
          | inr d ↦ omega (arith, a, b, c, d)
        ]
      ]
        where
          met : (i : ℕ) (x : Quadrant) → i < k → slice_get quads i ≡ Some x → x ≡ q → ⊥
          met i x c h e =
              let there : slice_get earlier i ≡ Some x = get_back earlier (q ∷ qs) i x (omega (arith, c, l)) (sym (ap (λ z. slice_get z i) w) ∙ h) in
              false≢true (sym none ∙ found_one (same_quadrant q) earlier i x there (ap (same_quadrant q) e ∙ number_text (numbers_of q)))

  -- all squares that a file lists
  pub record IsTable (heights : List ℕ) : Type 0 where
    pub stand : StandUpto heights (length quads)
    pub distinct : IsDistinct quads

  pub table : first_bad 2 [] [] quads ≡ None → IsTable (heights_behind [] quads)
  table none =
      let g = good_all [] quads [] refl refl none (λ j l. absurd (omega (arith, l))) (λ i j q a. absurd (omega (arith, a))) in
      record {
        stand = g.0;
        distinct = λ i j q a b. g.1 i j q (slice_get_within quads i q a) (slice_get_within quads j q b) a b;
      }

  -- each listed number has its height
  pub table_height : (heights : List ℕ) → IsTable heights → (h n : ℕ) → IsNumber quads (suc h) n → n ≢ 0 → height_at heights n ≡ suc h
  table_height heights t h n (inl e) other = absurd (other e)
  table_height heights t h n (inr x) other =
      let k = x.0 in
      let l = slice_get_within quads k x.1 x.3 in
      let s = t.stand k l in
      let is : n ≡ k + 2 = x.2 in
      let same = one_height quads (suc s.0) (suc h) (k + 2) s.2 (subst (IsNumber quads (suc h)) is (inr x)) (λ e. omega (arith, e)) in
      ap (height_at heights) is ∙ (height_is heights k (suc s.0) s.1 ∙ same)
