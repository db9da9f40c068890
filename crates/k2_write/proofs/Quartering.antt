-- Lists of visited squares by the numbers of their quarters (Bryant, for trees whose equal parts are one).
-- 1. A square that was visited keeps its number whatever is listed behind it, and a visit of it adds nothing.
-- 2. Squares whose quarters have the same four numbers are one: they have one height and the same cells.
-- 3. So a square is listed exactly if its four numbers are, and both lists grow alike.
use Rattle.std.proofs.Common.{◌≡◌, ◌≢◌, ◌<◌, ◌≤◌, ◌+◌, ◌^◌, ◌&&◌, ◌||◌, if◌then◌else◌, ltb, cond, eqb, zero, suc, ℕ, Bool, true, false, List, [], ◌∷◌, ◌++◌, map, length, Option, Some, None, option_map, refl, sym, ap, subst, ◌∙◌, inl, inr, arith, append-nil, length-append}
use Rattle.std.specs.Prelude.{slice_get}
use Rattle.std.specs.List.{list_any}
use Rattle.std.proofs.lemmas.Bool.{cases_Bool, eqb-true, eq-eqb, and_parts, and_from, false≢true}
use Rattle.std.proofs.lemmas.Option.{slice_get_within, slice_get-map}
use Rattle.rel_model.specs.Listed.{is_among}
use Rattle.rel_model.specs.Trees.{quartered}
use Rattle.rel_model.proofs.Pairs.{same_itself}
use Rattle.indexmap.specs.IndexSet.{insert_key}
use Rattle.run_model.specs.SharedFiles.{Quadrant, cells_told}
use Rattle.run_model.specs.SharedBytes.{Square, same_square, with_square, visit, quarter, place_in, number_in}
use Rattle.run_model.proofs.SharedCells.{pairs_of, pairs_among, IsNumber, one_height}
use Rattle.run_model.proofs.SharedVisits.{same_square-true, same_square_itself, not_true}
use Rattle.run_model.proofs.SharedTable.{get_front, one_of_two, found_one}
use Rattle.run_model.proofs.SharedSquares.{square_of, Proper, proper_quarter, Known, Behind, AllBehind, NoneTwice, known_more, by_quarters}
use Rattle.run_model.proofs.SharedNumbers.{quads, told}
use Rattle.k2_file.proofs.WriteLevels.{map-append}
use Rattle.k2_write.specs.declared.visits.Quarters.{Quarters}
use Rattle.k2_write.specs.Visiting.{Pairs, same_quarters, quarters_by, quarters_in}

empty : (p : ℕ × ℕ) (ps : Pairs) → p ∷ ps ≡ [] → ⊥
empty p ps e = let n : length (p ∷ ps) ≡ 0 = ap length e in omega (arith, n)

raise : (squares : List Square) (k m h : ℕ) (qs : Pairs) → k ≤ m → Known squares k h qs → Known squares m h qs
raise squares k m h qs l (inl e) = inl e
raise squares k m h qs l (inr (inl e)) = inr (inl e)
raise squares k m h qs l (inr (inr (j, a, at))) = inr (inr (j, omega (arith, a, l), at))

-- a square behind its quarters is so at each later place, with more squares behind
pub behind_later : (squares more : List Square) (k m : ℕ) (s : Square) → k ≤ m → Behind squares k s → Behind (squares ++ more) m s
behind_later squares more k m s l b = record {
  below = b.below;
  is_height = b.is_height;
  low = b.low;
  proper = b.proper;
  some = b.some;
  nw = known_more squares more k m b.below _ l b.nw;
  ne = known_more squares more k m b.below _ l b.ne;
  sw = known_more squares more k m b.below _ l b.sw;
  se = known_more squares more k m b.below _ l b.se;
}

-- a listed square stands behind its quarters, seen from the end of the list
behind_end : (squares : List Square) → AllBehind squares → (k : ℕ) (s : Square) → slice_get squares k ≡ Some s → Behind squares (length squares) s
behind_end squares all k s at =
    let w = slice_get_within squares k s at in
    subst (λ z. Behind z (length squares) s) (append-nil squares)
    (behind_later squares [] k (length squares) s (omega (arith, w)) (all k s at))

-- ---- what was visited
-- the first place of a square is its number
place_first : (xs : List Square) (k : ℕ) (s : Square) → slice_get xs k ≡ Some s → ((j : ℕ) (x : Square) → j < k → slice_get xs j ≡ Some x → x ≢ s) → place_in xs s ≡ k
place_first [] k s at n = let w = slice_get_within [] k s at in absurd (omega (arith, w))
place_first (x ∷ xs) zero s at n = ap (λ b. cond b 0 (1 + place_in xs s)) (ap (λ y. same_square x y) (sym (one_of_two x s at)) ∙ same_square_itself x)
place_first (x ∷ xs) (suc k) s at n =
    ap (λ b. cond b 0 (1 + place_in xs s)) (not_true (same_square x s) (λ t. n 0 x (omega arith) refl (same_square-true x s t)))
    ∙ (ap (λ m. 1 + m) (place_first xs k s at (λ j y l h. n (suc j) y (omega (arith, l)) h)) ∙ plus_one k)
  where
    plus_one : (k : ℕ) → 1 + k ≡ suc k
    plus_one k = omega arith

pub number_there : (squares : List Square) → NoneTwice squares → (h : ℕ) (p : ℕ × ℕ) (ps : Pairs) (k : ℕ) → slice_get squares k ≡ Some (square_of (suc h) (p ∷ ps)) → number_in squares (suc h) (p ∷ ps) ≡ k + 2
number_there squares once h p ps k at =
    let s = square_of (suc h) (p ∷ ps) in
    let e = place_first squares k s at (λ j x l there same. let one = once j k s (there ∙ ap (λ z. Some z) same) at in omega (arith, l, one)) in
    omega (arith, e)

-- its number stays
pub number_more : (old more : List Square) → AllBehind old → NoneTwice old → AllBehind (old ++ more) → NoneTwice (old ++ more) → (h : ℕ) (ps : Pairs) → Known old (length old) h ps
    → number_in (old ++ more) h ps ≡ number_in old h ps
number_more old more a o b p h [] k = refl
number_more old more a o b p zero (q ∷ qs) k = refl
number_more old more a o b p (suc h) (q ∷ qs) (inl e) = absurd (omega (arith, e))
number_more old more a o b p (suc h) (q ∷ qs) (inr (inl e)) = absurd (empty q qs e)
number_more old more a o b p (suc h) (q ∷ qs) (inr (inr (j, l, at))) =
    number_there (old ++ more) p h q qs j (get_front old more j _ at) ∙ sym (number_there old o h q qs j at)

-- a visit of it adds nothing
pub visit_known : (h : ℕ) (ps : Pairs) (squares : List Square) → AllBehind squares → Known squares (length squares) h ps → visit h ps squares ≡ squares
visit_known zero ps squares all k = refl
visit_known (suc h) [] squares all k = refl
visit_known (suc h) (p ∷ ps) squares all (inl e) = absurd (omega (arith, e))
visit_known (suc h) (p ∷ ps) squares all (inr (inl e)) = absurd (empty p ps e)
visit_known (suc h) (p ∷ ps) squares all (inr (inr (j, l, at))) =
    let s = square_of (suc h) (p ∷ ps) in
    let b = all j s at in
    let same : b.below ≡ h = let e = b.is_height in omega (arith, e) in
    let m = 2 ^ h in
    let up : (row col : ℕ → ℕ) → Known squares j b.below (quarter (2 ^ b.below) (row b.below) (col b.below) (p ∷ ps)) → Known squares (length squares) h (quarter (2 ^ h) (row h) (col h) (p ∷ ps)) =
    λ row col kn. raise squares j (length squares) h (quarter (2 ^ h) (row h) (col h) (p ∷ ps)) (omega (arith, l))
    (subst (λ g. Known squares j g (quarter (2 ^ g) (row g) (col g) (p ∷ ps))) same kn) in
    let nw = visit_known h (quarter m 0 0 (p ∷ ps)) squares all (up (λ g. 0) (λ g. 0) b.nw) in
    let ne = visit_known h (quarter m 0 m (p ∷ ps)) squares all (up (λ g. 0) (λ g. 2 ^ g) b.ne) in
    let sw = visit_known h (quarter m m 0 (p ∷ ps)) squares all (up (λ g. 2 ^ g) (λ g. 0) b.sw) in
    let se = visit_known h (quarter m m m (p ∷ ps)) squares all (up (λ g. 2 ^ g) (λ g. 2 ^ g) b.se) in
    ap (λ z. with_square s (visit h (quarter m m m (p ∷ ps)) (visit h (quarter m m 0 (p ∷ ps)) (visit h (quarter m 0 m (p ∷ ps)) z)))) nw
    ∙ (ap (λ z. with_square s (visit h (quarter m m m (p ∷ ps)) (visit h (quarter m m 0 (p ∷ ps)) z))) ne
    ∙ (ap (λ z. with_square s (visit h (quarter m m m (p ∷ ps)) z)) sw
    ∙ (ap (with_square s) se ∙ ap (λ t. cond t squares (squares ++ s ∷ [])) (found_one (same_square s) squares j s at (same_square_itself s)))))

-- ---- four numbers
same_quarters-true : (a b : Quarters) → same_quarters a b ≡ true → a ≡ b
same_quarters-true a b h =
    let p = and_parts (eqb a.nw b.nw) (eqb a.ne b.ne && (eqb a.sw b.sw && eqb a.se b.se)) h in
    let q = and_parts (eqb a.ne b.ne) (eqb a.sw b.sw && eqb a.se b.se) p.1 in
    let r = and_parts (eqb a.sw b.sw) (eqb a.se b.se) q.1 in
    let w = eqb-true a.nw b.nw p.0 in
    let x = eqb-true a.ne b.ne q.0 in
    let y = eqb-true a.sw b.sw r.0 in
    let z = eqb-true a.se b.se r.1 in
    λ i. record { nw = w i; ne = x i; sw = y i; se = z i }

same_quarters_itself : (a : Quarters) → same_quarters a a ≡ true
same_quarters_itself a =
    and_from (eqb a.nw a.nw) _ (eq-eqb a.nw a.nw refl)
    (and_from (eqb a.ne a.ne) _ (eq-eqb a.ne a.ne refl) (and_from (eqb a.sw a.sw) (eqb a.se a.se) (eq-eqb a.sw a.sw refl) (eq-eqb a.se a.se refl)))

none_zero : (squares : List Square) (h : ℕ) (ps : Pairs) → number_in squares h ps ≡ 0 → ps ≡ []
none_zero squares h [] e = refl
none_zero squares zero (p ∷ ps) e = absurd (omega (arith, e))
none_zero squares (suc h) (p ∷ ps) e = absurd (omega (arith, e))

-- a square of pairs has a quarter with some
not_all_none : (h : ℕ) (ps : Pairs) → Proper (suc h) ps → ps ≢ [] → quarter (2 ^ h) 0 0 ps ≡ [] → quarter (2 ^ h) 0 (2 ^ h) ps ≡ [] → quarter (2 ^ h) (2 ^ h) 0 ps ≡ [] → quarter (2 ^ h) (2 ^ h) (2 ^ h) ps ≡ [] → ⊥
not_all_none h [] v other a b c d = other refl
not_all_none h (p ∷ ps) v other a b c d =
    let m = 2 ^ h in
    let whole : is_among (p ∷ ps) ≡ quartered m (is_among []) (is_among []) (is_among []) (is_among []) =
    by_quarters h (p ∷ ps) v ∙ (λ i. quartered m (is_among (a i)) (is_among (b i)) (is_among (c i)) (is_among (d i))) in
    let here : is_among (p ∷ ps) p.0 p.1 ≡ true = ap (λ t. t || is_among ps p.0 p.1) (same_itself p) in
    false≢true (sym (none_there (ltb p.0 m) (ltb p.1 m)) ∙ (sym (λ i. whole i p.0 p.1) ∙ here))
  where
    none_there : (x y : Bool) → cond x (cond y false false) (cond y false false) ≡ false
    none_there true true = refl
    none_there true false = refl
    none_there false true = refl
    none_there false false = refl

-- one of four numbers that are not all 0
some_of_four : (P : ℕ → Type 0) (w x y z : ℕ) → (w ≡ 0 → x ≡ 0 → y ≡ 0 → z ≡ 0 → ⊥) → P w → P x → P y → P z → (m : ℕ) × (m ≢ 0) × P m
some_of_four P zero zero zero zero not_all a b c d = absurd (not_all refl refl refl refl)
some_of_four P (suc w) x y z not_all a b c d = (suc w, (λ e. omega (arith, e)), a)
some_of_four P zero (suc x) y z not_all a b c d = (suc x, (λ e. omega (arith, e)), b)
some_of_four P zero zero (suc y) z not_all a b c d = (suc y, (λ e. omega (arith, e)), c)
some_of_four P zero zero zero (suc z) not_all a b c d = (suc z, (λ e. omega (arith, e)), d)

module _ (squares : List Square) (all : AllBehind squares) (once : NoneTwice squares) where
  -- squares of the same four numbers are one
  pub same_square_by : (x y : Square) → Behind squares (length squares) x → Behind squares (length squares) y → quarters_in squares x ≡ quarters_in squares y → x ≡ y
  same_square_by x y a b e =
      let Q : List Quadrant = quads squares all once in
      let g : ℕ = a.below in
      let h : ℕ = b.below in
      let m : ℕ = 2 ^ g in
      let n : ℕ = 2 ^ h in
      let four : quarters_by squares (suc g) x.pairs ≡ quarters_by squares (suc h) y.pairs =
      sym (ap (λ z. quarters_by squares z x.pairs) a.is_height) ∙ (e ∙ ap (λ z. quarters_by squares z y.pairs) b.is_height) in
      let xnw = told squares all once g (quarter m 0 0 x.pairs) (proper_quarter g 0 0 x.pairs) a.nw in
      let xne = told squares all once g (quarter m 0 m x.pairs) (proper_quarter g 0 m x.pairs) a.ne in
      let xsw = told squares all once g (quarter m m 0 x.pairs) (proper_quarter g m 0 x.pairs) a.sw in
      let xse = told squares all once g (quarter m m m x.pairs) (proper_quarter g m m x.pairs) a.se in
      let ynw = told squares all once h (quarter n 0 0 y.pairs) (proper_quarter h 0 0 y.pairs) b.nw in
      let yne = told squares all once h (quarter n 0 n y.pairs) (proper_quarter h 0 n y.pairs) b.ne in
      let ysw = told squares all once h (quarter n n 0 y.pairs) (proper_quarter h n 0 y.pairs) b.sw in
      let yse = told squares all once h (quarter n n n y.pairs) (proper_quarter h n n y.pairs) b.se in
      let q = quarters_by squares (suc h) y.pairs in
      let part = some_of_four (λ z. IsNumber Q g z × IsNumber Q h z) q.nw q.ne q.sw q.se
      (λ s t u v. not_all_none h y.pairs b.proper b.some (none_zero squares h _ s) (none_zero squares h _ t) (none_zero squares h _ u) (none_zero squares h _ v))
      (subst (IsNumber Q g) (ap (λ z. z.nw) four) xnw.0, ynw.0) (subst (IsNumber Q g) (ap (λ z. z.ne) four) xne.0, yne.0)
      (subst (IsNumber Q g) (ap (λ z. z.sw) four) xsw.0, ysw.0) (subst (IsNumber Q g) (ap (λ z. z.se) four) xse.0, yse.0) in
      let one : g ≡ h = one_height Q g h part.0 part.2.0 part.2.1 part.1 in
      let nw : is_among (quarter m 0 0 x.pairs) ≡ is_among (quarter n 0 0 y.pairs) = sym xnw.1 ∙ ((λ i. cells_told Q (one i) (four i).nw) ∙ ynw.1) in
      let ne : is_among (quarter m 0 m x.pairs) ≡ is_among (quarter n 0 n y.pairs) = sym xne.1 ∙ ((λ i. cells_told Q (one i) (four i).ne) ∙ yne.1) in
      let sw : is_among (quarter m m 0 x.pairs) ≡ is_among (quarter n n 0 y.pairs) = sym xsw.1 ∙ ((λ i. cells_told Q (one i) (four i).sw) ∙ ysw.1) in
      let se : is_among (quarter m m m x.pairs) ≡ is_among (quarter n n n y.pairs) = sym xse.1 ∙ ((λ i. cells_told Q (one i) (four i).se) ∙ yse.1) in
      let cells : is_among x.pairs ≡ is_among y.pairs =
      by_quarters g x.pairs a.proper ∙ ((λ i. quartered (2 ^ one i) (nw i) (ne i) (sw i) (se i)) ∙ sym (by_quarters h y.pairs b.proper)) in
      let pairs : x.pairs ≡ y.pairs =
      sym (pairs_among (2 ^ suc g) x.pairs a.proper) ∙ ((λ i. pairs_of (2 ^ suc (one i)) (cells i)) ∙ pairs_among (2 ^ suc h) y.pairs b.proper) in
      let height : x.height ≡ y.height = a.is_height ∙ (ap suc one ∙ sym b.is_height) in
      λ i. record { height = height i; pairs = pairs i }

  -- the place of four numbers is that of their square
  place_of : (s : Square) (k : ℕ) → Behind squares (length squares) s → slice_get (map (quarters_in squares) squares) k ≡ Some (quarters_in squares s) → slice_get squares k ≡ Some s
  place_of s k b at = found (slice_get squares k) refl
    where
      found : (o : Option Square) → slice_get squares k ≡ o → slice_get squares k ≡ Some s
      found None e =
          let none : 0 ≡ 1 = ap count (sym (slice_get-map (quarters_in squares) squares k ∙ ap (option_map (quarters_in squares)) e) ∙ at) in
          absurd (omega (arith, none))
        where
          count : Option Quarters → ℕ
          count None = 0
          count (Some x) = 1
      found (Some y) e =
          let same : quarters_in squares y ≡ quarters_in squares s = one_of_two _ _ (sym (slice_get-map (quarters_in squares) squares k ∙ ap (option_map (quarters_in squares)) e) ∙ at) in
          e ∙ ap (λ z. Some z) (same_square_by y s (behind_end squares all k y e) b same)

-- ---- one square more
some_place : {X : Type 0} (p : X → Bool) (xs : List X) → list_any p xs ≡ true → (k : ℕ) × (x : X) × (slice_get xs k ≡ Some x) × (p x ≡ true)
some_place p [] h = absurd (false≢true h)
some_place p (x ∷ xs) h = elim (cases_Bool (p x)) [
  | inl t ↦ (0, x, refl, t)
  | inr f ↦ let r = some_place p xs (sym (ap (λ b. b || list_any p xs) f) ∙ h) in (suc r.0, r.1, r.2, r.3)
]

module _ (old more : List Square) (all : AllBehind old) (once : NoneTwice old) (all_more : AllBehind (old ++ more)) (once_more : NoneTwice (old ++ more)) where
  -- what was visited keeps its four numbers
  pub quarters_more : (s : Square) → Behind old (length old) s → quarters_in (old ++ more) s ≡ quarters_in old s
  quarters_more s b =
      let stay = number_more old more all once all_more once_more b.below in
      ap (λ z. quarters_by (old ++ more) z s.pairs) b.is_height
      ∙ ((λ i. record { nw = stay _ b.nw i; ne = stay _ b.ne i; sw = stay _ b.sw i; se = stay _ b.se i })
      ∙ sym (ap (λ z. quarters_by old z s.pairs) b.is_height))

  pub all_more_quarters : (xs : List Square) → ((k : ℕ) (x : Square) → slice_get xs k ≡ Some x → Behind old (length old) x) → map (quarters_in (old ++ more)) xs ≡ map (quarters_in old) xs
  all_more_quarters [] h = refl
  all_more_quarters (x ∷ xs) h = λ i. quarters_more x (h 0 x refl) i ∷ all_more_quarters xs (λ k y at. h (suc k) y at) i

-- a square and its four numbers are put behind the others, or are among them, together
pub put_alike : (old new : List Square) (s : Square) (keys more : List Quarters) (q : Quarters) (k : ℕ) → AllBehind old → NoneTwice old → AllBehind new → NoneTwice new → Behind old (length old) s
    → new ≡ with_square s old → keys ≡ map (quarters_in old) old → q ≡ quarters_in old s → more ≡ insert_key same_quarters keys q → slice_get more k ≡ Some q
    → (more ≡ map (quarters_in new) new) × (slice_get new k ≡ Some s)
put_alike old new s keys more q k all once all_new once_new b is is_keys is_q is_more at = elim (cases_Bool (list_any (same_square s) old)) [
  | inl t ↦
      let r = some_place (same_square s) old t in
      let x : s ≡ r.1 = same_square-true s r.1 r.3 in
      let here : slice_get keys r.0 ≡ Some (quarters_in old r.1) =
      ap (λ z. slice_get z r.0) is_keys ∙ (slice_get-map (quarters_in old) old r.0 ∙ ap (option_map (quarters_in old)) r.2) in
      let same : same_quarters q (quarters_in old r.1) ≡ true = ap (same_quarters q) (ap (quarters_in old) (sym x) ∙ sym is_q) ∙ same_quarters_itself q in
      let same_new : new ≡ old = is ∙ ap (λ t. cond t old (old ++ s ∷ [])) t in
      let same_keys : more ≡ map (quarters_in old) old =
      is_more ∙ (ap (λ t. if t then keys else (keys ++ q ∷ [])) (found_one (same_quarters q) keys r.0 _ here same) ∙ is_keys) in (
        same_keys ∙ (λ i. map (quarters_in (sym same_new i)) (sym same_new i)),
        ap (λ z. slice_get z k) same_new ∙ place_of old all once s k b (ap (λ z. slice_get z k) (sym same_keys) ∙ (at ∙ ap (λ z. Some z) is_q)),
      )
  | inr f ↦
      let none : list_any (same_quarters q) keys ≡ false = not_true (list_any (same_quarters q) keys) (λ t.
      let r = some_place (same_quarters q) keys t in
      let e : q ≡ r.1 = same_quarters-true q r.1 r.3 in
      let there : slice_get old r.0 ≡ Some s = place_of old all once s r.0 b
      (ap (λ z. slice_get z r.0) (sym is_keys) ∙ (r.2 ∙ ap (λ z. Some z) (sym e ∙ is_q))) in
      false≢true (sym f ∙ found_one (same_square s) old r.0 s there (same_square_itself s))) in
      let longer : new ≡ old ++ s ∷ [] = is ∙ ap (λ t. cond t old (old ++ s ∷ [])) f in
      put_last longer (subst AllBehind longer all_new) (subst NoneTwice longer once_new)
      (is_more ∙ (ap (λ t. if t then keys else (keys ++ q ∷ [])) none ∙ (λ i. is_keys i ++ is_q i ∷ [])))
]
  where
    put_last : new ≡ old ++ s ∷ [] → AllBehind (old ++ s ∷ []) → NoneTwice (old ++ s ∷ []) → more ≡ map (quarters_in old) old ++ quarters_in old s ∷ [] → (more ≡ map (quarters_in new) new) × (slice_get new k ≡ Some s)
    put_last longer a o e =
        let last = quarters_more old (s ∷ []) all once a o s b in
        let whole : more ≡ map (quarters_in (old ++ s ∷ [])) (old ++ s ∷ []) =
        e ∙ ((λ i. sym (all_more_quarters old (s ∷ []) all once a o old (behind_end old all)) i ++ sym last i ∷ []) ∙ sym (map-append (quarters_in (old ++ s ∷ [])) old (s ∷ []))) in
        let n = length-append old (s ∷ []) in (
          whole ∙ (λ i. map (quarters_in (sym longer i)) (sym longer i)),
          ap (λ z. slice_get z k) longer
              ∙ place_of (old ++ s ∷ []) a o s k (behind_later old (s ∷ []) (length old) (length (old ++ s ∷ [])) s (omega (arith, n)) b)
              (ap (λ z. slice_get z k) (sym whole) ∙ (at ∙ ap (λ z. Some z) (is_q ∙ sym last))),
        )
