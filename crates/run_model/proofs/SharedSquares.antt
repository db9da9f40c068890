-- The squares that visits list: each stands behind its quarters, none stands twice, and what was visited stands there.
-- 1. A visit only puts squares behind the others: a square comes behind its quarters, and only if it is not there.
-- 2. So the number of a square that was visited is that of its place, and its cells by the numbers are its own.
use Rattle.std.proofs.Common.{◌≡◌, ◌≢◌, ◌<◌, ◌≤◌, ◌⊎◌, ◌+◌, ◌-◌, ◌^◌, ◌||◌, cond, zero, suc, ℕ, Bool, true, false, List, [], ◌∷◌, ◌++◌, length, Some, refl, sym, ap, subst, ◌∙◌, inl, inr, arith, append_assoc, append-nil, length-append}
use Rattle.std.specs.Prelude.{slice_get}
use Rattle.std.specs.List.{list_any}
use Rattle.std.proofs.lemmas.Bool.{cases_Bool, cases_lt, false≢true}
use Rattle.std.proofs.lemmas.Option.{slice_get_within}
use Rattle.rel_model.specs.Relation.{IsRelation, size_height}
use Rattle.rel_model.specs.Listed.{is_among}
use Rattle.rel_model.specs.Cells.{Cells}
use Rattle.rel_model.specs.Trees.{quartered}
use Rattle.rel_model.specs.Quarters.{LiesWithin}
use Rattle.rel_model.proofs.Relations.{has-relation_of}
use Rattle.rel_model.proofs.Rooting.{same_within}
use Rattle.run_model.specs.SharedBytes.{Square, same_square, with_square, visit, quarter}
use Rattle.run_model.proofs.SharedCells.{two-halves, pairs_valid, among_within, nw_cell, ne_cell, sw_cell, se_cell, within_quartered}
use Rattle.run_model.proofs.SharedVisits.{same_square-true, same_square_itself}
use Rattle.run_model.proofs.SharedTable.{get_front, get_next, get_back, one_of_two, found_one}

abbrev pub square_of : ℕ → List (ℕ × ℕ) → Square
square_of h ps = record { height = h; pairs = ps }

-- pairs of a square of this height
abbrev pub Proper : ℕ → List (ℕ × ℕ) → Type 0
Proper h ps = IsRelation (record { rows = 2 ^ h; cols = 2 ^ h; pairs = ps })

pub proper_quarter : (h row col : ℕ) (ps : List (ℕ × ℕ)) → Proper h (quarter (2 ^ h) row col ps)
proper_quarter h row col ps = pairs_valid (2 ^ h) (λ i j. is_among ps (row + i) (col + j))

-- a square that needs no place, or that stands before a place
abbrev pub Known : List Square → ℕ → ℕ → List (ℕ × ℕ) → Type 0
Known squares k h ps = (h ≡ 0) ⊎ ((ps ≡ []) ⊎ ((j : ℕ) × (j < k) × (slice_get squares j ≡ Some (square_of h ps))))

-- a square at a place, behind its quarters
pub record Behind (squares : List Square) (k : ℕ) (s : Square) : Type 0 where
  pub below : ℕ
  pub is_height : s.height ≡ suc below
  pub low : suc below ≤ size_height
  pub proper : Proper (suc below) s.pairs
  pub some : s.pairs ≢ []
  pub nw : Known squares k below (quarter (2 ^ below) 0 0 s.pairs)
  pub ne : Known squares k below (quarter (2 ^ below) 0 (2 ^ below) s.pairs)
  pub sw : Known squares k below (quarter (2 ^ below) (2 ^ below) 0 s.pairs)
  pub se : Known squares k below (quarter (2 ^ below) (2 ^ below) (2 ^ below) s.pairs)

abbrev pub AllBehind : List Square → Type 0
AllBehind squares = (k : ℕ) (s : Square) → slice_get squares k ≡ Some s → Behind squares k s

abbrev pub NoneTwice : List Square → Type 0
NoneTwice squares = (j k : ℕ) (s : Square) → slice_get squares j ≡ Some s → slice_get squares k ≡ Some s → j ≡ k

pub known_more : (squares more : List Square) (k m h : ℕ) (ps : List (ℕ × ℕ)) → k ≤ m → Known squares k h ps → Known (squares ++ more) m h ps
known_more squares more k m h ps l (inl e) = inl e
known_more squares more k m h ps l (inr (inl e)) = inr (inl e)
known_more squares more k m h ps l (inr (inr (j, less, at))) = inr (inr (j, omega (arith, less, l), get_front squares more j (square_of h ps) at))

-- more squares behind the others leave a square where it stood: its quarters are still known before it
behind_more : (squares more : List Square) (k : ℕ) (s : Square) → Behind squares k s → Behind (squares ++ more) k s
behind_more squares more k s b = record {
  below = b.below;
  is_height = b.is_height;
  low = b.low;
  proper = b.proper;
  some = b.some;
  nw = known_more squares more k k b.below _ (omega arith) b.nw;
  ne = known_more squares more k k b.below _ (omega arith) b.ne;
  sw = known_more squares more k k b.below _ (omega arith) b.sw;
  se = known_more squares more k k b.below _ (omega arith) b.se;
}

-- what a visit of a square makes of a list of squares
pub record Grown (old new : List Square) (h : ℕ) (ps : List (ℕ × ℕ)) : Type 0 where
  pub behind : AllBehind new
  pub once : NoneTwice new
  pub more : List Square
  pub is_more : new ≡ old ++ more
  pub known : Known new (length new) h ps

some_place : (p : Square → Bool) (xs : List Square) → list_any p xs ≡ true → (k : ℕ) × (x : Square) × (slice_get xs k ≡ Some x) × (p x ≡ true)
some_place p [] h = absurd (false≢true h)
some_place p (x ∷ xs) h = elim (cases_Bool (p x)) [
  | inl t ↦ (0, x, refl, t)
  | inr f ↦ let r = some_place p xs (sym (ap (λ b. b || list_any p xs) f) ∙ h) in (suc r.0, r.1, r.2, r.3)
]

-- one square more
add_one : (squares : List Square) (s : Square) → AllBehind squares → NoneTwice squares → Behind squares (length squares) s → list_any (same_square s) squares ≡ false →
    AllBehind (squares ++ s ∷ []) × NoneTwice (squares ++ s ∷ [])
add_one squares s all once b none = (
  (λ k x at. elim (cases_lt k (length squares)) [
    | inl l ↦ behind_more squares (s ∷ []) k x (all k x (get_back squares (s ∷ []) k x l at))
    | inr l ↦
        let e = last k x at l in
        subst (λ y. Behind (squares ++ s ∷ []) k y) (one_of_two s x (sym (get_next squares s []) ∙ (ap (slice_get (squares ++ s ∷ [])) (sym e) ∙ at)))
        (subst (λ n. Behind (squares ++ s ∷ []) n s) (sym e) (behind_more squares (s ∷ []) (length squares) s b))
  ]),
  (λ i j x hi hj. elim (cases_lt i (length squares)) [
    | inl a ↦ elim (cases_lt j (length squares)) [
      | inl c ↦ once i j x (get_back squares (s ∷ []) i x a hi) (get_back squares (s ∷ []) j x c hj)
      | inr c ↦ absurd (met i x a hi (same_last j x hj c))
    ]
    | inr a ↦ elim (cases_lt j (length squares)) [
      | inl c ↦ absurd (met j x c hj (same_last i x hi a))
      | inr c ↦ last i x hi a ∙ sym (last j x hj c)
    ]
  ]),
)
  where
    last : (k : ℕ) (x : Square) → slice_get (squares ++ s ∷ []) k ≡ Some x → length squares ≤ k → k ≡ length squares
    last k x at l = let w = slice_get_within (squares ++ s ∷ []) k x at in let n = length-append squares (s ∷ []) in omega (arith, w, n, l)

    same_last : (k : ℕ) (x : Square) → slice_get (squares ++ s ∷ []) k ≡ Some x → length squares ≤ k → x ≡ s
    same_last k x at l =
        one_of_two x s (sym at ∙ (ap (slice_get (squares ++ s ∷ []))
        (let w = slice_get_within (squares ++ s ∷ []) k x at in let n = length-append squares (s ∷ []) in omega (arith, w, n, l))
        ∙ get_next squares s []))

    met : (k : ℕ) (x : Square) → k < length squares → slice_get (squares ++ s ∷ []) k ≡ Some x → x ≡ s → ⊥
    met k x l at e =
        false≢true (sym none ∙ found_one (same_square s) squares k x (get_back squares (s ∷ []) k x l at) (ap (same_square s) e ∙ same_square_itself s))

-- a visit
pub visit_grows : (h : ℕ) (ps : List (ℕ × ℕ)) (old : List Square) → h ≤ size_height → Proper h ps → AllBehind old → NoneTwice old → Grown old (visit h ps old) h ps
visit_grows zero ps old l v all once = record { behind = all; once = once; more = []; is_more = sym (append-nil old); known = inl refl }
visit_grows (suc h) [] old l v all once = record { behind = all; once = once; more = []; is_more = sym (append-nil old); known = inr (inl refl) }
visit_grows (suc h) (p ∷ ps) old l v all once =
    let m = 2 ^ h in
    let whole : List (ℕ × ℕ) = p ∷ ps in
    let g1 = visit_grows h (quarter m 0 0 whole) old (omega (arith, l)) (proper_quarter h 0 0 whole) all once in
    let s1 = visit h (quarter m 0 0 whole) old in
    let g2 = visit_grows h (quarter m 0 m whole) s1 (omega (arith, l)) (proper_quarter h 0 m whole) g1.behind g1.once in
    let s2 = visit h (quarter m 0 m whole) s1 in
    let g3 = visit_grows h (quarter m m 0 whole) s2 (omega (arith, l)) (proper_quarter h m 0 whole) g2.behind g2.once in
    let s3 = visit h (quarter m m 0 whole) s2 in
    let g4 = visit_grows h (quarter m m m whole) s3 (omega (arith, l)) (proper_quarter h m m whole) g3.behind g3.once in
    let s4 = visit h (quarter m m m whole) s3 in
    let k2 = grow s1 s2 h (quarter m 0 0 whole) g2.more g2.is_more g1.known in
    let k3 = grow s2 s3 h (quarter m 0 0 whole) g3.more g3.is_more k2 in
    let k4 = grow s3 s4 h (quarter m 0 0 whole) g4.more g4.is_more k3 in
    let e3 = grow s2 s3 h (quarter m 0 m whole) g3.more g3.is_more g2.known in
    let e4 = grow s3 s4 h (quarter m 0 m whole) g4.more g4.is_more e3 in
    let f4 = grow s3 s4 h (quarter m m 0 whole) g4.more g4.is_more g3.known in
    let here : Behind s4 (length s4) (square_of (suc h) whole) = record {
      below = h;
      is_height = refl;
      low = l;
      proper = v;
      some = λ e. empty p ps e;
      nw = k4;
      ne = e4;
      sw = f4;
      se = g4.known;
    } in
    put s4 (square_of (suc h) whole) refl g4.behind g4.once here old (g1.more ++ (g2.more ++ (g3.more ++ g4.more)))
    (g4.is_more ∙ (ap (λ z. z ++ g4.more) (g3.is_more ∙ ap (λ z. z ++ g3.more) (g2.is_more ∙ ap (λ z. z ++ g2.more) g1.is_more)) ∙ nested old g1.more g2.more g3.more g4.more))
  where
    empty : (p : ℕ × ℕ) (ps : List (ℕ × ℕ)) → p ∷ ps ≡ [] → ⊥
    empty p ps e = let n : length (p ∷ ps) ≡ 0 = ap length e in omega (arith, n)

    grow : (s t : List Square) (h : ℕ) (qs : List (ℕ × ℕ)) (more : List Square) → t ≡ s ++ more → Known s (length s) h qs → Known t (length t) h qs
    grow s t h qs more e k =
        subst (λ z. Known z (length z) h qs) (sym e) (known_more s more (length s) (length (s ++ more)) h qs (let n = length-append s more in omega (arith, n)) k)

    nested : (o a b c d : List Square) → ((((o ++ a) ++ b) ++ c) ++ d) ≡ o ++ (a ++ (b ++ (c ++ d)))
    nested o a b c d =
        append_assoc ((o ++ a) ++ b) c d ∙ (append_assoc (o ++ a) b (c ++ d) ∙ append_assoc o a (b ++ (c ++ d)))

    put : (s4 : List Square) (s : Square) → s ≡ square_of (suc h) (p ∷ ps) → AllBehind s4 → NoneTwice s4 → Behind s4 (length s4) s → (old more : List Square) → s4 ≡ old ++ more →
        Grown old (with_square s s4) (suc h) (p ∷ ps)
    put s4 s is all once b old more e = picked (list_any (same_square s) s4) refl
      where
        picked : (t : Bool) → list_any (same_square s) s4 ≡ t → Grown old (cond t s4 (s4 ++ s ∷ [])) (suc h) (p ∷ ps)
        picked true f =
            let r = some_place (same_square s) s4 f in
            let x : r.1 ≡ s = sym (same_square-true s r.1 r.3) in
            record {
              behind = all;
              once = once;
              more = more;
              is_more = e;
              known = inr (inr (r.0, slice_get_within s4 r.0 r.1 r.2, r.2 ∙ ap (λ z. Some z) (x ∙ is)));
            }
        picked false f =
            let a = add_one s4 s all once b f in
            record {
              behind = a.0;
              once = a.1;
              more = more ++ s ∷ [];
              is_more = ap (λ z. z ++ s ∷ []) e ∙ append_assoc old more (s ∷ []);
              known = inr (inr (length s4, (let n = length-append s4 (s ∷ []) in omega (arith, n)), get_next s4 s [] ∙ ap (λ z. Some z) is));
            }

-- ---- a square by its quarters
module _ (h : ℕ) (ps : List (ℕ × ℕ)) (v : Proper (suc h) ps) where
  abbrev part : ℕ → ℕ → Cells
  part row col = is_among (quarter (2 ^ h) row col ps)

  part_cell : (row col i j : ℕ) → i < 2 ^ h → j < 2 ^ h → part row col i j ≡ is_among ps (row + i) (col + j)
  part_cell row col i j a b = has-relation_of (2 ^ h) (2 ^ h) (λ x y. is_among ps (row + x) (col + y)) i j a b

  part_within : (row col : ℕ) → LiesWithin (2 ^ h) (2 ^ h) (part row col)
  part_within row col = among_within (2 ^ h) (2 ^ h) (quarter (2 ^ h) row col ps) (proper_quarter h row col ps)

  -- a square is put together of its four quarters: a cell of a quarter is the square's cell moved by half a side
  pub by_quarters : is_among ps ≡ quartered (2 ^ h) (part 0 0) (part 0 (2 ^ h)) (part (2 ^ h) 0) (part (2 ^ h) (2 ^ h))
  by_quarters =
      let m = 2 ^ h in
      same_within (2 ^ suc h) (2 ^ suc h) (is_among ps) (quartered m (part 0 0) (part 0 m) (part m 0) (part m m)) (among_within (2 ^ suc h) (2 ^ suc h) ps v)
      (subst (λ side. LiesWithin side side (quartered m (part 0 0) (part 0 m) (part m 0) (part m m))) (two-halves h)
      (within_quartered m (part 0 0) (part 0 m) (part m 0) (part m m) (part_within 0 0) (part_within 0 m) (part_within m 0) (part_within m m)))
      cell
    where
      up : (m i : ℕ) → m ≤ i → m + (i - m) ≡ i
      up m i l = omega (arith, l)

      none : (i : ℕ) → 0 + i ≡ i
      none i = omega arith

      cell : (i j : ℕ) → i < 2 ^ suc h → j < 2 ^ suc h → is_among ps i j ≡ quartered (2 ^ h) (part 0 0) (part 0 (2 ^ h)) (part (2 ^ h) 0) (part (2 ^ h) (2 ^ h)) i j
      cell i j a b =
          let m = 2 ^ h in
          let two = two-halves h in
          elim (cases_lt i m) [
            | inl x ↦ elim (cases_lt j m) [
              | inl y ↦ sym (nw_cell m (part 0 0) (part 0 m) (part m 0) (part m m) i j x y ∙ (part_cell 0 0 i j x y ∙ (λ k. is_among ps (none i k) (none j k))))
              | inr y ↦
                  ap (λ z. is_among ps i z) (sym (up m j y))
                  ∙ (sym (part_cell 0 m i (j - m) x (omega (arith, y, b, two)) ∙ (λ k. is_among ps (none i k) (m + (j - m))))
                  ∙ (sym (ne_cell m (part 0 0) (part 0 m) (part m 0) (part m m) i (j - m) x) ∙ ap (quartered m (part 0 0) (part 0 m) (part m 0) (part m m) i) (up m j y)))
            ]
            | inr x ↦ elim (cases_lt j m) [
              | inl y ↦
                  ap (λ z. is_among ps z j) (sym (up m i x))
                  ∙ (sym (part_cell m 0 (i - m) j (omega (arith, x, a, two)) y ∙ (λ k. is_among ps (m + (i - m)) (none j k)))
                  ∙ (sym (sw_cell m (part 0 0) (part 0 m) (part m 0) (part m m) (i - m) j y) ∙ ap (λ z. quartered m (part 0 0) (part 0 m) (part m 0) (part m m) z j) (up m i x)))
              | inr y ↦
                  (λ k. is_among ps (sym (up m i x) k) (sym (up m j y) k))
                  ∙ (sym (part_cell m m (i - m) (j - m) (omega (arith, x, a, two)) (omega (arith, y, b, two)))
                  ∙ (sym (se_cell m (part 0 0) (part 0 m) (part m 0) (part m m) (i - m) (j - m))
                  ∙ (λ k. quartered m (part 0 0) (part 0 m) (part m 0) (part m m) (up m i x k) (up m j y k))))
            ]
          ]
