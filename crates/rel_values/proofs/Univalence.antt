-- A relation is univalent exactly if no two neighbours in its list of pairs have one row.
-- 1. The list increases, so the rows rise along it, and two places with one row have neighbours with one row between
--    them (`rows_apart`).
-- 2. Two pairs of one row stand at two places (`is_single`).
-- 3. Neighbours with one row are two pairs of that row, since they increase (`is_double`).
use Rattle.std.proofs.Common.{◌≡◌, ◌≢◌, ◌<◌, ◌≤◌, ◌+◌, ◌-◌, ◌∙◌, ◌&&◌, not, eqb, ℕ, suc, zero, true, false, List, [], ◌∷◌, length, get_or, refl, sym, ap, subst, arith, inl, inr}
use Rattle.std.proofs.lemmas.Bool.{and_parts, and_from, eqb-true, cases_lt}
use Rattle.rel_model.specs.Cells.{some_below}
use Rattle.rel_model.specs.Choice.{is_unival}
use Rattle.rel_model.specs.Relation.{Relation, IsRelation, IsIncreasing, before, has}
use Rattle.rel_model.proofs.Pairs.{before-true}
use Rattle.rel_model.proofs.Somes.{not_true, some_from, some_passes}
use Rattle.rel_choice.proofs.Standing.{has-within}
use Rattle.rel_joins.specs.Starts.{row_at}
use Rattle.rel_joins.proofs.Starts.{all_at, found, rows_rise}
use Rattle.rel_joins.proofs.Reaches.{placed_among}

-- no two neighbours among the first k pairs have one row
abbrev pub Apart : ℕ → List (ℕ × ℕ) → Type 0
Apart k ps = (m : ℕ) → m + 1 < k → row_at ps m ≢ row_at ps (m + 1)

-- the rows of two places differ
rows_apart : (ps : List (ℕ × ℕ)) → IsIncreasing ps → Apart (length ps) ps → (a b : ℕ) → a < b → b < length ps → row_at ps a < row_at ps b
rows_apart ps s h a b l below =
    let c : ℕ = b - 1 in
    let e : c + 1 ≡ b = omega (arith, l) in
    let first = rows_rise ps a c s (omega (arith, l, e)) (omega (arith, l, e, below)) in
    let second = rows_rise ps c (c + 1) s (omega arith) (omega (arith, e, below)) in
    let differ : row_at ps c ≢ row_at ps (c + 1) = h c (omega (arith, e, below)) in
    subst (λ (n : ℕ). row_at ps a < row_at ps n) e (omega (arith, first, second, differ))

-- two pairs of one row are one
is_single : (r : Relation) → IsRelation r → Apart (length r.pairs) r.pairs → is_unival r ≡ true
unfolding is_unival
is_single r v h =
    ap not (not_true _ (λ (t : some_below r.rows (λ i. some_below r.cols (λ j. has r i j && some_below j (has r i))) ≡ true).
    (let row = some_passes r.rows _ t in
    let col = some_passes r.cols _ row.passes in
    let both = and_parts (has r row.at col.at) (some_below col.at (has r row.at)) col.passes in
    let other = some_passes col.at (has r row.at) both.1 in
    let a = found _ r.pairs both.0 in
    let b = found _ r.pairs other.passes in
    let at_a = and_parts (eqb (get_or r.pairs a.place (0, 0)).0 row.at) (eqb (get_or r.pairs a.place (0, 0)).1 col.at) a.passes in
    let at_b = and_parts (eqb (get_or r.pairs b.place (0, 0)).0 row.at) (eqb (get_or r.pairs b.place (0, 0)).1 other.at) b.passes in
    let row_a : row_at r.pairs a.place ≡ row.at = eqb-true _ _ at_a.0 in
    let row_b : row_at r.pairs b.place ≡ row.at = eqb-true _ _ at_b.0 in
    let col_a : (get_or r.pairs a.place (0, 0)).1 ≡ col.at = eqb-true _ _ at_a.1 in
    let col_b : (get_or r.pairs b.place (0, 0)).1 ≡ other.at = eqb-true _ _ at_b.1 in
    elim (cases_lt a.place b.place) [
      | inl l ↦ (let x = rows_apart r.pairs v.increasing h a.place b.place l b.below in absurd (omega (arith, x, row_a, row_b)))
      | inr g ↦ elim (cases_lt b.place a.place) [
        | inl l ↦ (let x = rows_apart r.pairs v.increasing h b.place a.place l a.below in absurd (omega (arith, x, row_a, row_b)))
        | inr k ↦ (let e : a.place ≡ b.place = omega (arith, g, k) in
            let same : (get_or r.pairs a.place (0, 0)).1 ≡ (get_or r.pairs b.place (0, 0)).1 = ap (λ (n : ℕ). (get_or r.pairs n (0, 0)).1) e in
            let less = other.within in
            absurd (omega (arith, same, col_a, col_b, less)))
      ]
    ])))

-- neighbours increase
neighbours : (ps : List (ℕ × ℕ)) (m n : ℕ) → IsIncreasing ps → n ≡ m + 1 → n < length ps → before (get_or ps m (0, 0)) (get_or ps n (0, 0)) ≡ true
neighbours [] m n s e l = absurd (omega (arith, l))
neighbours (p ∷ ps) m zero s e l = absurd (omega (arith, e))
neighbours (p ∷ ps) zero (suc n) s e l = all_at (λ q. before p q ≡ true) ps n (0, 0) s.0 (omega (arith, l))
neighbours (p ∷ ps) (suc m) (suc n) s e l = neighbours ps m n s.1 (omega (arith, e)) (omega (arith, l))

-- neighbours of one row are two pairs of it
is_double : (r : Relation) → IsRelation r → (m : ℕ) → m + 1 < length r.pairs → row_at r.pairs m ≡ row_at r.pairs (m + 1) → is_unival r ≡ false
unfolding is_unival
is_double r v m l e =
    let p : ℕ × ℕ = get_or r.pairs m (0, 0) in
    let q : ℕ × ℕ = get_or r.pairs (m + 1) (0, 0) in
    let has_p : has r p.0 p.1 ≡ true = placed_among r.pairs m (omega (arith, l)) in
    let has_q : has r q.0 q.1 ≡ true = placed_among r.pairs (m + 1) l in
    let has_p_there : has r q.0 p.1 ≡ true = subst (λ (i : ℕ). has r i p.1 ≡ true) e has_p in
    let less : p.1 < q.1 = elim (before-true p q (neighbours r.pairs m (m + 1) v.increasing refl l)) [
      | inl a ↦ absurd (omega (arith, a, e))
      | inr a ↦ a.1
    ] in
    let within = has-within r v q.0 q.1 has_q in
    ap not (some_from r.rows (λ i. some_below r.cols (λ j. has r i j && some_below j (has r i))) q.0 within.0
    (some_from r.cols (λ j. has r q.0 j && some_below j (has r q.0)) q.1 within.1
    (and_from (has r q.0 q.1) (some_below q.1 (has r q.0)) has_q (some_from q.1 (has r q.0) p.1 less has_p_there))))

-- the same for a list that is the relation's
pub listed_single : (ps : List (ℕ × ℕ)) → Apart (length ps) ps → (r : Relation) → IsRelation r → ps ≡ r.pairs → true ≡ is_unival r
listed_single ps h r v e = sym (is_single r v (subst (λ (xs : List (ℕ × ℕ)). Apart (length xs) xs) e h))

pub listed_double : (ps : List (ℕ × ℕ)) (m : ℕ) → m + 1 < length ps → row_at ps m ≡ row_at ps (m + 1) → (r : Relation) → IsRelation r → ps ≡ r.pairs → false ≡ is_unival r
listed_double ps m l q r v e =
    sym (is_double r v m (subst (λ (xs : List (ℕ × ℕ)). m + 1 < length xs) e l) (subst (λ (xs : List (ℕ × ℕ)). row_at xs m ≡ row_at xs (m + 1)) e q))

-- one pair more
pub apart_more : (k : ℕ) (ps : List (ℕ × ℕ)) → 1 ≤ k → Apart k ps → row_at ps (k - 1) ≢ row_at ps k → Apart (k + 1) ps
apart_more k ps one h n m l = elim (cases_lt (m + 1) k) [
  | inl b ↦ h m b
  | inr b ↦ (let e : m ≡ k - 1 = omega (arith, one, l, b) in
      let f : m + 1 ≡ k = omega (arith, one, l, b) in
      λ (q : row_at ps m ≡ row_at ps (m + 1)). n (ap (row_at ps) (sym e) ∙ q ∙ ap (row_at ps) f))
]
