-- Which relations the first element, the choice of a pair, and the rows and columns that have a pair are.
-- 1. A composition with a full vector has the rows that have a pair; of the transposition it has the columns.
-- 2. The first pair of the list of a relation is the one in whose row none stands before it, of the first row that has one.
-- 3. In a vector that is its least element.
use Rattle.std.proofs.Common.{◌≡◌, ◌<◌, ◌⊎◌, ◌&&◌, ◌||◌, not, eqb, ℕ, true, false, List, [], ◌∷◌, Some, None, refl, sym, ap, subst, ◌∙◌, inl, inr, arith}
use Rattle.std.proofs.lemmas.Bool.{and_parts, and_from, or_cases, eqb-true, eq-eqb, false≢true, not_from_false, not-true}
use Rattle.rel_model.specs.Relation.{Relation, IsRelation, IsIncreasing, before, has, relation_of}
use Rattle.rel_model.specs.Cells.{some_below}
use Rattle.rel_model.specs.Operators.{empty, full, single, transpose, compose}
use Rattle.rel_model.specs.Choice.{holds, row_has, column_has, point, atom, init, dom, ran, first_in, next_pair}
use Rattle.rel_model.proofs.Pairs.{same, member, same-true, same_itself, before-true, all-member}
use Rattle.rel_model.proofs.Relations.{relation_of-agree, has-relation_of}
use Rattle.rel_model.proofs.Somes.{same_truth, not_true, some_from, some_passes, some_none, some_agree}
use Rattle.rel_choice.proofs.Standing.{has-within}

-- ---- the first element
pub init-none : (v : Relation) (n : ℕ) → v.rows ≡ n → n ≡ 0 → empty n 1 ≡ init v
unfolding empty init
init-none v n e z = relation_of-agree n 1 (λ i j. false) (λ i j. eqb i 0) (λ i j l k. absurd (omega arith)) ∙ ap (λ (m : ℕ). relation_of m 1 (λ i j. eqb i 0)) (sym e)

pub init-some : (v : Relation) (n : ℕ) → v.rows ≡ n → single n 1 0 0 ≡ init v
unfolding single init
init-some v n e =
    relation_of-agree n 1 (λ i j. eqb i 0 && eqb j 0) (λ i j. eqb i 0) (λ i j l k. let z : j ≡ 0 = omega arith in same_truth _ _ (λ h. (and_parts _ _ h).0) (λ h. and_from _ _ h (eq-eqb j 0 z)))
    ∙ ap (λ (m : ℕ). relation_of m 1 (λ i j. eqb i 0)) (sym e)

-- ---- rows and columns that have a pair
pub compose-full : (r : Relation) (n : ℕ) → r.cols ≡ n → compose r (full n 1) ≡ dom r
unfolding compose full dom relation_of
compose-full r n e = relation_of-agree r.rows 1 (λ i k. some_below r.cols (λ j. has r i j && has (full n 1) j k)) (λ i k. row_has r i)
    (λ i k a b. some_agree r.cols (λ j. has r i j && has (full n 1) j k) (has r i) (λ j c. let h : has (full n 1) j k ≡ true = has-relation_of n 1 (λ x y. true) j k (omega arith) b in
    same_truth _ _ (λ t. (and_parts _ _ t).0) (λ t. and_from _ _ t h)))

pub transposed-dom : (r : Relation) → dom (transpose r) ≡ ran r
unfolding dom transpose ran relation_of
transposed-dom r = relation_of-agree r.cols 1 (λ j k. row_has (transpose r) j) (λ j k. column_has r j)
    (λ j k a b. some_agree r.rows (has (transpose r) j) (λ i. has r i j) (λ i c. has-relation_of r.cols r.rows (λ x y. has r y x) j i a c))

-- ---- the choice of a pair
-- the pairs of an increasing list are its first and those behind it
first-before : (p : ℕ × ℕ) (ps : List (ℕ × ℕ)) (r : Relation) → IsRelation r → r.pairs ≡ p ∷ ps → (i j : ℕ) → has r i j ≡ true → (◌≡◌ {A = ℕ × ℕ} p (i, j)) ⊎ (before p (i, j) ≡ true)
first-before p ps r v e i j h =
    let w = subst (λ xs. IsIncreasing xs) e v.increasing in
    let m : member (i, j) (p ∷ ps) ≡ true = subst (λ xs. member (i, j) xs ≡ true) e h in
    elim (or_cases (same p (i, j)) (member (i, j) ps) m) [
      | inl s ↦ inl (same-true p (i, j) s)
      | inr s ↦ inr (all-member (λ q. before p q ≡ true) ps (i, j) w.0 s)
    ]

first-has : (p : ℕ × ℕ) (ps : List (ℕ × ℕ)) (r : Relation) → r.pairs ≡ p ∷ ps → has r p.0 p.1 ≡ true
first-has p ps r e = subst (λ xs. member (p.0, p.1) xs ≡ true) (sym e) (ap (λ b. b || member p ps) (same_itself p))

-- a list by its first element
first-none : (ps : List (ℕ × ℕ)) → None ≡ first_in ps → ps ≡ []
first-none [] h = refl
first-none (p ∷ ps) h = absurd (let f : None ≡ Some p = h in cc)

record Begins (p : ℕ × ℕ) (ps : List (ℕ × ℕ)) : Type 0 where
  rest : List (ℕ × ℕ)
  list : ps ≡ p ∷ rest

first-some : (ps : List (ℕ × ℕ)) (p : ℕ × ℕ) → Some p ≡ first_in ps → Begins p ps
first-some [] p h = absurd (let f : Some p ≡ None = h in cc)
first-some (q ∷ qs) p h = let e : p ≡ q = cc in record { rest = qs; list = ap (λ x. x ∷ qs) (sym e) }

pub atom-none : (r : Relation) (m n : ℕ) → r.rows ≡ m → r.cols ≡ n → None ≡ next_pair r None → empty m n ≡ atom r
unfolding next_pair atom empty
atom-none r m n a b h =
    relation_of-agree m n (λ i j. false) (λ i j. has r i j && (not (some_below i (row_has r)) && not (some_below j (has r i)))) (λ i j k l. let e : has r i j ≡ false = ap (member (i, j)) (first-none r.pairs h) in rw e refl)
    ∙ ap (λ (x : ℕ). relation_of x n (λ i j. has r i j && (not (some_below i (row_has r)) && not (some_below j (has r i))))) (sym a)
    ∙ ap (λ (x : ℕ). relation_of r.rows x (λ i j. has r i j && (not (some_below i (row_has r)) && not (some_below j (has r i))))) (sym b)

-- the atom of a relation is the first pair of its list: none before it is in the relation, and for every other pair
-- this one stands in a row before it or before it in its row
pub atom-some : (r : Relation) (m n x y : ℕ) → IsRelation r → r.rows ≡ m → r.cols ≡ n → Some (x, y) ≡ next_pair r None → single m n x y ≡ atom r
unfolding next_pair atom single
atom-some r m n x y v a b h =
    relation_of-agree m n (λ i j. eqb i x && eqb j y) (λ i j. has r i j && (not (some_below i (row_has r)) && not (some_below j (has r i)))) (λ i j k l. same_truth _ _ (there i j) (back i j inner))
    ∙ ap (λ (z : ℕ). relation_of z n (λ i j. has r i j && (not (some_below i (row_has r)) && not (some_below j (has r i))))) (sym a)
    ∙ ap (λ (z : ℕ). relation_of r.rows z (λ i j. has r i j && (not (some_below i (row_has r)) && not (some_below j (has r i))))) (sym b)
  where
    f : Begins (x, y) r.pairs
    f = first-some r.pairs (x, y) h

    inner : y < r.cols
    inner = (has-within r v x y (first-has (x, y) f.rest r f.list)).1

    start : (i j : ℕ) → has r i j ≡ true → (◌≡◌ {A = ℕ × ℕ} (x, y) (i, j)) ⊎ (before (x, y) (i, j) ≡ true)
    start = first-before (x, y) f.rest r v f.list

    not_less : (i j : ℕ) → has r i j ≡ true → i < x → ⊥
    not_less i j t l = elim (start i j t) [
      | inl e ↦ (let g : x ≡ i = ap (λ (p : ℕ × ℕ). p.0) e in omega (arith, g, l))
      | inr e ↦ elim (before-true (x, y) (i, j) e) [ inl g ↦ omega (arith, g, l) | inr g ↦ omega (arith, g.0, l) ]
    ]

    not_left : (j : ℕ) → has r x j ≡ true → j < y → ⊥
    not_left j t l = elim (start x j t) [
      | inl e ↦ (let g : y ≡ j = ap (λ (p : ℕ × ℕ). p.1) e in omega (arith, g, l))
      | inr e ↦ elim (before-true (x, y) (x, j) e) [ inl g ↦ omega (arith, g) | inr g ↦ omega (arith, g.1, l) ]
    ]

    there_at : has r x y ≡ true → (has r x y && (not (some_below x (row_has r)) && not (some_below y (has r x)))) ≡ true
    there_at t =
        let rows = not_from_false _ (some_none x (row_has r) (λ k l. not_true _ (λ g. let p = some_passes r.cols (has r k) g in not_less k p.at p.passes l))) in
        let cols = not_from_false _ (some_none y (has r x) (λ k l. not_true _ (λ g. not_left k g l))) in
        and_from _ _ t (and_from _ _ rows cols)

    there : (i j : ℕ) → (eqb i x && eqb j y) ≡ true → (has r i j && (not (some_below i (row_has r)) && not (some_below j (has r i)))) ≡ true
    there i j t =
        let p = and_parts _ _ t in
        let e : i ≡ x = eqb-true i x p.0 in
        let g : j ≡ y = eqb-true j y p.1 in
        let at : (has r x y && (not (some_below x (row_has r)) && not (some_below y (has r x)))) ≡ true = there_at (first-has (x, y) f.rest r f.list) in
        subst (λ (z : ℕ). (has r z j && (not (some_below z (row_has r)) && not (some_below j (has r z)))) ≡ true) (sym e)
        (subst (λ (z : ℕ). (has r x z && (not (some_below x (row_has r)) && not (some_below z (has r x)))) ≡ true) (sym g) at)

    back : (i j : ℕ) → y < r.cols → (has r i j && (not (some_below i (row_has r)) && not (some_below j (has r i)))) ≡ true → (eqb i x && eqb j y) ≡ true
    back i j c t =
        let p = and_parts _ _ t in
        let q = and_parts _ _ p.1 in
        elim (start i j p.0) [
          | inl e ↦ and_from _ _ (eq-eqb i x (sym (ap (λ (z : ℕ × ℕ). z.0) e))) (eq-eqb j y (sym (ap (λ (z : ℕ × ℕ). z.1) e)))
          | inr e ↦ elim (before-true (x, y) (i, j) e) [
            | inl g ↦ absurd (false≢true (sym (not-true _ q.0) ∙ some_from i (row_has r) x g (some_from r.cols (has r x) y c (first-has (x, y) f.rest r f.list))))
            | inr g ↦ absurd (false≢true (sym (not-true _ q.1) ∙ some_from j (has r i) y g.1 (subst (λ (z : ℕ). has r z y ≡ true) g.0 (first-has (x, y) f.rest r f.list))))
          ]
        ]

-- in a vector the least pair is the least element
pub atom-point : (v : Relation) → v.cols ≡ 1 → atom v ≡ point v
unfolding atom point
atom-point v e =
    ap (λ (n : ℕ). relation_of v.rows n (λ i j. has v i j && (not (some_below i (row_has v)) && not (some_below j (has v i))))) e
    ∙ relation_of-agree v.rows 1 (λ i j. has v i j && (not (some_below i (row_has v)) && not (some_below j (has v i)))) (λ i j. holds v i && not (some_below i (holds v))) (λ i j l k. at i j (omega arith))
  where
    row : (i : ℕ) → row_has v i ≡ holds v i
    row i = ap (λ (n : ℕ). some_below n (has v i)) e ∙ same_truth _ _ (λ h. elim (or_cases (has v i 0) false h) [ inl a ↦ a | inr a ↦ absurd (false≢true a) ]) (λ h. ap (λ b. b || false) h)

    rows : (i : ℕ) → some_below i (row_has v) ≡ some_below i (holds v)
    rows i = some_agree i (row_has v) (holds v) (λ k l. row k)

    at : (i j : ℕ) → j ≡ 0 → (has v i j && (not (some_below i (row_has v)) && not (some_below j (has v i)))) ≡ (holds v i && not (some_below i (holds v)))
    at i j z =
        let zero_at : (has v i 0 && (not (some_below i (row_has v)) && not (some_below 0 (has v i)))) ≡ (holds v i && not (some_below i (holds v))) = same_truth _ _
        (λ h. let p = and_parts _ _ h in let q = and_parts _ _ p.1 in and_from _ _ p.0 (ap not (sym (rows i)) ∙ q.0))
        (λ h. let p = and_parts _ _ h in and_from _ _ p.0 (and_from _ _ (ap not (rows i) ∙ p.1) refl)) in
        subst (λ (y : ℕ). (has v i y && (not (some_below i (row_has v)) && not (some_below y (has v i)))) ≡ (holds v i && not (some_below i (holds v)))) (sym z) zero_at
