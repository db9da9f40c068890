-- The steps of a square by quarters, in a leaf, and as a relation.
-- 1. The steps of a square are those of its north-west and its south-east quarter, and the one step between them, in the corner of the south-west.
-- 2. In a leaf they are computed, cell by cell.
-- 3. Cut to n they are the relation of the steps below n, and that relation composed with a vector moves its elements up by one.
use Rattle.std.proofs.Common.{◌≡◌, ◌<◌, ◌≤◌, ◌+◌, ◌-◌, ◌&&◌, eqb, ltb, zero, suc, ℕ, Bool, true, false, refl, sym, ap, subst, ◌∙◌, inl, inr, arith}
use Rattle.std.proofs.lemmas.Bool.{cases_lt, and_parts, and_from, and_left, ltb-true, lt-ltb, le-ltb, eqb-true, eq-eqb, false≢true, agree_below, agree_below_at}
use Rattle.rel_model.specs.Relation.{Relation, has, relation_of}
use Rattle.rel_model.specs.Cells.{Cells, no_cells, some_below, bits_cells}
use Rattle.rel_model.specs.Trees.{quartered}
use Rattle.rel_model.specs.Operators.{empty, full, inter, compose}
use Rattle.rel_model.specs.Choice.{holds, next}
use Rattle.rel_model.specs.Quarters.{LiesWithin}
use Rattle.rel_model.proofs.Relations.{relation_of-agree, has-relation_of, IsRelation-relation_of}
use Rattle.rel_model.proofs.Somes.{same_truth, some_from, some_passes}
use Rattle.rel_model.proofs.TreeLaws.{same_cells}
use Rattle.rel_choice.specs.Steps.{step_cells, carry_cells, step_relation}
use Rattle.rel_choice.proofs.Standing.{has-within}
use Rattle.rel_choice.proofs.Sums.{quartered-nw, quartered-ne, quartered-sw, quartered-se}

-- ---- by quarters
-- a set is that of its quarters
by_quarters : (m : ℕ) (f a b c d : Cells) → ((i j : ℕ) → i < m → j < m → f i j ≡ a i j) → ((i j : ℕ) → i < m → f i (m + j) ≡ b i j) → ((i j : ℕ) → j < m → f (m + i) j ≡ c i j) → ((i j : ℕ) → f (m + i) (m + j) ≡ d i j) → f ≡ quartered m a b c d
by_quarters m f a b c d nw ne sw se = same_cells _ _ (λ i j. elim (cases_lt i m) [
  | inl l ↦ elim (cases_lt j m) [
    | inl k ↦ nw i j l k ∙ sym (quartered-nw m a b c d i j l k)
    | inr k ↦ (let e : j ≡ m + (j - m) = omega arith in ap (f i) e ∙ ne i (j - m) l ∙ sym (quartered-ne m a b c d i (j - m) l) ∙ ap (quartered m a b c d i) (sym e))
  ]
  | inr l ↦ (let o : i ≡ m + (i - m) = omega arith in
      elim (cases_lt j m) [
        | inl k ↦ ap (λ (x : ℕ). f x j) o ∙ sw (i - m) j k ∙ sym (quartered-sw m a b c d (i - m) j k) ∙ ap (λ (x : ℕ). quartered m a b c d x j) (sym o)
        | inr k ↦ (let e : j ≡ m + (j - m) = omega arith in
            ap (λ (x : ℕ). f x j) o ∙ ap (f (m + (i - m))) e ∙ se (i - m) (j - m) ∙ sym (quartered-se m a b c d (i - m) (j - m))
            ∙ ap (quartered m a b c d (m + (i - m))) (sym e) ∙ ap (λ (x : ℕ). quartered m a b c d x j) (sym o))
      ])
])

step_at : (m i j : ℕ) → step_cells m i j ≡ true → (i < m) × (i ≡ j + 1)
step_at m i j h = let p = and_parts _ _ h in (ltb-true i m p.0, eqb-true i (j + 1) p.1)

step_from : (m i j : ℕ) → i < m → i ≡ j + 1 → step_cells m i j ≡ true
step_from m i j l e = and_from _ _ (lt-ltb i m l) (eq-eqb i (j + 1) e)

carry_at : (m i j : ℕ) → carry_cells m i j ≡ true → (i ≡ 0) × (j + 1 ≡ m)
carry_at m i j h = let p = and_parts _ _ h in (eqb-true i 0 p.0, eqb-true (j + 1) m p.1)

carry_from : (m i j : ℕ) → i ≡ 0 → j + 1 ≡ m → carry_cells m i j ≡ true
carry_from m i j a b = and_from _ _ (eq-eqb i 0 a) (eq-eqb (j + 1) m b)

no : (i j : ℕ) → no_cells i j ≡ true → ⊥
no i j h = false≢true h

pub steps-quartered : (m : ℕ) → step_cells (m + m) ≡ quartered m (step_cells m) no_cells (carry_cells m) (step_cells m)
steps-quartered m = by_quarters m (step_cells (m + m)) (step_cells m) no_cells (carry_cells m) (step_cells m)
    (λ i j l k. same_truth _ _ (λ h. let p = step_at (m + m) i j h in step_from m i j l p.1) (λ h. let p = step_at m i j h in step_from (m + m) i j (omega (arith, l)) p.1))
    (λ i j l. same_truth _ _ (λ h. let p = step_at (m + m) i (m + j) h in absurd (omega (arith, p.1, l))) (λ h. absurd (no i j h)))
    (λ i j k. same_truth _ _ (λ h. let p = step_at (m + m) (m + i) j h in carry_from m i j (omega (arith, p.1, k)) (omega (arith, p.1, k))) (λ h. let p = carry_at m i j h in step_from (m + m) (m + i) j (omega (arith, p.0, k)) (omega (arith, p.0, p.1))))
    (λ i j. same_truth _ _ (λ h. let p = step_at (m + m) (m + i) (m + j) h in step_from m i j (omega (arith, p.0)) (omega (arith, p.1))) (λ h. let p = step_at m i j h in step_from (m + m) (m + i) (m + j) (omega (arith, p.0)) (omega (arith, p.1))))

-- the carry of a square is one cell in its north-east corner, so it is the carry of that quarter, and the others have
-- no cell
pub carry-quartered : (m : ℕ) → 1 ≤ m → carry_cells (m + m) ≡ quartered m no_cells (carry_cells m) no_cells no_cells
carry-quartered m s = by_quarters m (carry_cells (m + m)) no_cells (carry_cells m) no_cells no_cells
    (λ i j l k. same_truth _ _ (λ h. let p = carry_at (m + m) i j h in absurd (omega (arith, p.1, k))) (λ h. absurd (no i j h)))
    (λ i j l. same_truth _ _ (λ h. let p = carry_at (m + m) i (m + j) h in carry_from m i j p.0 (omega (arith, p.1))) (λ h. let p = carry_at m i j h in carry_from (m + m) i (m + j) p.0 (omega (arith, p.1))))
    (λ i j k. same_truth _ _ (λ h. let p = carry_at (m + m) (m + i) j h in absurd (omega (arith, p.0, s))) (λ h. absurd (no i j h)))
    (λ i j. same_truth _ _ (λ h. let p = carry_at (m + m) (m + i) (m + j) h in absurd (omega (arith, p.0, s))) (λ h. absurd (no i j h)))

-- ---- in a leaf
-- two sets give one answer at each cell of so many rows and columns; at written-out numbers it computes
abbrev pub agree_square : Cells → Cells → ℕ → ℕ → Bool
agree_square f g n zero = true
agree_square f g n (suc m) = agree_below (f m) (g m) n && agree_square f g n m

agree-at : (f g : Cells) (n m i j : ℕ) → agree_square f g n m ≡ true → i < m → j < n → f i j ≡ g i j
agree-at f g n zero i j h l k = absurd (omega (arith, l))
agree-at f g n (suc m) i j h l k =
    let p : (agree_below (f m) (g m) n ≡ true) × (agree_square f g n m ≡ true) = and_parts _ _ h in
    elim (cases_lt i m) [
      | inl s ↦ agree-at f g n m i j p.1 s k
      | inr s ↦ (let e : i ≡ m = omega arith in ap (λ (x : ℕ). f x j) e ∙ agree_below_at (f m) (g m) n j p.0 k ∙ ap (λ (x : ℕ). g x j) (sym e))
    ]

-- a word has the cells with which it agrees
pub leaf-cells : (m bits : ℕ) (f : Cells) → ((i j : ℕ) → f i j ≡ true → (i < m) × (j < m)) → agree_square (bits_cells m bits) f m m ≡ true → bits_cells m bits ≡ f
leaf-cells m bits f w h = same_cells _ _ (λ i j. same_truth _ _
    (λ t. let p = and_parts _ _ t in let q = and_parts _ _ p.1 in sym (agree-at (bits_cells m bits) f m m i j h (ltb-true i m p.0) (ltb-true j m q.0)) ∙ t)
    (λ t. let p = w i j t in agree-at (bits_cells m bits) f m m i j h p.0 p.1 ∙ t))

pub steps-within : (m i j : ℕ) → step_cells m i j ≡ true → (i < m) × (j < m)
steps-within m i j h = let p = step_at m i j h in (p.0, omega (arith, p.0, p.1))

pub carry-within : (m i j : ℕ) → 1 ≤ m → carry_cells m i j ≡ true → (i < m) × (j < m)
carry-within m i j s h = let p = carry_at m i j h in (omega (arith, p.0, s), omega (arith, p.1))

-- the words of leaves of 4 and of 8 rows
pub steps-4 : bits_cells 4 16912 ≡ step_cells 4
steps-4 = leaf-cells 4 16912 (step_cells 4) (steps-within 4) refl

pub steps-8 : bits_cells 8 4620710844295151872 ≡ step_cells 8
steps-8 = leaf-cells 8 4620710844295151872 (step_cells 8) (steps-within 8) refl

pub carry-4 : bits_cells 4 8 ≡ carry_cells 4
carry-4 = leaf-cells 4 8 (carry_cells 4) (λ i j h. carry-within 4 i j (omega arith) h) refl

pub carry-8 : bits_cells 8 128 ≡ carry_cells 8
carry-8 = leaf-cells 8 128 (carry_cells 8) (λ i j h. carry-within 8 i j (omega arith) h) refl

-- ---- as a relation
-- the steps of a square, cut to n
pub steps-cut : (n side : ℕ) (f : Cells) → n ≤ side → f ≡ has (inter (relation_of side side (step_cells side)) (relation_of side side (has (full n n)))) → relation_of n n f ≡ step_relation n
unfolding step_relation inter full relation_of
steps-cut n side f l e = relation_of-agree n n f (λ i j. eqb i (j + 1)) (λ i j a b.
    ap (λ (g : Cells). g i j) e
    ∙ has-relation_of side side (λ x y. has (relation_of side side (step_cells side)) x y && has (relation_of side side (has (full n n))) x y) i j (omega (arith, l, a)) (omega (arith, l, b))
    ∙ ap (λ z. z && has (relation_of side side (has (full n n))) i j) (has-relation_of side side (step_cells side) i j (omega (arith, l, a)) (omega (arith, l, b)))
    ∙ ap (λ z. step_cells side i j && z) (has-relation_of side side (has (full n n)) i j (omega (arith, l, a)) (omega (arith, l, b)) ∙ has-relation_of n n (λ x y. true) i j a b)
    ∙ same_truth _ _ (λ h. let p = and_parts _ _ h in let q = step_at side i j p.0 in eq-eqb i (j + 1) q.1) (λ h. and_from _ _ (step_from side i j (omega (arith, l, a)) (eqb-true i (j + 1) h)) refl))

-- and it lies within n
pub steps-lie : (n side : ℕ) (f : Cells) → f ≡ has (inter (relation_of side side (step_cells side)) (relation_of side side (has (full n n)))) → LiesWithin n n f
unfolding inter full relation_of
steps-lie n side f e = record { row = λ i j t. (at i j (ap (λ (g : Cells). g i j) (sym e) ∙ t)).0; col = λ i j t. (at i j (ap (λ (g : Cells). g i j) (sym e) ∙ t)).1 }
  where
    both : ℕ → ℕ → Bool
    both i j = has (relation_of side side (step_cells side)) i j && has (relation_of side side (has (full n n))) i j

    at : (i j : ℕ) → has (relation_of side side both) i j ≡ true → (i < n) × (j < n)
    at i j t =
        let p = has-within (relation_of side side both) (IsRelation-relation_of side side both) i j t in
        let q = and_parts (has (relation_of side side (step_cells side)) i j) (has (relation_of side side (has (full n n))) i j) (sym (has-relation_of side side both i j p.0 p.1) ∙ t) in
        has-within (relation_of n n (λ x y. true)) (IsRelation-relation_of n n (λ x y. true)) i j (sym (has-relation_of side side (has (full n n)) i j p.0 p.1) ∙ q.1)

-- a vector behind the steps
pub next-composed : (v : Relation) (n : ℕ) → v.rows ≡ n → v.cols ≡ 1 → compose (step_relation n) v ≡ next v
unfolding compose step_relation next relation_of
next-composed v n a b =
    ap (λ (c : ℕ). relation_of n c (λ i k. some_below n (λ j. has (step_relation n) i j && has v j k))) b
    ∙ relation_of-agree n 1 (λ i k. some_below n (λ j. has (step_relation n) i j && has v j k)) (λ i k. ltb 0 i && holds v (i - 1)) (λ i k l m. same_truth _ _ (there i k l (omega (arith, m))) (back i k l (omega (arith, m))))
    ∙ ap (λ (c : ℕ). relation_of c 1 (λ i k. ltb 0 i && holds v (i - 1))) (sym a)
  where
    there : (i k : ℕ) → i < n → k ≡ 0 → some_below n (λ j. has (step_relation n) i j && has v j k) ≡ true → (ltb 0 i && holds v (i - 1)) ≡ true
    there i k l z h =
        let p = some_passes n (λ j. has (step_relation n) i j && has v j k) h in
        let q = and_parts _ _ p.passes in
        let e : i ≡ p.at + 1 = eqb-true i (p.at + 1) (sym (has-relation_of n n (λ x y. eqb x (y + 1)) i p.at l p.within) ∙ q.0) in
        let f : p.at ≡ i - 1 = omega (arith, e) in
        and_from _ _ (lt-ltb 0 i (omega (arith, e))) (subst (λ (x : ℕ). has v x 0 ≡ true) f (subst (λ (x : ℕ). has v p.at x ≡ true) z q.1))

    back : (i k : ℕ) → i < n → k ≡ 0 → (ltb 0 i && holds v (i - 1)) ≡ true → some_below n (λ j. has (step_relation n) i j && has v j k) ≡ true
    back i k l z h =
        let q = and_parts _ _ h in
        let s = ltb-true 0 i q.0 in
        let e : i ≡ i - 1 + 1 = omega (arith, s) in
        some_from n (λ j. has (step_relation n) i j && has v j k) (i - 1) (omega (arith, l))
        (and_from _ _ (has-relation_of n n (λ x y. eqb x (y + 1)) i (i - 1) l (omega (arith, l)) ∙ eq-eqb i (i - 1 + 1) e) (subst (λ (x : ℕ). has v (i - 1) x ≡ true) (sym z) q.1))

-- a vector of at most one element
pub next-small : (v : Relation) (n : ℕ) → v.rows ≡ n → n < 2 → empty n 1 ≡ next v
unfolding empty next
next-small v n a l =
    relation_of-agree n 1 (λ i k. false) (λ i k. ltb 0 i && holds v (i - 1)) (λ i k b c. let e : ltb 0 i ≡ false = le-ltb 0 i (omega (arith, l, b)) in sym (and_left (ltb 0 i) (holds v (i - 1)) e))
    ∙ ap (λ (c : ℕ). relation_of c 1 (λ i k. ltb 0 i && holds v (i - 1))) (sym a)
