-- The least number that passes a test, by halves, and the least pair, by rows.
-- 1. A row of a square has a cell where it has one in either of the two quarters of its half.
-- 2. The least number of a range that passes is the least below the middle, or else the least from the middle on.
-- 3. The least pair from a row on stands in the least row that has one, in its least column.
-- 4. In an increasing list the first that passes a test is the least that does.
use Rattle.std.proofs.Common.{◌≡◌, ◌<◌, ◌≤◌, ◌+◌, ◌-◌, ◌||◌, min, ℕ, Bool, true, false, List, [], ◌∷◌, filter, Option, Some, None, refl, sym, ap, subst, ◌∙◌, inl, inr, arith}
use Rattle.std.proofs.lemmas.Bool.{cases_Bool, cases_lt, or_cases, or_right, false≢true, leb-true, le-leb}
use Rattle.rel_model.specs.Relation.{Relation, IsRelation, IsIncreasing, before, has}
use Rattle.rel_model.specs.Cells.{Cells, no_cells, some_below}
use Rattle.rel_model.specs.Trees.{quartered}
use Rattle.rel_model.specs.Choice.{first_in, next_pair}
use Rattle.rel_model.specs.Quarters.{LiesWithin}
use Rattle.rel_model.proofs.Pairs.{same, same-true, same_itself, member, before-true, all-member}
use Rattle.rel_model.proofs.Somes.{same_truth, not_true, some_from, some_passes, some_none, some_agree}
use Rattle.rel_choice.specs.Leasts.{Least, IsLeast, LeastPair, IsLeastPair, row_meets, row_meets_either, from_row, behind}
use Rattle.rel_choice.proofs.Sums.{quartered-nw, quartered-ne, quartered-sw, quartered-se}

-- ---- rows of a square by those of its quarters
some_below-split : (m n : ℕ) (t : ℕ → Bool) → some_below (m + n) t ≡ (some_below m t || some_below n (λ k. t (m + k)))
some_below-split m n t = same_truth _ _
    (λ h. let p = some_passes (m + n) t h in
    let w = p.within in
    elim (cases_lt p.at m) [
      | inl l ↦ ap (λ b. b || some_below n (λ k. t (m + k))) (some_from m t p.at l p.passes)
      | inr l ↦ or_right (some_below m t) _ (some_from n (λ k. t (m + k)) (p.at - m) (omega (arith, l, w)) (let e : p.at ≡ m + (p.at - m) = omega (arith, l) in subst (λ (x : ℕ). t x ≡ true) e p.passes))
    ])
    (λ h. elim (or_cases _ _ h) [
      | inl a ↦ (let p = some_passes m t a in let w = p.within in some_from (m + n) t p.at (omega (arith, w)) p.passes)
      | inr a ↦ (let p = some_passes n (λ k. t (m + k)) a in let w = p.within in some_from (m + n) t (m + p.at) (omega (arith, w)) p.passes)
    ])

pub row_meets-north : (m : ℕ) (a b c d : Cells) (i : ℕ) → i < m → row_meets (m + m) (quartered m a b c d) i ≡ row_meets_either m a b i
row_meets-north m a b c d i l =
    some_below-split m m (quartered m a b c d i)
    ∙ ap (λ x. x || some_below m (λ k. quartered m a b c d i (m + k))) (some_agree m (quartered m a b c d i) (a i) (λ j k. quartered-nw m a b c d i j l k))
    ∙ ap (λ x. some_below m (a i) || x) (some_agree m (λ k. quartered m a b c d i (m + k)) (b i) (λ j k. quartered-ne m a b c d i j l))

pub row_meets-south : (m : ℕ) (a b c d : Cells) (i : ℕ) → row_meets (m + m) (quartered m a b c d) (m + i) ≡ row_meets_either m c d i
row_meets-south m a b c d i =
    some_below-split m m (quartered m a b c d (m + i))
    ∙ ap (λ x. x || some_below m (λ k. quartered m a b c d (m + i) (m + k))) (some_agree m (quartered m a b c d (m + i)) (c i) (λ j k. quartered-sw m a b c d i j k))
    ∙ ap (λ x. some_below m (c i) || x) (some_agree m (λ k. quartered m a b c d (m + i) (m + k)) (d i) (λ j k. quartered-se m a b c d i j))

pub row_meets-none : (m i : ℕ) → row_meets m no_cells i ≡ false
row_meets-none m i = some_none m (no_cells i) (λ k l. refl)

-- ---- the least number, by halves
pub least-first : (t a : ℕ → Bool) (m from below k : ℕ) → ((x : ℕ) → x < m → t x ≡ a x) → Least a from (min below m) k → Least t from below k
least-first t a m from below k e l =
    let low = l.low in
    let high = l.high in
    record { low = low; high = omega (arith, high); passes = e k (omega (arith, high)) ∙ l.passes; first = λ x p q. e x (omega (arith, high, q)) ∙ l.first x p q }

-- where none below the middle passes, the least from the middle on is the least of all
pub least-second : (t a b : ℕ → Bool) (m from below k : ℕ) → ((x : ℕ) → x < m → t x ≡ a x) → ((x : ℕ) → t (m + x) ≡ b x) → IsLeast a from (min below m) None → Least b (from - m) (below - m) k → Least t from below (m + k)
least-second t a b m from below k e f n l =
    let low = l.low in
    let high = l.high in
    record { low = omega (arith, low); high = omega (arith, high); passes = f k ∙ l.passes; first = λ x p q. before_it x p q }
  where
    before_it : (x : ℕ) → from ≤ x → x < m + k → t x ≡ false
    before_it x p q =
        let high = l.high in
        elim (cases_lt x m) [
          | inl s ↦ e x s ∙ n x p (omega (arith, high))
          | inr s ↦ (let g : x ≡ m + (x - m) = omega arith in ap t g ∙ f (x - m) ∙ l.first (x - m) (omega arith) (omega arith))
        ]

pub least-neither : (t a b : ℕ → Bool) (m from below : ℕ) → ((x : ℕ) → x < m → t x ≡ a x) → ((x : ℕ) → t (m + x) ≡ b x) → IsLeast a from (min below m) None → IsLeast b (from - m) (below - m) None → IsLeast t from below None
least-neither t a b m from below e f n o = λ x p q. elim (cases_lt x m) [
  | inl s ↦ e x s ∙ n x p (omega arith)
  | inr s ↦ (let g : x ≡ m + (x - m) = omega arith in ap t g ∙ f (x - m) ∙ o (x - m) (omega arith) (omega arith))
]

-- ---- the least pair, by rows
pub pair-none : (f : Cells) (side from : ℕ) → LiesWithin side side f → IsLeast (row_meets side f) from side None → IsLeastPair f (from_row from) None
pair-none f side from w h = λ i j t. not_true _ (λ l.
    false≢true (sym (h i (leb-true from i l) (w.row i j t)) ∙ some_from side (f i) j (w.col i j t) t))

pub pair-some : (f : Cells) (side from x y : ℕ) → LiesWithin side side f → Least (row_meets side f) from side x → Least (f x) 0 side y → LeastPair f (from_row from) (x, y)
pair-some f side from x y w r c = record {
  among = c.passes;
  passes = le-leb from x r.low;
  first = λ i j t p. not_true _ (λ b. elim (before-true (i, j) (x, y) b) [
    | inl l ↦ false≢true (sym (r.first i (leb-true from i p) l) ∙ some_from side (f i) j (w.col i j t) t)
    | inr l ↦ false≢true (sym (c.first j (omega arith) l.1) ∙ subst (λ (z : ℕ). f z j ≡ true) l.0 t)
  ]);
}

-- a row that has a cell has a least one
pub row-has_least : (f : Cells) (side from x : ℕ) → Least (row_meets side f) from side x → IsLeast (f x) 0 side None → ⊥
row-has_least f side from x r h = let p = some_passes side (f x) r.passes in false≢true (sym (h p.at (omega arith) p.within) ∙ p.passes)

-- ---- the first of a list that passes
none-passes : (t : ℕ × ℕ → Bool) (ps : List (ℕ × ℕ)) → ((q : ℕ × ℕ) → member q ps ≡ true → t q ≡ false) → None ≡ first_in (filter t ps)
none-passes t [] h = refl
none-passes t (p ∷ ps) h =
    let e = h p (ap (λ b. b || member p ps) (same_itself p)) in
    rw e (none-passes t ps (λ q m. h q (or_right (same p q) _ m)))

-- in an increasing list the least that passes is the first that does, by induction: a head that passes is that one,
-- since it is before all others
one-passes : (t : ℕ × ℕ → Bool) (ps : List (ℕ × ℕ)) (p : ℕ × ℕ) → IsIncreasing ps → member p ps ≡ true → t p ≡ true → ((q : ℕ × ℕ) → member q ps ≡ true → t q ≡ true → before q p ≡ false) → Some p ≡ first_in (filter t ps)
one-passes t [] p w m s h = absurd (false≢true m)
one-passes t (x ∷ xs) p w m s h =
    elim (cases_Bool (t x)) [
      | inl e ↦ elim (or_cases _ _ m) [
        | inl k ↦ rw e (ap (λ z. Some z) (sym (same-true x p k)))
        | inr k ↦ absurd (false≢true (sym (h x (ap (λ b. b || member x xs) (same_itself x)) e) ∙ all-member (λ q. before x q ≡ true) xs p w.0 k))
      ]
      | inr e ↦ elim (or_cases _ _ m) [
        | inl k ↦ absurd (false≢true (sym e ∙ ap t (same-true x p k) ∙ s))
        | inr k ↦ rw e (one-passes t xs p w.1 k s (λ q n. h q (or_right (same x q) _ n)))
      ]
    ]

all-pass : (t : ℕ × ℕ → Bool) (ps : List (ℕ × ℕ)) → ((q : ℕ × ℕ) → t q ≡ true) → filter t ps ≡ ps
all-pass t [] h = refl
all-pass t (p ∷ ps) h = let e = h p in rw e (ap (λ xs. p ∷ xs) (all-pass t ps h))

least-listed : (r : Relation) (f t : Cells) (o : Option (ℕ × ℕ)) → IsRelation r → f ≡ has r → IsLeastPair f t o → o ≡ first_in (filter (λ (p : ℕ × ℕ). t p.0 p.1) r.pairs)
least-listed r f t None v e h = none-passes (λ (p : ℕ × ℕ). t p.0 p.1) r.pairs (λ q m. h q.0 q.1 (ap (λ (g : Cells). g q.0 q.1) e ∙ m))
least-listed r f t (Some p) v e h =
    one-passes (λ (q : ℕ × ℕ). t q.0 q.1) r.pairs p v.increasing (ap (λ (g : Cells). g p.0 p.1) (sym e) ∙ h.among) h.passes (λ q m s. h.first q.0 q.1 (ap (λ (g : Cells). g q.0 q.1) e ∙ m) s)

-- the least pair of all
pub next-first : (r : Relation) (f : Cells) (o : Option (ℕ × ℕ)) → IsRelation r → f ≡ has r → IsLeastPair f (from_row 0) o → o ≡ next_pair r None
unfolding next_pair
next-first r f o v e h = least-listed r f (from_row 0) o v e h ∙ ap first_in (all-pass (λ (p : ℕ × ℕ). from_row 0 p.0 p.1) r.pairs (λ q. le-leb 0 q.0 (omega arith)))

-- the least pair behind one
pub next-behind : (r : Relation) (f : Cells) (x y : ℕ) (o : Option (ℕ × ℕ)) → IsRelation r → f ≡ has r → IsLeastPair f (behind x y) o → o ≡ next_pair r (Some (x, y))
unfolding next_pair
next-behind r f x y o v e h = least-listed r f (behind x y) o v e h
