-- Walks, and the transitive closure.
-- 1. Walks are joined and split at any step.
-- 2. The elements from which y is reached within k steps grow with k. Where they do not grow once, they never grow again, since the next follow from these alone.
-- 3. So within as many steps as there are elements either they stood still, or all elements are there (the argument of the pigeon holes); longer walks reach nothing more.
-- 4. Walks of up to m steps, united with their products, are those of up to 2 m steps: this is what repeated squaring does.
use Rattle.std.proofs.Common.{◌≡◌, ◌<◌, ◌≤◌, ◌⊎◌, ◌+◌, ◌-◌, ◌&&◌, ◌||◌, eqb, zero, suc, cond, ℕ, Bool, true, false, refl, sym, subst, ◌∙◌, inl, inr, arith}
use Rattle.std.proofs.lemmas.Bool.{cases_Bool, cases_eq, cases_lt, or_cases, or_left, or_right, and_parts, and_from, eqb-true, eq-eqb, false≢true}
use Rattle.rel_model.specs.Relation.{Relation, has}
use Rattle.rel_model.specs.Cells.{some_below}
use Rattle.rel_model.specs.Operators.{union, compose, identity}
use Rattle.rel_model.specs.Choice.{count_below}
use Rattle.rel_model.specs.Closures.{walk, walks_within, transitive_closure, reflexive_closure, IsWithin}
use Rattle.rel_model.specs.Algebra.{HasType, ClosureLaws}
use Rattle.rel_model.proofs.Somes.{Passes, some_from, some_passes, some_weaker}
use Rattle.rel_model.proofs.Members.{Inside, inside, type-test, in_test, from_test, one_relation, type-union, in_union, left_union, right_union, type-compose, in_compose, from_compose, type-identity, in_identity, from_identity}

-- ---- how many numbers pass
count-weaker : (n : ℕ) (t u : ℕ → Bool) → ((k : ℕ) → k < n → t k ≡ true → u k ≡ true) → count_below n t ≤ count_below n u
count-weaker zero t u f = omega arith
count-weaker (suc n) t u f =
    let i = count-weaker n t u (λ k l. f k (omega (arith, l))) in
    elim (cases_Bool (t n)) [
      | inl e ↦ let g = f n (omega arith) e in rw (e, g) (omega (arith, i))
      | inr e ↦ elim (cases_Bool (u n)) [ inl g ↦ rw (e, g) (omega (arith, i)) | inr g ↦ rw (e, g) (omega (arith, i)) ]
    ]

-- of two tests of which one passes wherever the other does, either they agree or more numbers pass
count-more : (n : ℕ) (t u : ℕ → Bool) → ((k : ℕ) → k < n → t k ≡ true → u k ≡ true) → ((k : ℕ) → k < n → u k ≡ true → t k ≡ true) ⊎ (count_below n t < count_below n u)
count-more zero t u f = inl (λ k l h. absurd (omega (arith, l)))
count-more (suc n) t u f = elim (count-more n t u (λ k l. f k (omega (arith, l)))) [
  | inl same ↦ elim (cases_Bool (t n)) [
    | inl e ↦ inl (λ k l h. below k l (λ g. subst (λ (x : ℕ). t x ≡ true) (sym g) e) (λ m. same k m h))
    | inr e ↦ elim (cases_Bool (u n)) [
      | inl g ↦ inr (let i = count-weaker n t u (λ k l. f k (omega (arith, l))) in rw (e, g) (omega (arith, i)))
      | inr g ↦ inl (λ k l h. below k l (λ w. absurd (false≢true (sym (subst (λ (x : ℕ). u x ≡ false) (sym w) g) ∙ h))) (λ m. same k m h))
    ]
  ]
  | inr more ↦ elim (cases_Bool (t n)) [
    | inl e ↦ inr (let g = f n (omega arith) e in rw (e, g) (omega (arith, more)))
    | inr e ↦ elim (cases_Bool (u n)) [ inl g ↦ inr (rw (e, g) (omega (arith, more))) | inr g ↦ inr (rw (e, g) (omega (arith, more))) ]
  ]
]
  where
    below : (k : ℕ) → k < suc n → {P : Type 0} → (k ≡ n → P) → (k < n → P) → P
    below k l f g = elim (cases_eq k n) [ inl e ↦ f e | inr e ↦ g (omega (arith, l, e)) ]

count-most : (n : ℕ) (t : ℕ → Bool) → count_below n t ≤ n
count-most zero t = omega arith
count-most (suc n) t = let i = count-most n t in elim (cases_Bool (t n)) [ inl e ↦ rw e (omega (arith, i)) | inr e ↦ rw e (omega (arith, i)) ]

-- where as many pass as there are, all do
count-all : (n : ℕ) (t : ℕ → Bool) → n ≤ count_below n t → (k : ℕ) → k < n → t k ≡ true
count-all zero t h k l = absurd (omega (arith, l))
count-all (suc n) t h k l = elim (cases_Bool (t n)) [
  | inl e ↦ elim (cases_eq k n) [
    | inl g ↦ subst (λ (x : ℕ). t x ≡ true) (sym g) e
    | inr g ↦ count-all n t (let h' : suc n ≤ count_below n t + 1 = subst (λ b. suc n ≤ count_below n t + cond b 1 0) e h in omega (arith, h')) k (omega (arith, l, g))
  ]
  | inr e ↦ absurd (let h' : suc n ≤ count_below n t + 0 = subst (λ b. suc n ≤ count_below n t + cond b 1 0) e h in let m = count-most n t in omega (arith, h', m))
]

-- ---- walks
-- the first step of a walk of more
record Step (r : Relation) (k x y : ℕ) : Type 0 where
  at : ℕ
  first : has r x at ≡ true
  rest : walk r (suc k) at y ≡ true

step_in : (r : Relation) (k x y : ℕ) → walk r (suc (suc k)) x y ≡ true → Step r k x y
step_in r k x y h =
    let p = some_passes r.cols (λ z. has r x z && walk r (suc k) z y) h in
    let q = and_parts _ _ p.passes in
    record { at = p.at; first = q.0; rest = q.1 }

step_from : (n : ℕ) (r : Relation) → HasType n n r → (k x z y : ℕ) → has r x z ≡ true → walk r (suc k) z y ≡ true → walk r (suc (suc k)) x y ≡ true
step_from n r t k x z y h g =
    let w = inside n n r t x z h in
    some_from r.cols (λ z. has r x z && walk r (suc k) z y) z (subst (λ (c : ℕ). z < c) (sym t.col_size) w.col) (and_from _ _ h g)

walk_inside : (n : ℕ) (r : Relation) → HasType n n r → (k x y : ℕ) → walk r (suc k) x y ≡ true → Inside n n x y
walk_inside n r t zero x y h = inside n n r t x y h
walk_inside n r t (suc k) x y h =
    let s = step_in r k x y h in
    let v = inside n n r t x s.at s.first in
    let w = walk_inside n r t k s.at y s.rest in
    record { row = v.row; col = w.col }

joined : (n : ℕ) (r : Relation) → HasType n n r → (a b x z y : ℕ) → walk r (suc a) x z ≡ true → walk r (suc b) z y ≡ true → walk r (suc (suc (a + b))) x y ≡ true
joined n r t zero b x z y h g = subst (λ (c : ℕ). walk r (suc (suc c)) x y ≡ true) (let e : b ≡ 0 + b = omega arith in e) (step_from n r t b x z y h g)
joined n r t (suc a) b x z y h g =
    let s = step_in r a x z h in
    subst (λ (c : ℕ). walk r (suc (suc c)) x y ≡ true) (let e : suc (a + b) ≡ suc a + b = omega arith in e) (step_from n r t (suc (a + b)) x s.at y s.first (joined n r t a b s.at z y s.rest g))

record Middle (r : Relation) (a b x y : ℕ) : Type 0 where
  at : ℕ
  first : walk r (suc a) x at ≡ true
  second : walk r (suc b) at y ≡ true

-- a walk of a + b + 2 steps is cut after its first a + 1 steps: by induction on a, one step taken off at a time
split : (n : ℕ) (r : Relation) → HasType n n r → (a b x y : ℕ) → walk r (suc (suc (a + b))) x y ≡ true → Middle r a b x y
split n r t zero b x y h =
    let s = step_in r b x y (subst (λ (c : ℕ). walk r (suc (suc c)) x y ≡ true) (let e : 0 + b ≡ b = omega arith in e) h) in
    record { at = s.at; first = s.first; second = s.rest }
split n r t (suc a) b x y h =
    let s = step_in r (suc (a + b)) x y (subst (λ (c : ℕ). walk r (suc (suc c)) x y ≡ true) (let e : suc a + b ≡ suc (a + b) = omega arith in e) h) in
    let m = split n r t a b s.at y s.rest in
    record { at = m.at; first = step_from n r t a x s.at m.at s.first m.first; second = m.second }

-- ---- longer walks reach nothing more
module _ (n : ℕ) (r : Relation) (t : HasType n n r) (y : ℕ) where
  -- whether y is reached from x within k steps
  abbrev reaches : ℕ → ℕ → Bool
  reaches k x = some_below k (λ j. walk r (suc j) x y)

  reaches-more : (k : ℕ) (x : ℕ) → reaches k x ≡ true → reaches (suc k) x ≡ true
  reaches-more k x h = or_right (walk r (suc k) x y) (reaches k x) h

  reaches-inside : (k x : ℕ) → reaches k x ≡ true → x < n
  reaches-inside k x h = let p = some_passes k (λ j. walk r (suc j) x y) h in (walk_inside n r t p.at x y p.passes).row

  -- a step before
  reaches-step : (k x z : ℕ) → has r x z ≡ true → reaches k z ≡ true → reaches (suc k) x ≡ true
  reaches-step k x z h g =
      let p = some_passes k (λ j. walk r (suc j) z y) g in
      some_from (suc k) (λ j. walk r (suc j) x y) (suc p.at) (let l = p.within in omega (arith, l)) (step_from n r t p.at x z y h p.passes)

  -- the elements do not grow from k to k + 1 steps
  abbrev Settled : ℕ → Type 0
  Settled k = (x : ℕ) → reaches (suc k) x ≡ true → reaches k x ≡ true

  settled-next : (k : ℕ) → Settled k → Settled (suc k)
  settled-next k s x h = by_place (some_passes (suc (suc k)) (λ j. walk r (suc j) x y) h)
    where
      by_steps : (j : ℕ) → j < suc (suc k) → walk r (suc j) x y ≡ true → reaches (suc k) x ≡ true
      by_steps zero l g = some_from (suc k) (λ j. walk r (suc j) x y) 0 (omega arith) g
      by_steps (suc j) l g =
          let p = step_in r j x y g in
          reaches-step k x p.at p.first (s p.at (some_from (suc k) (λ i. walk r (suc i) p.at y) j (omega (arith, l)) p.rest))

      by_place : Passes (suc (suc k)) (λ j. walk r (suc j) x y) → reaches (suc k) x ≡ true
      by_place p = by_steps p.at p.within p.passes

  settled-on : (k i : ℕ) → Settled k → (x : ℕ) → reaches (k + i) x ≡ true → reaches k x ≡ true
  settled-on k zero s x h = subst (λ (c : ℕ). reaches c x ≡ true) (let e : k + 0 ≡ k = omega arith in e) h
  settled-on k (suc i) s x h =
      s x (settled-on (suc k) i (settled-next k s) x (subst (λ (c : ℕ). reaches c x ≡ true) (let e : k + suc i ≡ suc k + i = omega arith in e) h))

  -- either they stood still before k, or there are at least k
  record StoodStill (k : ℕ) : Type 0 where
    at : ℕ
    before : at < k
    settled : Settled at

  grows : (k : ℕ) → StoodStill k ⊎ (k ≤ count_below n (reaches k))
  grows zero = inr (omega arith)
  grows (suc k) = elim (grows k) [
    | inl s ↦ inl (record { at = s.at; before = (let l = s.before in omega (arith, l)); settled = s.settled })
    | inr many ↦ elim (count-more n (reaches k) (reaches (suc k)) (λ x l h. reaches-more k x h)) [
      | inl same ↦ inl (record { at = k; before = omega arith; settled = λ x h. same x (reaches-inside (suc k) x h) h })
      | inr more ↦ inr (omega (arith, many, more))
    ]
  ]

  reaches-up : (k i x : ℕ) → reaches k x ≡ true → reaches (k + i) x ≡ true
  reaches-up k i x h = some_weaker k (k + i) (λ j. walk r (suc j) x y) (λ j. walk r (suc j) x y) (λ j l g. (omega (arith, l), g)) h

  -- as many steps as there are elements are enough
  enough : (k x : ℕ) → reaches k x ≡ true → reaches n x ≡ true
  enough k x h = elim (grows n) [
    | inl s ↦ let l = s.before in
        let g : reaches s.at x ≡ true = settled-on s.at k s.settled x (subst (λ (c : ℕ). reaches c x ≡ true) (let e : k + s.at ≡ s.at + k = omega arith in e) (reaches-up k s.at x h)) in
        subst (λ (c : ℕ). reaches c x ≡ true) (let e : s.at + (n - s.at) ≡ n = omega (arith, l) in e) (reaches-up s.at (n - s.at) x g)
    | inr all ↦ count-all n (reaches n) all x (reaches-inside k x h)
  ]

-- ---- relations of walks
pub type-walks : (n m : ℕ) (r : Relation) → HasType n n r → HasType n n (walks_within m r)
unfolding walks_within
type-walks n m r t = type-test r.rows r.cols n n _ t.row_size t.col_size

in_walks : (m : ℕ) (r : Relation) (x y : ℕ) → has (walks_within m r) x y ≡ true → some_below m (λ k. walk r (suc k) x y) ≡ true
unfolding walks_within
in_walks m r x y h = in_test r.rows r.cols r.rows r.cols (λ x y. some_below m (λ k. walk r (suc k) x y)) refl refl x y h

from_walks : (n m : ℕ) (r : Relation) → HasType n n r → (x y k : ℕ) → k < m → walk r (suc k) x y ≡ true → has (walks_within m r) x y ≡ true
unfolding walks_within
from_walks n m r t x y k l h =
    let w = walk_inside n r t k x y h in
    from_test r.rows r.cols n n _ t.row_size t.col_size x y w.row w.col (some_from m _ k l h)

-- the walks of one step
pub walks_within-one : (n : ℕ) (r : Relation) → HasType n n r → walks_within 1 r ≡ r
walks_within-one n r t = one_relation n n (walks_within 1 r) r (type-walks n 1 r t) t
    (λ x y h. elim (or_cases (has r x y) false (in_walks 1 r x y h)) [ inl e ↦ e | inr e ↦ absurd (false≢true e) ])
    (λ x y h. from_walks n 1 r t x y 0 (omega arith) h)

-- the walks of up to m steps and their products
pub walks_within-double : (n m : ℕ) (r : Relation) → HasType n n r → 0 < m → union (walks_within m r) (compose (walks_within m r) (walks_within m r)) ≡ walks_within (m + m) r
walks_within-double n m r t z =
    let w = walks_within m r in
    let tw = type-walks n m r t in
    let tc = type-compose n n n w w tw tw in
    one_relation n n _ _ (type-union n n w (compose w w) tw) (type-walks n (m + m) r t)
    (λ x y h. elim (in_union n n w (compose w w) tw x y h) [
      | inl a ↦ let p = some_passes m _ (in_walks m r x y a) in let l = p.within in from_walks n (m + m) r t x y p.at (omega (arith, l)) p.passes
      | inr b ↦ let q = in_compose w w x y b in
          let p = some_passes m _ (in_walks m r x q.at q.first) in
          let s = some_passes m _ (in_walks m r q.at y q.second) in
          let k = p.within in
          let l = s.within in
          from_walks n (m + m) r t x y (suc (p.at + s.at)) (omega (arith, k, l)) (joined n r t p.at s.at x q.at y p.passes s.passes)
    ])
    (λ x y h. by_steps tw tc x y (some_passes (m + m) _ (in_walks (m + m) r x y h)))
  where
    by_steps : HasType n n (walks_within m r) → HasType n n (compose (walks_within m r) (walks_within m r)) → (x y : ℕ) → Passes (m + m) (λ k. walk r (suc k) x y) → has (union (walks_within m r) (compose (walks_within m r) (walks_within m r))) x y ≡ true
    by_steps tw tc x y p = elim (cases_lt p.at m) [
      | inl l ↦ left_union n n (walks_within m r) (compose (walks_within m r) (walks_within m r)) tw x y (from_walks n m r t x y p.at l p.passes)
      | inr g ↦ let u = p.within in
          let e : p.at ≡ suc ((m - 1) + (p.at - m)) = omega (arith, z, g) in
          let q = split n r t (m - 1) (p.at - m) x y (subst (λ (c : ℕ). walk r (suc c) x y ≡ true) e p.passes) in
          right_union n n (walks_within m r) (compose (walks_within m r) (walks_within m r)) tw tc x y
          (from_compose n n n (walks_within m r) (walks_within m r) tw tw x q.at y (from_walks n m r t x q.at (m - 1) (omega (arith, z)) q.first) (from_walks n m r t q.at y (p.at - m) (omega (arith, z, u, g)) q.second))
    ]

-- enough steps
pub walks_within-enough : (n m : ℕ) (r : Relation) → HasType n n r → n ≤ m → walks_within m r ≡ transitive_closure r
unfolding transitive_closure
walks_within-enough n m r t l = one_relation n n (walks_within m r) (walks_within r.rows r) (type-walks n m r t) (type-walks n r.rows r t)
    (λ x y h. let p = some_passes n _ (enough n r t y m x (in_walks m r x y h)) in from_walks n r.rows r t x y p.at (subst (λ (c : ℕ). p.at < c) (sym t.row_size) p.within) p.passes)
    (λ x y h. let p = some_passes r.rows _ (in_walks r.rows r x y h) in let b = p.within in let e = t.row_size in from_walks n m r t x y p.at (omega (arith, l, b, e)) p.passes)

-- ---- the laws
closed : (n : ℕ) (r : Relation) → HasType n n r → (x y k : ℕ) → walk r (suc k) x y ≡ true → has (transitive_closure r) x y ≡ true
closed n r t x y k h = subst (λ c. has c x y ≡ true) (walks_within-enough n (n + suc k) r t (omega arith)) (from_walks n (n + suc k) r t x y k (omega arith) h)

open_walk : (n : ℕ) (r : Relation) → HasType n n r → (x y : ℕ) → has (transitive_closure r) x y ≡ true → Passes n (λ k. walk r (suc k) x y)
open_walk n r t x y h = some_passes n _ (in_walks n r x y (subst (λ c. has c x y ≡ true) (sym (walks_within-enough n n r t (omega arith))) h))

pub type-closure : (n : ℕ) (r : Relation) → HasType n n r → HasType n n (transitive_closure r)
unfolding transitive_closure
type-closure n r t = type-walks n r.rows r t

stays_in : (n : ℕ) (r s : Relation) → HasType n n r → HasType n n s → IsWithin r s → IsWithin (compose s s) s → (k x y : ℕ) → walk r (suc k) x y ≡ true → has s x y ≡ true
stays_in n r s t u f g zero x y h = f x y h
stays_in n r s t u f g (suc k) x y h =
    let p = step_in r k x y h in
    g x y (from_compose n n n s s u u x p.at y (f x p.at p.first) (stays_in n r s t u f g k p.at y p.rest))

pub type-reflexive : (n : ℕ) (r : Relation) → HasType n n r → HasType n n (reflexive_closure r)
unfolding reflexive_closure
type-reflexive n r t = type-test r.rows r.cols n n _ t.row_size t.col_size

-- a relation united with the identity
pub reflexive-union : (n : ℕ) (r : Relation) → HasType n n r → reflexive_closure r ≡ union r (identity n)
unfolding reflexive_closure
reflexive-union n r t = one_relation n n _ _ (type-test r.rows r.cols n n _ t.row_size t.col_size) (type-union n n r (identity n) t)
    (λ i j h. let w = inside n n _ (type-test r.rows r.cols n n (λ i j. has r i j || eqb i j) t.row_size t.col_size) i j h in
    elim (or_cases (has r i j) (eqb i j) (in_test r.rows r.cols r.rows r.cols (λ i j. has r i j || eqb i j) refl refl i j h)) [
      | inl a ↦ left_union n n r (identity n) t i j a
      | inr b ↦ right_union n n r (identity n) t (type-identity n) i j (from_identity n i j w.row (eqb-true i j b))
    ])
    (λ i j h. let w = inside n n (union r (identity n)) (type-union n n r (identity n) t) i j h in
    from_test r.rows r.cols n n (λ i j. has r i j || eqb i j) t.row_size t.col_size i j w.row w.col (elim (in_union n n r (identity n) t i j h) [
      | inl a ↦ or_left (has r i j) (eqb i j) a
      | inr b ↦ or_right (has r i j) (eqb i j) (eq-eqb i j (in_identity n i j b))
    ]))

-- where twice as many steps join no more, all walks are there
pub walks_within-still : (n m : ℕ) (r : Relation) → HasType n n r → 0 < m → walks_within m r ≡ walks_within (m + m) r → walks_within m r ≡ transitive_closure r
walks_within-still n m r t z e =
    let w = walks_within m r in
    let tw = type-walks n m r t in
    let tc = type-compose n n n w w tw tw in
    let up : IsWithin (compose w w) w = (λ x y h. subst (λ c. has c x y ≡ true) (walks_within-double n m r t z ∙ sym e) (right_union n n w (compose w w) tw tc x y h)) in
    one_relation n n w (transitive_closure r) tw (type-closure n r t)
    (λ x y h. let p = some_passes m _ (in_walks m r x y h) in closed n r t x y p.at p.passes)
    (λ x y h. let p = open_walk n r t x y h in stays_in n r w t tw (λ a b g. from_walks n m r t a b 0 z g) up p.at x y p.passes)

-- the laws of closures: a pair is in the transitive closure exactly where a walk leads from one to the other, so joined
-- walks make it transitive, and each walk stays within a transitive relation over r
pub closure_laws : ClosureLaws
closure_laws = record {
  walks = λ n r t x y a b. ((λ h. let p = open_walk n r t x y h in record { steps = suc p.at; walks = p.passes }), (λ j. some_steps n r t x y j.steps j.walks));
  over = λ n r t x y h. closed n r t x y 0 h;
  transitive = λ n r t x y h. (let q = in_compose (transitive_closure r) (transitive_closure r) x y h in
      let p = open_walk n r t x q.at q.first in
      let s = open_walk n r t q.at y q.second in
      closed n r t x y (suc (p.at + s.at)) (joined n r t p.at s.at x q.at y p.passes s.passes));
  least = λ n r s t u f g x y h. (let p = open_walk n r t x y h in stays_in n r s t u f g p.at x y p.passes);
  reflexive = reflexive-union;
}
  where
    some_steps : (n : ℕ) (r : Relation) → HasType n n r → (x y k : ℕ) → walk r k x y ≡ true → has (transitive_closure r) x y ≡ true
    some_steps n r t x y zero h = absurd (false≢true h)
    some_steps n r t x y (suc k) h = closed n r t x y k h
