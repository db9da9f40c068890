-- Laws of classes: each element has one class, its number is how many least elements stand before the least of its
-- class, and the classes of an equivalence are those of its elements.
use Rattle.std.proofs.Common.{◌≡◌, ◌<◌, ◌≤◌, ◌+◌, ◌-◌, ◌↔◌, ◌&&◌, eqb, not, cond, ℕ, zero, suc, Bool, true, false, refl, sym, ap, subst, ◌∙◌, inl, inr, arith}
use Rattle.std.proofs.lemmas.Bool.{cases_Bool, cases_lt, and_parts, and_from, eqb-true, eq-eqb, not_from_false, false≢true}
use Rattle.rel_model.specs.Relation.{Relation, has}
use Rattle.rel_model.specs.Cells.{some_below}
use Rattle.rel_model.specs.Operators.{transpose, compose, differ}
use Rattle.rel_model.specs.Choice.{count_below}
use Rattle.rel_model.specs.Algebra.{HasType}
use Rattle.rel_model.specs.Orders.{same_column, leads, class_count, is_in_class, classes, IsEquivalence, ClassLaws}
use Rattle.rel_model.proofs.Somes.{same_truth, some_from, some_passes, some_none}
use Rattle.rel_model.proofs.Members.{inside, one_relation, type-test, in_test, from_test, none_at, alike, none_differ, type-transpose, in_transpose, from_transpose, type-compose, in_compose, from_compose}

-- ---- equal columns
same_at : (r : Relation) (x y : ℕ) → same_column r x y ≡ true → (i : ℕ) → i < r.rows → has r i x ≡ has r i y
same_at r x y h i l = alike (has r i x) (has r i y) (none_at r.rows (λ i. differ (has r i x) (has r i y)) h i l)

same_from : (r : Relation) (x y : ℕ) → ((i : ℕ) → i < r.rows → has r i x ≡ has r i y) → same_column r x y ≡ true
same_from r x y f = not_from_false _ (some_none r.rows _ (λ i l. none_differ (has r i x) (has r i y) (f i l)))

same_self : (r : Relation) (x : ℕ) → same_column r x x ≡ true
same_self r x = same_from r x x (λ i l. refl)

same_turned : (r : Relation) (x y : ℕ) → same_column r x y ≡ true → same_column r y x ≡ true
same_turned r x y h = same_from r y x (λ i l. sym (same_at r x y h i l))

same_through : (r : Relation) (x y z : ℕ) → same_column r x y ≡ true → same_column r y z ≡ true
    → same_column r x z ≡ true
same_through r x y z h g = same_from r x z (λ i l. same_at r x y h i l ∙ same_at r y z g i l)

-- ---- least elements
-- no element with this column stands before one that leads
before_leader : (r : Relation) (x y : ℕ) → leads r x ≡ true → same_column r y x ≡ true → y < x → ⊥
before_leader r x y h g l = false≢true (sym (none_at x (λ y. same_column r y x) h y l) ∙ g)

-- two that lead one class are one
one_leader : (r : Relation) (x y : ℕ) → leads r x ≡ true → leads r y ≡ true → same_column r x y ≡ true → x ≡ y
one_leader r x y h k g = elim (cases_lt x y) [
  | inl l ↦ absurd (before_leader r y x k g l)
  | inr l ↦ elim (cases_lt y x) [
    | inl m ↦ absurd (before_leader r x y h (same_turned r x y g) m)
    | inr m ↦ omega (arith, l, m)
  ]
]

-- the least of the class of an element
record Leader (r : Relation) (x : ℕ) : Type 0 where
  pub at : ℕ
  pub within : at ≤ x
  pub same : same_column r at x ≡ true
  pub leader : leads r at ≡ true

-- by how far the element stands from the front
leader_from : (r : Relation) (k x : ℕ) → x < k → Leader r x
leader_from r zero x l = absurd (omega (arith, l))
leader_from r (suc k) x l = elim (cases_Bool (leads r x)) [
  | inl e ↦ record { at = x; within = omega arith; same = same_self r x; leader = e }
  | inr e ↦
      let p = some_passes x (λ y. same_column r y x) (lead_or (some_below x (λ y. same_column r y x)) e) in
      let d = leader_from r k p.at (omega (arith, l, p.within)) in
      record {
        at = d.at;
        within = omega
            (arith, d.within, p.within);
        same = same_through r d.at p.at x d.same p.passes;
        leader = d.leader;
      }
]
  where
    lead_or : (b : Bool) → not b ≡ false → b ≡ true
    lead_or true e = refl
    lead_or false e = absurd (false≢true (sym e))

leader_of : (r : Relation) (x : ℕ) → Leader r x
leader_of r x = leader_from r (suc x) x (omega arith)

-- ---- numbers
-- counts grow, and at a number that passes they grow by one
count_more : (t : ℕ → Bool) (m k : ℕ) → count_below m t ≤ count_below (m + k) t
count_more t m zero = let e : count_below m t ≡ count_below (m + 0) t = ap (λ n. count_below n t)
    (let z : m ≡ m + 0 = omega arith in z) in omega (arith, e)
count_more t m (suc k) =
    let i = count_more t m k in
    let e : count_below (suc (m + k)) t ≡ count_below (m + suc k) t = ap (λ n. count_below n t)
    (let z : suc (m + k) ≡ m + suc k = omega arith in z) in
    omega (arith, i, e)

count_up : (t : ℕ → Bool) (m n : ℕ) → m < n → t m ≡ true → count_below m t < count_below n t
count_up t m n l h =
    let a : count_below (suc m) t ≡ count_below m t + 1 = ap (λ b. count_below m t + cond b 1 0) h in
    let k : ℕ = n - suc m in
    let b = count_more t (suc m) k in
    let e : count_below (suc m + k) t ≡ count_below n t = ap (λ n. count_below n t)
    (let z : suc m + k ≡ n = omega (arith, l) in z) in
    omega (arith, a, b, e)

-- two that pass with one number are one
one_number : (t : ℕ → Bool) (x y : ℕ) → t x ≡ true → t y ≡ true → count_below x t ≡ count_below y t → x ≡ y
one_number t x y h g e = elim (cases_lt x y) [
  | inl l ↦ (let u = count_up t x y l h in absurd (omega (arith, u, e)))
  | inr l ↦ elim (cases_lt y x) [
    | inl m ↦ (let u = count_up t y x m g in absurd (omega (arith, u, e)))
    | inr m ↦ omega (arith, l, m)
  ]
]

-- ---- classes
pub type-classes : (n : ℕ) (r : Relation) → HasType n n r → HasType n (class_count r) (classes r)
unfolding classes
type-classes n r t = type-test r.rows (class_count r) n (class_count r) _ t.row_size refl

-- what it is to be in a class
record InClass (r : Relation) (x k : ℕ) : Type 0 where
  pub at : ℕ
  pub same : same_column r at x ≡ true
  pub leader : leads r at ≡ true
  pub number : count_below at (leads r) ≡ k

in_class : (n : ℕ) (r : Relation) → HasType n n r → (x k : ℕ) → has (classes r) x k ≡ true → InClass r x k
unfolding classes
in_class n r t x k h =
    let p = some_passes r.rows (λ e. same_column r e x && (leads r e && eqb (count_below e (leads r)) k))
    (in_test r.rows (class_count r) n (class_count r) (λ x k. is_in_class r x k) t.row_size refl x k h) in
    let a = and_parts _ _ p.passes in
    let b = and_parts _ _ a.1 in
    record { at = p.at; same = a.0; leader = b.0; number = eqb-true _ _ b.1 }

from_class : (n : ℕ) (r : Relation) → HasType n n r → (x : ℕ) → x < n → (e : ℕ) → e < n → same_column r e x ≡ true
    → leads r e ≡ true → has (classes r) x (count_below e (leads r)) ≡ true
unfolding classes
from_class n r t x l e m s h =
    let w : e < r.rows = subst (λ (k : ℕ). e < k) (sym t.row_size) m in
    from_test r.rows (class_count r) n (class_count r) (λ x k. is_in_class r x k) t.row_size refl x
    (count_below e (leads r)) l (count_up (leads r) e r.rows w h)
    (some_from r.rows _ e w (and_from _ _ s (and_from _ _ h (eq-eqb _ _ refl))))

module _ (n : ℕ) (r : Relation) (q : IsEquivalence n r) where
  -- the columns of two equivalent elements are equal, and only those
  columns_from : (x y : ℕ) → has r x y ≡ true → same_column r x y ≡ true
  columns_from x y h = same_from r x y (λ i l. same_truth (has r i x) (has r i y) (λ g. q.transitive i x y g h)
      (λ g. q.transitive i y x g (q.symmetric x y h)))

  pair_from : (x y : ℕ) → x < n → same_column r x y ≡ true → has r x y ≡ true
  pair_from x y l h = sym (same_at r x y h x (subst (λ (k : ℕ). x < k) (sym q.type.row_size) l)) ∙ q.reflexive x l

  class_of : (x : ℕ) → x < n → (k : ℕ) × (has (classes r) x k ≡ true)
  class_of x l = let d = leader_of r x in (
    count_below d.at (leads r),
    from_class n r q.type x l d.at
        (omega (arith, d.within, l)) d.same d.leader,
  )

  one_class : (x k l : ℕ) → has (classes r) x k ≡ true → has (classes r) x l ≡ true → k ≡ l
  one_class x k l h g =
      let a = in_class n r q.type x k h in
      let b = in_class n r q.type x l g in
      let e = one_leader r a.at b.at a.leader b.leader
      (same_through r a.at x b.at a.same (same_turned r b.at x b.same)) in
      sym a.number ∙ ap (λ z. count_below z (leads r)) e ∙ b.number

  -- y is in the class of x exactly where the two are related: a class has one leader, and all its elements have the
  -- leader's column
  class_pairs : (x y k : ℕ) → has (classes r) x k ≡ true → (has (classes r) y k ≡ true) ↔ (has r x y ≡ true)
  class_pairs x y k h =
      let c = type-classes n r q.type in
      let w = inside n (class_count r) (classes r) c x k h in
      let a = in_class n r q.type x k h in (
        (λ g. let b = in_class n r q.type y k g in
            let e = one_number (leads r) a.at b.at a.leader b.leader (a.number ∙ sym b.number) in
            pair_from x y w.row (same_through r x a.at y (same_turned r a.at x a.same)
            (subst (λ (z : ℕ). same_column r z y ≡ true) (sym e) b.same))),
        (λ g. let v = inside n n r q.type x y g in
            let l : a.at < n = within_rows a.at a.leader a.same (inside n (class_count r) (classes r) c x k h).row in
            subst (λ (z : ℕ). has (classes r) y z ≡ true) a.number
            (from_class n r q.type y v.col a.at l (same_through r a.at x y a.same (columns_from x y g)) a.leader)),
      )
    where
      -- one that leads the class of an element stands no later
      within_rows : (e : ℕ) → leads r e ≡ true → same_column r e x ≡ true → x < n → e < n
      within_rows e h s l = elim (cases_lt x e) [
        | inl m ↦ absurd (before_leader r e x h (same_turned r e x s) m)
        | inr m ↦ omega (arith, m, l)
      ]

  class_product : compose (classes r) (transpose (classes r)) ≡ r
  class_product =
      let c = type-classes n r q.type in
      let d = type-transpose n (class_count r) (classes r) c in
      one_relation n n _ _ (type-compose n (class_count r) n (classes r) (transpose (classes r)) c d) q.type
      (λ x y h. let p = in_compose (classes r) (transpose (classes r)) x y h in (class_pairs x y p.at p.first).0
      (in_transpose (classes r) p.at y p.second))
      (λ x y h. let v = inside n n r q.type x y h in let k = class_of x v.row in
      from_compose n (class_count r) n (classes r) (transpose (classes r)) c d x k.0 y k.1
      (from_transpose n (class_count r) (classes r) c k.0 y ((class_pairs x y k.0 k.1).1 h)))

-- the number of a class goes by its least element
class_number : (n : ℕ) (r : Relation) → HasType n n r → (x k : ℕ) → leads r x ≡ true → has (classes r) x k ≡ true
    → count_below x (leads r) ≡ k
class_number n r t x k h g =
    let a = in_class n r t x k g in
    let e = one_leader r a.at x a.leader h a.same in
    sym (ap (λ z. count_below z (leads r)) e) ∙ a.number

class_order : (n : ℕ) (r : Relation) → IsEquivalence n r → (x y k l : ℕ) → x < y → leads r x ≡ true → leads r y ≡ true
    → has (classes r) x k ≡ true → has (classes r) y l ≡ true → k < l
class_order n r q x y k l m h g a b =
    let u = count_up (leads r) x y m h in
    let c = class_number n r q.type x k h a in
    let d = class_number n r q.type y l g b in
    omega (arith, u, c, d)

pub class_laws : ClassLaws
class_laws = record {
  some = class_of;
  one = one_class;
  pairs = class_pairs;
  ordered = class_order;
  product = class_product;
}
