-- Laws of relations whose rows have one column each, and of membership.
-- 1. Two functions with one range meet where their values are one; two with one source join the values of each element.
-- 2. Projections: a number is its quotient and its remainder.
-- 3. Injections: a number is below x or x more than one below y.
-- 4. Membership: a number below 2 ^ x is known by its first x bits.
use Rattle.std.proofs.Common.{◌≡◌, ◌≢◌, ◌<◌, ◌≤◌, ◌+◌, ◌-◌, ◌*◌, ◌/◌, ◌%◌, ◌^◌, ◌∙◌, eqb, ℕ, Bool, true, false, refl, sym, ap, subst, arith, zero, suc, inl, inr}
use Rattle.std.specs.Int.{bit_at}
use Rattle.std.proofs.lemmas.Bool.{cases_lt, eqb-true, eq-eqb, false≢true}
use Rattle.std.proofs.lemmas.Bool.Decides.{nat_tests}
use Rattle.std.proofs.lemmas.Nat.{div_below, mod_below, div-mul-add, mod-mul-add, div-add-mod', mul-le}
use Rattle.std.proofs.lemmas.Nat.Bits.{bit_at-lt, same_from_bits_below}
use Rattle.rel_model.specs.Relation.{Relation, has, relation_of}
use Rattle.rel_model.specs.Operators.{empty, full, union, inter, transpose, compose, symmetric_quotient, identity}
use Rattle.rel_model.specs.Algebra.{HasType}
use Rattle.rel_model.specs.Domains.{first_projection, second_projection, left_injection, right_injection, membership}
use Rattle.rel_model.proofs.Relations.{has-relation_of}
use Rattle.rel_model.proofs.Members.{inside, type-test, in_test, from_test, one_relation, type-union, in_union, left_union, right_union, type-inter, in_inter, from_inter, type-transpose, in_transpose, from_transpose, type-compose, in_compose, from_compose, type-identity, in_identity, from_identity, type-quotient, in_quotient, from_quotient}
use Rattle.rel_domains.specs.Laws.{ProjectionLaws, InjectionLaws, MembershipLaw}

-- ---- functions
-- each row i of the first m has column f i of n
pub record IsMap (m n : ℕ) (f : ℕ → ℕ) (r : Relation) : Type 0 where
  pub type : HasType m n r
  pub value : (i j : ℕ) → has r i j ≡ true → f i ≡ j
  pub has_value : (i : ℕ) → i < m → f i < n → has r i (f i) ≡ true

map_of : (m n : ℕ) (f : ℕ → ℕ) (t : ℕ → ℕ → Bool) → ((i j : ℕ) → t i j ≡ true → f i ≡ j) → ((i : ℕ) → t i (f i) ≡ true) → IsMap m n f (relation_of m n t)
map_of m n f t is of = record {
  type = type-test m n m n t refl refl;
  value = λ i j h. is i j (in_test m n m n t refl refl i j h);
  has_value = λ i a b. from_test m n m n t refl refl i (f i) a b (of i);
}

-- functions with one range
module _ (m n p : ℕ) (f g : ℕ → ℕ) (r s : Relation) (a : IsMap m n f r) (b : IsMap p n g s) where
  meet_type : HasType m p (compose r (transpose s))
  meet_type = type-compose m n p r (transpose s) a.type (type-transpose p n s b.type)

  in_meet : (i k : ℕ) → has (compose r (transpose s)) i k ≡ true → f i ≡ g k
  in_meet i k h = let w = in_compose r (transpose s) i k h in a.value i w.at w.first ∙ sym (b.value k w.at (in_transpose s w.at k w.second))

  from_meet : (i k : ℕ) → i < m → k < p → f i < n → f i ≡ g k → has (compose r (transpose s)) i k ≡ true
  from_meet i k u v l e =
      let h = subst (λ j. has s k j ≡ true) (sym e) (b.has_value k v (subst (λ j. j < n) e l)) in
      from_compose m n p r (transpose s) a.type (type-transpose p n s b.type) i (f i) k (a.has_value i u l) (from_transpose p n s b.type (f i) k h)

-- functions with one source
record Common (m : ℕ) (f g : ℕ → ℕ) (j l : ℕ) : Type 0 where
  at : ℕ
  within : at < m
  first : f at ≡ j
  second : g at ≡ l

module _ (m n p : ℕ) (f g : ℕ → ℕ) (r s : Relation) (a : IsMap m n f r) (b : IsMap m p g s) where
  join_type : HasType n p (compose (transpose r) s)
  join_type = type-compose n m p (transpose r) s (type-transpose m n r a.type) b.type

  in_join : (j l : ℕ) → has (compose (transpose r) s) j l ≡ true → Common m f g j l
  in_join j l h =
      let w = in_compose (transpose r) s j l h in
      let q = inside m p s b.type w.at l w.second in
      record { at = w.at; within = q.row; first = a.value w.at j (in_transpose r j w.at w.first); second = b.value w.at l w.second }

  from_join : (i j l : ℕ) → i < m → j < n → l < p → f i ≡ j → g i ≡ l → has (compose (transpose r) s) j l ≡ true
  from_join i j l u v w e h =
      let x = subst (λ k. has r i k ≡ true) e (a.has_value i u (subst (λ k. k < n) (sym e) v)) in
      let y = subst (λ k. has s i k ≡ true) h (b.has_value i u (subst (λ k. k < p) (sym h) w)) in
      from_compose n m p (transpose r) s (type-transpose m n r a.type) b.type j i l (from_transpose m n r a.type j i x) y

-- ---- the empty and the full relation
empty_type : (m n : ℕ) → HasType m n (empty m n)
unfolding empty
empty_type m n = type-test m n m n (λ i j. false) refl refl

in_empty : (m n i j : ℕ) → has (empty m n) i j ≡ true → ⊥
unfolding empty
in_empty m n i j h = false≢true (in_test m n m n (λ i j. false) refl refl i j h)

full_type : (m n : ℕ) → HasType m n (full m n)
unfolding full
full_type m n = type-test m n m n (λ i j. true) refl refl

from_full : (m n i j : ℕ) → i < m → j < n → has (full m n) i j ≡ true
unfolding full
from_full m n i j a b = from_test m n m n (λ i j. true) refl refl i j a b refl

-- ---- projections
first_map : (x y : ℕ) → IsMap (x * y) x (λ p. p / y) (first_projection x y)
unfolding first_projection
first_map x y = map_of (x * y) x (λ p. p / y) (λ p i. eqb (p / y) i) (λ p i h. eqb-true (p / y) i h) (λ p. eq-eqb (p / y) (p / y) refl)

second_map : (x y : ℕ) → IsMap (x * y) y (λ p. p % y) (second_projection x y)
unfolding second_projection
second_map x y = map_of (x * y) y (λ p. p % y) (λ p j. eqb (p % y) j) (λ p j h. eqb-true (p % y) j h) (λ p. eq-eqb (p % y) (p % y) refl)

some_second : (x y p : ℕ) → p < x * y → 0 < y
some_second x zero p l = absurd (let e : x * 0 ≡ 0 = omega arith in omega (arith, e, l))
some_second x (suc y) p l = omega arith

-- the number of a pair
number_below : (x y i j : ℕ) → i < x → j < y → i * y + j < x * y
number_below x y i j a b = let p : (i + 1) * y ≤ x * y = mul-le (i + 1) y x y (omega arith) (omega arith) in omega (arith, p)

module _ (x y : ℕ) where
  abbrev p : Relation
  p = first_projection x y

  abbrev q : Relation
  q = second_projection x y

  -- the two projections tell a pair apart from all others: a number is known by its quotient and its remainder
  faithful_law : inter (compose p (transpose p)) (compose q (transpose q)) ≡ identity (x * y)
  faithful_law = one_relation (x * y) (x * y) (inter (compose p (transpose p)) (compose q (transpose q))) (identity (x * y)) (type-inter (x * y) (x * y) (compose p (transpose p)) (compose q (transpose q)) first_type) (type-identity (x * y))
      (λ i k h.
      let w = in_inter (x * y) (x * y) (compose p (transpose p)) (compose q (transpose q)) first_type i k h in
      let b = inside (x * y) (x * y) (compose p (transpose p)) first_type i k w.0 in
      let d = in_meet (x * y) x (x * y) (λ n. n / y) (λ n. n / y) p p (first_map x y) (first_map x y) i k w.0 in
      let m = in_meet (x * y) y (x * y) (λ n. n % y) (λ n. n % y) q q (second_map x y) (second_map x y) i k w.1 in
      from_identity (x * y) i k b.row (sym (div-add-mod' i y) ∙ ap (λ n. n * y + i % y) d ∙ ap (λ n. k / y * y + n) m ∙ div-add-mod' k y))
      (λ i k h.
      let e = in_identity (x * y) i k h in
      let b = inside (x * y) (x * y) (identity (x * y)) (type-identity (x * y)) i k h in
      let s = some_second x y i b.row in
      from_inter (x * y) (x * y) (compose p (transpose p)) (compose q (transpose q)) first_type i k
      (from_meet (x * y) x (x * y) (λ n. n / y) (λ n. n / y) p p (first_map x y) (first_map x y) i k b.row b.col (div_below i y x s b.row) (ap (λ n. n / y) e))
      (from_meet (x * y) y (x * y) (λ n. n % y) (λ n. n % y) q q (second_map x y) (second_map x y) i k b.row b.col (mod_below i y s) (ap (λ n. n % y) e)))
    where
      first_type : HasType (x * y) (x * y) (compose p (transpose p))
      first_type = meet_type (x * y) x (x * y) (λ n. n / y) (λ n. n / y) p p (first_map x y) (first_map x y)

  first_onto_law : y ≢ 0 → compose (transpose p) p ≡ identity x
  first_onto_law s = one_relation x x (compose (transpose p) p) (identity x) (join_type (x * y) x x (λ n. n / y) (λ n. n / y) p p (first_map x y) (first_map x y)) (type-identity x)
      (λ i k h.
      let c = in_join (x * y) x x (λ n. n / y) (λ n. n / y) p p (first_map x y) (first_map x y) i k h in
      let b = inside x x (compose (transpose p) p) (join_type (x * y) x x (λ n. n / y) (λ n. n / y) p p (first_map x y) (first_map x y)) i k h in
      from_identity x i k b.row (sym c.first ∙ c.second))
      (λ i k h.
      let e = in_identity x i k h in
      let b = inside x x (identity x) (type-identity x) i k h in
      let v = div-mul-add i y 0 (omega (arith, s)) in
      from_join (x * y) x x (λ n. n / y) (λ n. n / y) p p (first_map x y) (first_map x y) (i * y + 0) i k (number_below x y i 0 b.row (omega (arith, s))) b.row b.col v (v ∙ e))

  first_none_law : y ≡ 0 → compose (transpose p) p ≡ empty x x
  first_none_law z = one_relation x x (compose (transpose p) p) (empty x x) (join_type (x * y) x x (λ n. n / y) (λ n. n / y) p p (first_map x y) (first_map x y)) (empty_type x x)
      (λ i k h.
      let c = in_join (x * y) x x (λ n. n / y) (λ n. n / y) p p (first_map x y) (first_map x y) i k h in
      let s = some_second x y c.at c.within in
      absurd (omega (arith, s, z)))
      (λ i k h. absurd (in_empty x x i k h))

  second_onto_law : x ≢ 0 → compose (transpose q) q ≡ identity y
  second_onto_law s = one_relation y y (compose (transpose q) q) (identity y) (join_type (x * y) y y (λ n. n % y) (λ n. n % y) q q (second_map x y) (second_map x y)) (type-identity y)
      (λ j k h.
      let c = in_join (x * y) y y (λ n. n % y) (λ n. n % y) q q (second_map x y) (second_map x y) j k h in
      let b = inside y y (compose (transpose q) q) (join_type (x * y) y y (λ n. n % y) (λ n. n % y) q q (second_map x y) (second_map x y)) j k h in
      from_identity y j k b.row (sym c.first ∙ c.second))
      (λ j k h.
      let e = in_identity y j k h in
      let b = inside y y (identity y) (type-identity y) j k h in
      let v = mod-mul-add 0 y j b.row in
      from_join (x * y) y y (λ n. n % y) (λ n. n % y) q q (second_map x y) (second_map x y) (0 * y + j) j k (number_below x y 0 j (omega (arith, s)) b.row) b.row b.col v (v ∙ e))

  second_none_law : x ≡ 0 → compose (transpose q) q ≡ empty y y
  second_none_law z = one_relation y y (compose (transpose q) q) (empty y y) (join_type (x * y) y y (λ n. n % y) (λ n. n % y) q q (second_map x y) (second_map x y)) (empty_type y y)
      (λ j k h.
      let c = in_join (x * y) y y (λ n. n % y) (λ n. n % y) q q (second_map x y) (second_map x y) j k h in
      let l : c.at < 0 * y = subst (λ n. c.at < n * y) z c.within in
      absurd (let e : 0 * y ≡ 0 = omega arith in omega (arith, e, l)))
      (λ j k h. absurd (in_empty y y j k h))

  independent_law : compose (transpose p) q ≡ full x y
  independent_law = one_relation x y (compose (transpose p) q) (full x y) type (full_type x y)
      (λ i j h. let b = inside x y (compose (transpose p) q) type i j h in from_full x y i j b.row b.col)
      (λ i j h.
      let b = inside x y (full x y) (full_type x y) i j h in
      from_join (x * y) x y (λ n. n / y) (λ n. n % y) p q (first_map x y) (second_map x y) (i * y + j) i j (number_below x y i j b.row b.col) b.row b.col (div-mul-add i y j b.col) (mod-mul-add i y j b.col))
    where
      type : HasType x y (compose (transpose p) q)
      type = join_type (x * y) x y (λ n. n / y) (λ n. n % y) p q (first_map x y) (second_map x y)

pub projection_laws : ProjectionLaws
projection_laws = λ x y. record {
  faithful = faithful_law x y;
  first_onto = first_onto_law x y;
  first_none = first_none_law x y;
  second_onto = second_onto_law x y;
  second_none = second_none_law x y;
  independent = independent_law x y;
}

-- ---- injections
left_map : (x y : ℕ) → IsMap x (x + y) (λ i. i) (left_injection x y)
unfolding left_injection
left_map x y = map_of x (x + y) (λ i. i) (λ i s. eqb s i) (λ i s h. sym (eqb-true s i h)) (λ i. eq-eqb i i refl)

right_map : (x y : ℕ) → IsMap y (x + y) (λ j. x + j) (right_injection x y)
unfolding right_injection
right_map x y = map_of y (x + y) (λ j. x + j) (λ j s. eqb s (x + j)) (λ j s h. sym (eqb-true s (x + j) h)) (λ j. eq-eqb (x + j) (x + j) refl)

module _ (x y : ℕ) where
  abbrev i : Relation
  i = left_injection x y

  abbrev k : Relation
  k = right_injection x y

  left_law : compose i (transpose i) ≡ identity x
  left_law = one_relation x x (compose i (transpose i)) (identity x) type (type-identity x)
      (λ a b h. let w = inside x x (compose i (transpose i)) type a b h in from_identity x a b w.row (in_meet x (x + y) x (λ n. n) (λ n. n) i i (left_map x y) (left_map x y) a b h))
      (λ a b h.
      let w = inside x x (identity x) (type-identity x) a b h in
      let l = w.row in
      from_meet x (x + y) x (λ n. n) (λ n. n) i i (left_map x y) (left_map x y) a b w.row w.col (omega (arith, l)) (in_identity x a b h))
    where
      type : HasType x x (compose i (transpose i))
      type = meet_type x (x + y) x (λ n. n) (λ n. n) i i (left_map x y) (left_map x y)

  -- from the right and back each number comes to itself alone: x + a is x + b only where a is b
  right_law : compose k (transpose k) ≡ identity y
  right_law = one_relation y y (compose k (transpose k)) (identity y) type (type-identity y)
      (λ a b h.
      let w = inside y y (compose k (transpose k)) type a b h in
      let e = in_meet y (x + y) y (λ n. x + n) (λ n. x + n) k k (right_map x y) (right_map x y) a b h in
      from_identity y a b w.row (omega (arith, e)))
      (λ a b h.
      let w = inside y y (identity y) (type-identity y) a b h in
      let l = w.row in
      from_meet y (x + y) y (λ n. x + n) (λ n. x + n) k k (right_map x y) (right_map x y) a b w.row w.col (omega (arith, l)) (ap (λ n. x + n) (in_identity y a b h)))
    where
      type : HasType y y (compose k (transpose k))
      type = meet_type y (x + y) y (λ n. x + n) (λ n. x + n) k k (right_map x y) (right_map x y)

  apart_law : compose i (transpose k) ≡ empty x y
  apart_law = one_relation x y (compose i (transpose k)) (empty x y) type (empty_type x y)
      (λ a b h.
      let w = inside x y (compose i (transpose k)) type a b h in
      let l = w.row in
      let e = in_meet x (x + y) y (λ n. n) (λ n. x + n) i k (left_map x y) (right_map x y) a b h in
      absurd (omega (arith, e, l)))
      (λ a b h. absurd (in_empty x y a b h))
    where
      type : HasType x y (compose i (transpose k))
      type = meet_type x (x + y) y (λ n. n) (λ n. x + n) i k (left_map x y) (right_map x y)

  left_type : HasType (x + y) (x + y) (compose (transpose i) i)
  left_type = join_type x (x + y) (x + y) (λ n. n) (λ n. n) i i (left_map x y) (left_map x y)

  right_type : HasType (x + y) (x + y) (compose (transpose k) k)
  right_type = join_type y (x + y) (x + y) (λ n. x + n) (λ n. x + n) k k (right_map x y) (right_map x y)

  -- both injections together reach each number of the sum, and each from one number alone: below x from the left, and
  -- from x on from the right
  together_law : union (compose (transpose i) i) (compose (transpose k) k) ≡ identity (x + y)
  together_law = one_relation (x + y) (x + y) (union (compose (transpose i) i) (compose (transpose k) k)) (identity (x + y)) type (type-identity (x + y))
      (λ s t h.
      let w = inside (x + y) (x + y) (union (compose (transpose i) i) (compose (transpose k) k)) type s t h in
      from_identity (x + y) s t w.row (elim (in_union (x + y) (x + y) (compose (transpose i) i) (compose (transpose k) k) left_type s t h) [
        | inl a ↦ let c = in_join x (x + y) (x + y) (λ n. n) (λ n. n) i i (left_map x y) (left_map x y) s t a in sym c.first ∙ c.second
        | inr a ↦ let c = in_join y (x + y) (x + y) (λ n. x + n) (λ n. x + n) k k (right_map x y) (right_map x y) s t a in sym c.first ∙ c.second
      ]))
      (λ s t h.
      let w = inside (x + y) (x + y) (identity (x + y)) (type-identity (x + y)) s t h in
      let e = in_identity (x + y) s t h in
      let l = w.row in
      elim (cases_lt s x) [
        | inl a ↦ left_union (x + y) (x + y) (compose (transpose i) i) (compose (transpose k) k) left_type s t
            (from_join x (x + y) (x + y) (λ n. n) (λ n. n) i i (left_map x y) (left_map x y) s s t a w.row w.col refl e)
        | inr a ↦ right_union (x + y) (x + y) (compose (transpose i) i) (compose (transpose k) k) left_type right_type s t
            (from_join y (x + y) (x + y) (λ n. x + n) (λ n. x + n) k k (right_map x y) (right_map x y) (s - x) s t (omega (arith, a, l)) w.row w.col (omega (arith, a)) (omega (arith, a, e)))
      ])
    where
      type : HasType (x + y) (x + y) (union (compose (transpose i) i) (compose (transpose k) k))
      type = type-union (x + y) (x + y) (compose (transpose i) i) (compose (transpose k) k) left_type

pub injection_laws : InjectionLaws
injection_laws = λ x y. record { first_faithful = left_law x y; second_faithful = right_law x y; apart = apart_law x y; together = together_law x y }

-- ---- membership
same_bit : (a b : ℕ) → a < 2 → b < 2 → eqb a 1 ≡ eqb b 1 → a ≡ b
same_bit a b p q e = grind (arith, nat_tests)

member_type : (x : ℕ) → HasType x (2 ^ x) (membership x)
unfolding membership
member_type x = type-test x (2 ^ x) x (2 ^ x) (λ i s. eqb (bit_at s i) 1) refl refl

quotient_type : (x : ℕ) → HasType (2 ^ x) (2 ^ x) (symmetric_quotient (membership x) (membership x))
quotient_type x = type-quotient x (2 ^ x) (2 ^ x) (membership x) (membership x) (member_type x) (member_type x)

in_subset : (x i s : ℕ) → i < x → s < 2 ^ x → has (membership x) i s ≡ eqb (bit_at s i) 1
unfolding membership
in_subset x i s a b = has-relation_of x (2 ^ x) (λ i s. eqb (bit_at s i) 1) i s a b

pub membership_law : MembershipLaw
membership_law = λ x.
    one_relation (2 ^ x) (2 ^ x) (symmetric_quotient (membership x) (membership x)) (identity (2 ^ x)) (quotient_type x) (type-identity (2 ^ x))
    (λ s t h.
    let w = inside (2 ^ x) (2 ^ x) (symmetric_quotient (membership x) (membership x)) (quotient_type x) s t h in
    from_identity (2 ^ x) s t w.row (same_from_bits_below x s t w.row w.col (λ i l. same_bit (bit_at s i) (bit_at t i) (bit_at-lt s i) (bit_at-lt t i)
    (sym (in_subset x i s l w.row) ∙ in_quotient x (2 ^ x) (membership x) (membership x) (member_type x) s t h i l ∙ in_subset x i t l w.col))))
    (λ s t h.
    let w = inside (2 ^ x) (2 ^ x) (identity (2 ^ x)) (type-identity (2 ^ x)) s t h in
    from_quotient x (2 ^ x) (2 ^ x) (membership x) (membership x) (member_type x) (member_type x) s t w.row w.col (λ i. ap (λ n. has (membership x) i n) (in_identity (2 ^ x) s t h)))
