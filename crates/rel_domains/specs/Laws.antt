-- Laws of projections, injections and membership (Schmidt and Ströhlein, Relations and Graphs), including empty
-- domains.
use Rattle.std.specs.Prelude.{◌≡◌, ◌≢◌, ◌+◌, ◌*◌, ◌^◌, ℕ}
use Rattle.rel_model.specs.Operators.{empty, full, union, inter, transpose, compose, symmetric_quotient, identity}
use Rattle.rel_model.specs.Domains.{first_projection, second_projection, left_injection, right_injection, membership}

-- the projections p and q of a product of x and y elements
pub record AreProjections (x y : ℕ) : Type 0 where
  -- p*p^ & q*q^ = I: a pair is determined by its parts
  pub faithful : inter (compose (first_projection x y) (transpose (first_projection x y)))
      (compose (second_projection x y) (transpose (second_projection x y))) ≡ identity (x * y)
  -- p^*p = I if the second factor has an element, and p^*p = O if it has none
  pub first_onto : y ≢ 0 → compose (transpose (first_projection x y)) (first_projection x y) ≡ identity x
  pub first_none : y ≡ 0 → compose (transpose (first_projection x y)) (first_projection x y) ≡ empty x x
  -- q^*q = I if the first factor has an element, and q^*q = O if it has none
  pub second_onto : x ≢ 0 → compose (transpose (second_projection x y)) (second_projection x y) ≡ identity y
  pub second_none : x ≡ 0 → compose (transpose (second_projection x y)) (second_projection x y) ≡ empty y y
  -- p^*q = L: each element of one factor is paired with each of the other
  pub independent : compose (transpose (first_projection x y)) (second_projection x y) ≡ full x y

-- the injections i and k of a sum of x and y elements
pub record AreInjections (x y : ℕ) : Type 0 where
  -- i*i^ = I
  pub first_faithful : compose (left_injection x y) (transpose (left_injection x y)) ≡ identity x
  -- k*k^ = I
  pub second_faithful : compose (right_injection x y) (transpose (right_injection x y)) ≡ identity y
  -- i*k^ = O
  pub apart : compose (left_injection x y) (transpose (right_injection x y)) ≡ empty x y
  -- i^*i | k^*k = I
  pub together : union (compose (transpose (left_injection x y)) (left_injection x y))
      (compose (transpose (right_injection x y)) (right_injection x y)) ≡ identity (x + y)

-- laws of products
abbrev pub ProjectionLaws : Type 0
ProjectionLaws = (x y : ℕ) → AreProjections x y

-- laws of sums
abbrev pub InjectionLaws : Type 0
InjectionLaws = (x y : ℕ) → AreInjections x y

-- syq(e,e) = I: a subset is determined by its elements
abbrev pub MembershipLaw : Type 0
MembershipLaw = (x : ℕ) → symmetric_quotient (membership x) (membership x) ≡ identity (2 ^ x)
