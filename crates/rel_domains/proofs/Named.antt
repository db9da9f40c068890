-- The relations of rules that have names, and the causes of refusals.
use Rattle.std.proofs.Common.{◌≡◌, ◌<◌, ◌≤◌, ◌+◌, ◌-◌, ◌*◌, ◌/◌, ◌%◌, ◌^◌, ◌∙◌, eqb, max, ℕ, zero, suc, Ok, Err, inl, inr, refl, ap, subst, arith}
use Rattle.std.specs.Prelude.{Result, IfOk}
use Rattle.std.proofs.Math.Nat.{pow-le-pow_left, one-le-pow}
use Rattle.std.proofs.Math.Pow.{pow_mono}
use Rattle.std.proofs.lemmas.Bool.{cases_lt}
use Rattle.std.proofs.lemmas.Nat.{mul-le}
use Rattle.rel_model.specs.declared.Rel.{Rel}
use Rattle.rel_model.specs.declared.faults.DomainError.{DomainError}
use Rattle.rel_model.specs.declared.faults.DomainError.TheVariants.{Size}
use Rattle.rel_model.specs.Relation.{relation_of, size_height, size_limit}
use Rattle.rel_model.specs.Worker.{Worker, Gives, height_of, height_of_three, operator_room, derived_room}
use Rattle.rel_model.specs.Domains.{IsOverSize, first_projection, second_projection, left_injection, right_injection, membership}
use Rattle.rel_model.proofs.Relations.{relation_of-agree}
use Rattle.rel_domains.specs.declared.rule.Rule.TheVariants.{Shift, Quotient, Remainder, Member}
use Rattle.rel_domains.specs.Rules.{passes}
use Rattle.rel_domains.proofs.Leaves.{shifted}

-- a divisor of rows that there are
pub divisor : (x y p : ℕ) → p < x * y → max y 1 ≡ y
divisor x zero p l = absurd (let e : x * 0 ≡ 0 = omega arith in omega (arith, e, l))
divisor x (suc y) p l = omega arith

pub first_is : (x y by : ℕ) → by ≡ max y 1 → relation_of (x * y) x (passes (Quotient by)) ≡ first_projection x y
unfolding first_projection
first_is x y by e = relation_of-agree (x * y) x _ _ (λ p i a b. ap (λ n. eqb (p / n) i) (e ∙ divisor x y p a))

pub second_is : (x y by : ℕ) → by ≡ max y 1 → relation_of (x * y) y (passes (Remainder by)) ≡ second_projection x y
unfolding second_projection
second_is x y by e = relation_of-agree (x * y) y _ _ (λ p i a b. ap (λ n. eqb (p % n) i) (e ∙ divisor x y p a))

pub inl_is : (x y : ℕ) → relation_of x (x + y) (passes (Shift 0)) ≡ left_injection x y
unfolding left_injection
inl_is x y = relation_of-agree x (x + y) _ _ (λ i s a b. ap (eqb s) (let e : 0 + i ≡ i = omega arith in e))

pub inr_is : (x y : ℕ) → relation_of y (x + y) (passes (Shift x)) ≡ right_injection x y
unfolding right_injection
inr_is x y = refl

pub epsi_is : (x : ℕ) → relation_of x (2 ^ x) (passes Member) ≡ membership x
unfolding membership
epsi_is x = refl

-- ---- rooms
-- what an operator may place has the room of a call that is composed of several
pub rooms_derived : (m n : ℕ) → operator_room m n ≤ derived_room m n n
unfolding operator_room derived_room
rooms_derived m n =
    let h = height_of_three m n n in
    let p = pow-le-pow_left {n = 4} {m = 8} (omega arith) h in
    let q = one-le-pow h 8 (omega arith) in
    let e : max (height_of m) (height_of n) ≡ h = omega arith in
    let s : 4 * 4 ^ max (height_of m) (height_of n) ≡ 4 * 4 ^ h = ap (λ k. 4 * 4 ^ k) e in
    let r = mul-le 64 (8 ^ h) (64 * (h + 1)) (8 ^ h) (omega arith) (omega arith) in
    omega (arith, p, q, r, s)

-- ---- powers
few_elements : (x : ℕ) → 2 ^ x ≤ size_limit → x ≤ size_height
few_elements x l = elim (cases_lt size_height x) [
  | inl a ↦ absurd (let p : 2 ^ (size_height + 1) ≤ 2 ^ x = pow_mono {i = size_height + 1} {j = x} a in omega (arith, p, l))
  | inr a ↦ a
]

pub member_rule : (x n : ℕ) → x < 64 → n ≡ 1 * 2 ^ x % 18446744073709551616 → n ≤ size_limit → x ≤ size_height
member_rule x n a e l = few_elements x (omega (arith, l, e, shifted x a))

pub all_subsets : (x : ℕ) → 64 ≤ x → IsOverSize (2 ^ x) (Size (2 ^ 64 - 1) size_limit)
all_subsets x l = let p : 2 ^ 64 ≤ 2 ^ x = pow_mono {i = 64} {j = x} l in (omega (arith, p), omega (arith, p), refl)

pub epsi_given : (w : Worker) (x n : ℕ) (r : Result Rel DomainError) → n ≡ 2 ^ x → IfOk r (Gives w x n (relation_of x n (passes Member))) → IfOk r (Gives w x (2 ^ x) (membership x))
epsi_given w x n (Ok rel) e g = subst (λ s. Gives w x (2 ^ x) s rel) (epsi_is x) (subst (λ k. Gives w x k (relation_of x k (passes Member)) rel) e g)
epsi_given w x n (Err f) e g = tt
