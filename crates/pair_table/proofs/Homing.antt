-- A remainder without a division, where 2^b is 2 more than the divisor c.
-- 1. x = q * 2^b + r with q = x / 2^b and r = x % 2^b, so x = q * c + (q * 2 + r).
-- 2. So q * 2 + r has the remainder of x, and is smaller where q and c are not 0.
use Rattle.std.proofs.Common.{◌≡◌, ◌<◌, ◌≤◌, ◌+◌, ◌-◌, ◌*◌, ◌/◌, ◌%◌, ◌^◌, ◌∙◌, ℕ, sym, ap, arith}
use Rattle.std.specs.Int.Bits.{bit_and}
use Rattle.std.proofs.lemmas.Nat.{and_mask}
use Rattle.std.proofs.Math.Nat.{mul-add-mod_self_right, div-add-mod, add-mod_right, mul-le-mul_left}

-- all bits below b are those of the rest
pub masked : (x b c : ℕ) → 2 ^ b ≡ c + 2 → bit_and x (c + 1) ≡ x % 2 ^ b
masked x b c e = ap (λ (m : ℕ). bit_and x m) (let m : c + 1 ≡ 2 ^ b - 1 = omega arith in m) ∙ and_mask x b

-- what stands above the bits, and the rest
pub apart : (x p c : ℕ) → p ≡ c + 2 → x ≡ x / p * c + (x / p * 2 + x % p)
apart x p c e =
    let whole : p * (x / p) + x % p ≡ x = div-add-mod x p in
    let q : p * (x / p) ≡ (c + 2) * (x / p) = ap (λ (y : ℕ). y * (x / p)) e in
    omega (arith, whole, q)

-- the remainder is the same
pub same_rest : (x p c : ℕ) → p ≡ c + 2 → (x / p * 2 + x % p) % c ≡ x % c
same_rest x p c e = sym (ap (λ (y : ℕ). y % c) (apart x p c e) ∙ mul-add-mod_self_right (x / p) c (x / p * 2 + x % p))

-- the folded number is smaller
pub smaller_rest : (x p c : ℕ) → p ≡ c + 2 → 0 < c → 0 < x / p → x / p * 2 + x % p < x
smaller_rest x p c e l m =
    let a : x ≡ x / p * c + (x / p * 2 + x % p) = apart x p c e in
    let b : x / p * 1 ≤ x / p * c = mul-le-mul_left (x / p) (omega arith) in
    omega (arith, a, b)

-- a divisor less leaves the remainder
pub less_once : (x c : ℕ) → c ≤ x → (x - c) % c ≡ x % c
less_once x c l = sym (add-mod_right (x - c) c) ∙ ap (λ (y : ℕ). y % c) (let e : x - c + c ≡ x = omega arith in e)
