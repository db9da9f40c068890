-- Tests of sizes, and what they say.
use Rattle.std.proofs.Common.{◌≡◌, ◌==◌, ◌&&◌, ℕ, true, arith}
use Rattle.std.proofs.lemmas.Bool.Decides.{nat_tests}

pub equal_passes : (m n : ℕ) → m ≡ n → (m == n) ≡ true
equal_passes m n e = grind (arith, nat_tests, e)

pub both_fit : (m n p q : ℕ) → ((m == p) && (n == q)) ≡ true → (m ≡ p) × (n ≡ q)
both_fit m n p q e = (grind (arith, nat_tests, e), grind (arith, nat_tests, e))

pub one_fits : (m n : ℕ) → (m == n) ≡ true → m ≡ n
one_fits m n e = grind (arith, nat_tests, e)
