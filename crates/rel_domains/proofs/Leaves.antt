-- The word of a leaf: each place sets its own bit.
use Rattle.std.proofs.Common.{◌≡◌, ◌≢◌, ◌<◌, ◌≤◌, ◌+◌, ◌-◌, ◌*◌, ◌%◌, ◌^◌, ◌∙◌, ◌||◌, ◌&&◌, max, eqb, ltb, ℕ, List, take, length, get_or, sym, ap, arith, inl, inr, bit_or}
use Rattle.std.specs.Int.{bit_at}
use Rattle.std.proofs.Math.Pow.{pow_mono}
use Rattle.std.proofs.lemmas.Bool.{cases_Bool, eqb-true, eqb-false}
use Rattle.std.proofs.lemmas.Bool.Decides.{nat_tests}
use Rattle.std.proofs.lemmas.Nat.{pow_pos, pow-add, mul-pow, mul-le, or_lt}
use Rattle.std.proofs.lemmas.Nat.Bits.{bit_at_or, bit_at-lt, bit_at-pow_same, bit_at-pow_other}
use Rattle.std.proofs.lemmas.List.Elements.{All-from_recursion}
use Rattle.std.proofs.lemmas.List.Folds.{list_any_more}
use Rattle.rel_model.specs.Cells.{bits_cells}
use Rattle.rel_model.proofs.TreeLaws.{same_cells}
use Rattle.rel_domains.specs.Curve.{holds, AreFrom, cells_at}

-- a leaf has at most 64 cells
pub few_cells : (least : ℕ) → least ≤ 3 → 4 ^ least ≤ 64
few_cells least l = let p : 2 ^ least ≤ 2 ^ 3 = pow_mono {i = least} {j = 3} l in let q : 2 ^ least * 2 ^ least ≤ 8 * 8 = mul-le (2 ^ least) (2 ^ least) 8 8 p p in omega (arith, mul-pow 2 2 least)

pub place_from : (low high : ℕ) (xs : List ℕ) (i : ℕ) → AreFrom low high xs → i < length xs → (low ≤ get_or xs i 0) × (get_or xs i 0 < high)
place_from low high xs i h l = All-from_recursion (λ x. (low ≤ x) × (x < high)) xs h i 0 l

-- one more place is one more bit
either_one : (a b : ℕ) → a < 2 → b < 2 → eqb (max a b) 1 ≡ (eqb a 1 || eqb b 1)
either_one a b p q = grind (arith, nat_tests)

pub one_bit : (base x k : ℕ) → base ≤ x → eqb (bit_at (2 ^ (x - base)) k) 1 ≡ eqb x (base + k)
one_bit base x k l = elim (cases_Bool (eqb x (base + k))) [
  | inl t ↦ let e : x ≡ base + k = eqb-true x (base + k) t in let f : x - base ≡ k = omega arith in ap (λ s. eqb (bit_at (2 ^ s) k) 1) f ∙ ap (λ b. eqb b 1) (bit_at-pow_same k) ∙ sym t
  | inr t ↦ let n : x ≢ base + k = eqb-false x (base + k) t in ap (λ b. eqb b 1) (bit_at-pow_other (x - base) k (λ e. n (omega arith))) ∙ sym t
]

pub one_more : (base bits i : ℕ) (xs : List ℕ) → i < length xs → base ≤ get_or xs i 0 → ((k : ℕ) → eqb (bit_at bits k) 1 ≡ holds (take i xs) (base + k))
    → (k : ℕ) → eqb (bit_at (bit_or bits (2 ^ (get_or xs i 0 - base))) k) 1 ≡ holds (take (i + 1) xs) (base + k)
one_more base bits i xs l b h k =
    let x = get_or xs i 0 in
    ap (λ v. eqb v 1) (bit_at_or bits (2 ^ (x - base)) k)
    ∙ either_one (bit_at bits k) (bit_at (2 ^ (x - base)) k) (bit_at-lt bits k) (bit_at-lt (2 ^ (x - base)) k)
    ∙ ap (λ t. t || eqb (bit_at (2 ^ (x - base)) k) 1) (h k) ∙ ap (λ t. holds (take i xs) (base + k) || t) (one_bit base x k b)
    ∙ sym (list_any_more (λ y. eqb y (base + k)) xs i 0 l)

-- within 64 bits, and within the cells of the leaf
pub shifted : (s : ℕ) → s < 64 → 1 * 2 ^ s % 18446744073709551616 ≡ 2 ^ s
shifted s l = let p : 2 ^ (1 + s) ≤ 2 ^ 64 = pow_mono {i = 1 + s} {j = 64} (omega arith) in let q = pow-add 2 1 s in omega (arith, p, q)

pub still_small : (n bits s : ℕ) → bits < 2 ^ n → s < n → bit_or bits (2 ^ s) < 2 ^ n
still_small n bits s a b = let p : 2 ^ (1 + s) ≤ 2 ^ n = pow_mono {i = 1 + s} {j = n} (omega arith) in let q = pow-add 2 1 s in or_lt n bits (2 ^ s) a (omega (arith, p, q, pow_pos s))

-- the bits are the cells
pub leaf_cells : (least base bits : ℕ) (xs : List ℕ) → ((k : ℕ) → eqb (bit_at bits k) 1 ≡ holds xs (base + k)) → bits_cells (2 ^ least) bits ≡ cells_at least 0 base xs
leaf_cells least base bits xs h =
    let z : least ≡ least + 0 = omega arith in
    same_cells _ _ (λ i j. ap (λ t. ltb i (2 ^ least) && (ltb j (2 ^ least) && t)) (h (2 ^ least * i + j)) ∙ ap (λ n. ltb i (2 ^ n) && (ltb j (2 ^ n) && holds xs (base + (2 ^ least * i + j)))) z)
