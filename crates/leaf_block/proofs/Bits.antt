-- Bits of words and of the lanes of a vector.
-- 1. A shift moves each bit, and a remainder keeps the low ones.
-- 2. Bit w * i + j of a number that is written in digits of w bits is bit j of digit i.
-- 3. A swap of the bits of a mask with those s places above them gives each bit its partner.
use Rattle.std.proofs.Common.{◌≡◌, ◌<◌, ◌≤◌, ◌+◌, ◌-◌, ◌*◌, ◌/◌, ◌%◌, ◌^◌, ◌&&◌, min, not, eqb, leb, zero, suc, ℕ, Bool, true, false, cond, List, [], ◌∷◌, refl, sym, ap, ◌∙◌, inl, inr, arith, get_or, length, map, replicate, bit_and, bit_xor}
use Rattle.std.proofs.lemmas.Bool.{false≢true, cases_Bool, le-leb, lt-leb, eqb-true, eqb-false, and_left, and_right, and_from, cond-true, cond-false, cases_lt}
use Rattle.std.proofs.lemmas.Nat.Bits.{bit_at-lt, bit_at-zero, bit_at_cat_low, bit_at_cat_high, bit_at_xor, bit_at_and}
use Rattle.std.proofs.lemmas.Nat.{pow_pos, pow-add, div-add-mod'}
use Rattle.std.proofs.Math.Nat.{div-div-eq-div-mul}
use lib.Lanes.{Each1, zip2, number_l, digits_l}
use Rattle.std.specs.Int.{bit_at}
use Rattle.leaf_block.specs.Lanes.{swapped}

-- ---- shifts
pub bit-shr : (x s n : ℕ) → bit_at (x / 2 ^ s) n ≡ bit_at x (s + n)
bit-shr x s n = ap (λ (v : ℕ). v % 2) (div-div-eq-div-mul x (2 ^ s) (2 ^ n) ∙ ap (λ (p : ℕ). x / p) (sym (pow-add 2 s n)))

pub bit-mod : (x w n : ℕ) → n < w → bit_at (x % 2 ^ w) n ≡ bit_at x n
bit-mod x w n l = sym (bit_at_cat_low (x / 2 ^ w) w (x % 2 ^ w) n l) ∙ ap (λ (v : ℕ). bit_at v n) (div-add-mod' x (2 ^ w))

pub bit-shl_low : (x s n : ℕ) → n < s → bit_at (x * 2 ^ s) n ≡ 0
bit-shl_low x s n l =
    let e : x * 2 ^ s ≡ x * 2 ^ s + 0 = omega arith in
    ap (λ (v : ℕ). bit_at v n) e ∙ bit_at_cat_low x s 0 n l ∙ bit_at-zero n

pub bit-shl_high : (x s n : ℕ) → s ≤ n → bit_at (x * 2 ^ s) n ≡ bit_at x (n - s)
bit-shl_high x s n l =
    let e : x * 2 ^ s ≡ x * 2 ^ s + 0 = omega arith in
    ap (λ (v : ℕ). bit_at v n) e ∙ bit_at_cat_high x s 0 n (pow_pos s) l

-- ---- digits
pub bit-digits : (w k x i j : ℕ) → i < k → j < w → bit_at (get_or (digits_l (2 ^ w) k x) i 0) j ≡ bit_at x (w * i + j)
bit-digits w zero x i j a b = absurd (omega arith)
bit-digits w (suc k) x zero j a b =
    let e : w * 0 + j ≡ j = omega arith in
    bit-mod x w j b ∙ ap (bit_at x) (sym e)
bit-digits w (suc k) x (suc i) j a b =
    let e : w + (w * i + j) ≡ w * suc i + j = omega arith in
    bit-digits w k (x / 2 ^ w) i j (omega arith) b ∙ bit-shr x w (w * i + j) ∙ ap (bit_at x) e

pub bit-number : (w : ℕ) (xs : List ℕ) (i j : ℕ) → Each1 (λ x. x < 2 ^ w) xs → j < w → bit_at (number_l (2 ^ w) xs) (w * i + j) ≡ bit_at (get_or xs i 0) j
bit-number w [] i j f b = bit_at-zero (w * i + j) ∙ sym (bit_at-zero j)
bit-number w (x ∷ xs) zero j f b =
    let e : w * 0 + j ≡ j = omega arith in
    let c : x + 2 ^ w * number_l (2 ^ w) xs ≡ number_l (2 ^ w) xs * 2 ^ w + x = omega arith in
    ap (bit_at (x + 2 ^ w * number_l (2 ^ w) xs)) e ∙ ap (λ (v : ℕ). bit_at v j) c ∙ bit_at_cat_low (number_l (2 ^ w) xs) w x j b
bit-number w (x ∷ xs) (suc i) j f b =
    let e : w * suc i + j - w ≡ w * i + j = omega arith in
    let c : x + 2 ^ w * number_l (2 ^ w) xs ≡ number_l (2 ^ w) xs * 2 ^ w + x = omega arith in
    ap (λ (v : ℕ). bit_at v (w * suc i + j)) c ∙ bit_at_cat_high (number_l (2 ^ w) xs) w x (w * suc i + j) f.0 (omega arith)
    ∙ ap (bit_at (number_l (2 ^ w) xs)) e ∙ bit-number w xs i j f.1 b

-- each digit fits its width, since it is a remainder by 2 ^ w
pub digits-fit : (w k x : ℕ) → Each1 (λ v. v < 2 ^ w) (digits_l (2 ^ w) k x)
digits-fit w zero x = tt
digits-fit w (suc k) x = (mod_below x w, digits-fit w k (x / 2 ^ w))
  where
    mod_below : (x w : ℕ) → x % 2 ^ w < 2 ^ w
    mod_below x w = let p = pow_pos w in omega arith

-- ---- swaps
-- the bit with which a swap exchanges bit n
abbrev pub partner : ℕ → ℕ → ℕ → ℕ
partner s m n = cond (eqb (bit_at m n) 1) (s + n) (cond (leb s n && eqb (bit_at m (n - s)) 1) (n - s) n)

-- bit n is exchanged with one bit at most
abbrev pub is_apart : ℕ → ℕ → ℕ → Bool
is_apart s m n = not (eqb (bit_at m n) 1 && (leb s n && eqb (bit_at m (n - s)) 1))

from_above : (a b m v : ℕ) → a < 2 → b < 2 → m ≡ 1 → v ≡ 0 → ((a + min ((a + b) % 2) m) % 2 + v) % 2 ≡ b
from_above a b m v p q e f = omega arith

from_below : (a b c m k : ℕ) → a < 2 → b < 2 → c < 2 → m ≡ 0 → k ≡ 1 → ((a + min ((a + b) % 2) m) % 2 + min ((c + a) % 2) k) % 2 ≡ c
from_below a b c m k p q r e f = omega arith

from_here : (a b m v : ℕ) → a < 2 → b < 2 → m ≡ 0 → v ≡ 0 → ((a + min ((a + b) % 2) m) % 2 + v) % 2 ≡ a
from_here a b m v p q e f = omega arith

-- the bits that the swap turns
abbrev turned : ℕ → ℕ → ℕ → ℕ
turned s m x = bit_and (bit_xor x (x / 2 ^ s)) m

bit-turned : (s m x n : ℕ) → bit_at (turned s m x) n ≡ min ((bit_at x n + bit_at x (s + n)) % 2) (bit_at m n)
bit-turned s m x n =
    bit_at_and (bit_xor x (x / 2 ^ s)) m n
    ∙ ap (λ (v : ℕ). min v (bit_at m n)) (bit_at_xor x (x / 2 ^ s) n ∙ ap (λ (v : ℕ). (bit_at x n + v) % 2) (bit-shr x s n))

bit-swapped : (s m x n : ℕ) → n < 64
    → bit_at (swapped s m x) n ≡ ((bit_at x n + min ((bit_at x n + bit_at x (s + n)) % 2) (bit_at m n)) % 2 + bit_at (turned s m x * 2 ^ s) n) % 2
bit-swapped s m x n l =
    let t = turned s m x in
    bit_at_xor (bit_xor x t) (t * 2 ^ s % 2 ^ 64) n
    ∙ ap (λ (v : ℕ). (v + bit_at (t * 2 ^ s % 2 ^ 64) n) % 2) (bit_at_xor x t n ∙ ap (λ (v : ℕ). (bit_at x n + v) % 2) (bit-turned s m x n))
    ∙ ap (λ (v : ℕ). ((bit_at x n + min ((bit_at x n + bit_at x (s + n)) % 2) (bit_at m n)) % 2 + v) % 2) (bit-mod (t * 2 ^ s) 64 n l)

min_zero : (a b : ℕ) → b ≡ 0 → min a b ≡ 0
min_zero a b z = omega arith

clear : (m n : ℕ) → eqb (bit_at m n) 1 ≡ false → bit_at m n ≡ 0
clear m n e = let p = eqb-false _ 1 e in let q = bit_at-lt m n in omega arith

none_at : (s m x n : ℕ) → s ≤ n → eqb (bit_at m (n - s)) 1 ≡ false → bit_at (turned s m x * 2 ^ s) n ≡ 0
none_at s m x n d g = bit-shl_high (turned s m x) s n d ∙ bit-turned s m x (n - s) ∙ min_zero _ _ (clear m (n - s) g)

none_below : (s m x n : ℕ) → is_apart s m n ≡ true → eqb (bit_at m n) 1 ≡ true → bit_at (turned s m x * 2 ^ s) n ≡ 0
none_below s m x n a e = elim (cases_lt n s) [
  | inl d ↦ bit-shl_low _ s n d
  | inr d ↦ elim (cases_Bool (eqb (bit_at m (n - s)) 1)) [
    | inl g ↦ absurd (let b = le-leb s n d in false≢true (rw (e, b, g) at a))
    | inr g ↦ none_at s m x n d g
  ]
]

taken : (s m x n : ℕ) → s ≤ n → eqb (bit_at m n) 1 ≡ false → eqb (bit_at m (n - s)) 1 ≡ true
    → ((bit_at x n + min ((bit_at x n + bit_at x (s + n)) % 2) (bit_at m n)) % 2 + bit_at (turned s m x * 2 ^ s) n) % 2 ≡ bit_at x (n - s)
taken s m x n d e g =
    let h : s + (n - s) ≡ n = omega arith in
    let t : bit_at (turned s m x * 2 ^ s) n ≡ min ((bit_at x (n - s) + bit_at x n) % 2) (bit_at m (n - s)) =
    bit-shl_high (turned s m x) s n d ∙ bit-turned s m x (n - s) ∙ ap (λ (k : ℕ). min ((bit_at x (n - s) + bit_at x k) % 2) (bit_at m (n - s))) h in
    ap (λ (v : ℕ). ((bit_at x n + min ((bit_at x n + bit_at x (s + n)) % 2) (bit_at m n)) % 2 + v) % 2) t
    ∙ from_below _ _ _ _ _ (bit_at-lt x n) (bit_at-lt x (s + n)) (bit_at-lt x (n - s)) (clear m n e) (eqb-true _ 1 g)

-- a swap gives bit n its partner's value: the mask has bit n, or the bit s places below it, or neither of them
pub swapped-partner : (s m x n : ℕ) → n < 64 → is_apart s m n ≡ true → bit_at (swapped s m x) n ≡ bit_at x (partner s m n)
swapped-partner s m x n l a = bit-swapped s m x n l ∙ elim (cases_Bool (eqb (bit_at m n) 1)) [
  | inl e ↦ from_above _ _ _ _ (bit_at-lt x n) (bit_at-lt x (s + n)) (eqb-true _ 1 e) (none_below s m x n a e) ∙ ap (bit_at x) (sym (cond-true _ _ _ e))
  | inr e ↦ elim (cases_lt n s) [
    | inl d ↦ from_here _ _ _ _ (bit_at-lt x n) (bit_at-lt x (s + n)) (clear m n e) (bit-shl_low _ s n d)
        ∙ ap (bit_at x) (sym (cond-false _ _ _ e ∙ cond-false _ _ _ (and_left (leb s n) _ (lt-leb s n d))))
    | inr d ↦ elim (cases_Bool (eqb (bit_at m (n - s)) 1)) [
      | inl g ↦ taken s m x n d e g ∙ ap (bit_at x) (sym (cond-false _ _ _ e ∙ cond-true _ _ _ (and_from (leb s n) _ (le-leb s n d) g)))
      | inr g ↦ from_here _ _ _ _ (bit_at-lt x n) (bit_at-lt x (s + n)) (clear m n e) (none_at s m x n d g)
          ∙ ap (bit_at x) (sym (cond-false _ _ _ e ∙ cond-false _ _ _ (and_right (leb s n) _ g)))
    ]
  ]
]

-- the swap of each lane, as the code computes it
pub swap-lanes : (s m n : ℕ) (xs : List ℕ) → length xs ≡ n
    → zip2 bit_xor (zip2 bit_xor xs (zip2 bit_and (zip2 bit_xor xs (zip2 (λ x s. x / 2 ^ s) xs (replicate n s))) (replicate n m)))
    (zip2 (λ x s. x * 2 ^ s % 2 ^ 64) (zip2 bit_and (zip2 bit_xor xs (zip2 (λ x s. x / 2 ^ s) xs (replicate n s))) (replicate n m)) (replicate n s))
    ≡ map (swapped s m) xs
swap-lanes s m n [] e = refl
swap-lanes s m zero (x ∷ xs) e = absurd (omega arith)
swap-lanes s m (suc n) (x ∷ xs) e = ap (λ (l : List ℕ). swapped s m x ∷ l) (swap-lanes s m n xs (omega arith))
