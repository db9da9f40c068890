-- Rows of a leaf in its word.
-- 1. The row's bits stand together: those from `m * i` on, m of them.
-- 2. Taken out, they are the first row of a word that has no other bit.
-- 3. Put back above `m * i` bits, they are in row i alone.
use Rattle.std.proofs.Common.{◌≡◌, ◌<◌, ◌≤◌, ◌+◌, ◌-◌, ◌*◌, ◌/◌, ◌%◌, ◌^◌, ◌∙◌, ◌&&◌, ◌||◌, eqb, ltb, max, ℕ, false, refl, sym, ap, subst, arith, inl, inr, bit_or}
use Rattle.std.specs.Int.{bit_at}
use Rattle.std.proofs.Math.Pow.{pow_mono}
use Rattle.std.proofs.lemmas.Bool.{cases_eq, cases_lt, lt-ltb, le-ltb, eq-eqb, ne_eqb, and_right, or_from}
use Rattle.std.proofs.lemmas.Bool.Decides.{nat_tests}
use Rattle.std.proofs.lemmas.Nat.{pow_pos, pow-add, mul-le, or_lt, shl_whole, shr_split, mod_below}
use Rattle.std.proofs.lemmas.Nat.Bits.{bit_at_or, bit_at-lt, bit_at-zero, bit_at_above, bit_at_cat_low, bit_at_cat_high}
use Rattle.rel_model.specs.Cells.{bits_cells}
use Rattle.rel_model.proofs.TreeLaws.{same_cells}
use Rattle.rel_rows.specs.Rows.{row_cells, added_cells}

-- the side of a leaf
pub leaf-side : (h least s : ℕ) → h ≡ least → least ≤ 3 → s ≡ 2 ^ h → s ≤ 8
leaf-side h least s e l k = let p = pow_mono {i = h} {j = 3} (omega arith) in omega (arith, p, k)

-- ---- bits
-- one bit shifted
pub one-shifted : (s : ℕ) → s ≤ 8 → 1 * 2 ^ s % 18446744073709551616 ≡ 2 ^ s
one-shifted s l = let p = pow_mono {i = s} {j = 8} l in omega (arith, p)

-- the low bits of a number
low-bit : (n m j : ℕ) → j < m → bit_at (n % 2 ^ m) j ≡ bit_at n j
low-bit n m j l = sym (bit_at_cat_low (n / 2 ^ m) m (n % 2 ^ m) j l) ∙ ap (λ x. bit_at x j) (shr_split n m)

-- its high bits
high-bit : (n s j : ℕ) → bit_at (n / 2 ^ s) j ≡ bit_at n (s + j)
high-bit n s j =
    let e : s + j - s ≡ j = omega arith in
    sym (bit_at_cat_high (n / 2 ^ s) s (n % 2 ^ s) (s + j) (mod_below n (2 ^ s) (pow_pos s)) (omega arith) ∙ ap (bit_at (n / 2 ^ s)) e) ∙ ap (λ x. bit_at x (s + j)) (shr_split n s)

-- no bit is past a word's end
past : (w m k : ℕ) → w < 2 ^ m → m ≤ k → eqb (bit_at w k) 1 ≡ false
past w m k l h = ap (λ x. eqb x 1) (bit_at_above w m k l h)

either_one : (a b : ℕ) → a < 2 → b < 2 → eqb (max a b) 1 ≡ (eqb a 1 || eqb b 1)
either_one a b p q = grind (arith, nat_tests)

-- rows do not overlap
rows-apart : (m a i j : ℕ) → a < i → j < m → m * a + j < m * i
rows-apart m a i j l h = let p = mul-le m (a + 1) m i (omega arith) (omega arith) in omega (arith, p)

row-room : (m i : ℕ) → i < m → m ≤ 8 → m + m * i ≤ 64
row-room m i a b = let p = mul-le m (i + 1) 8 8 b (omega arith) in omega (arith, p)

within-square : (m i : ℕ) → i < m → m + m * i ≤ m * m
within-square m i a = let p = mul-le m (i + 1) m m (omega arith) (omega arith) in omega (arith, p)

-- ---- a row taken out
pub taken-small : (bits m i : ℕ) → i < m → bits / 2 ^ (m * i) % 2 ^ m < 2 ^ (m * m)
taken-small bits m i l =
    let p = mod_below (bits / 2 ^ (m * i)) (2 ^ m) (pow_pos m) in
    let s = within-square m i l in
    let q = pow_mono {i = m} {j = m * m} (omega (arith, s)) in
    omega (arith, p, q)

-- the bits taken out are row i, as the first row of a word: it has m bits, so the other rows have none
pub taken-cells : (bits m i : ℕ) → i < m → bits_cells m (bits / 2 ^ (m * i) % 2 ^ m) ≡ row_cells i (bits_cells m bits)
taken-cells bits m i l = same_cells _ _ (λ a j. elim (cases_eq a 0) [
  | inl e ↦ first a j e
  | inr e ↦ and_right (ltb a m) _ (other a j (omega arith)) ∙ sym (ap (λ b. b && bits_cells m bits i j) (ne_eqb a 0 e))
])
  where
    first : (a j : ℕ) → a ≡ 0 → bits_cells m (bits / 2 ^ (m * i) % 2 ^ m) a j ≡ row_cells i (bits_cells m bits) a j
    first a j e = elim (cases_lt j m) [
      | inl b ↦ (let z : m * 0 + j ≡ j = omega arith in let k : m * a + j ≡ j = ap (λ x. m * x + j) e ∙ z in
          rw (lt-ltb a m (omega arith), lt-ltb j m b, lt-ltb i m l, eq-eqb a 0 e)
          (ap (λ x. eqb (bit_at (bits / 2 ^ (m * i) % 2 ^ m) x) 1) k ∙ ap (λ x. eqb x 1) (low-bit (bits / 2 ^ (m * i)) m j b ∙ high-bit bits (m * i) j)))
      | inr b ↦ rw (lt-ltb a m (omega arith), le-ltb j m b, lt-ltb i m l, eq-eqb a 0 e) refl
    ]

    other : (a j : ℕ) → 0 < a → (ltb j m && eqb (bit_at (bits / 2 ^ (m * i) % 2 ^ m) (m * a + j)) 1) ≡ false
    other a j p = let q = mul-le m 1 m a (omega arith) p in
        and_right (ltb j m) _ (past (bits / 2 ^ (m * i) % 2 ^ m) m (m * a + j) (mod_below (bits / 2 ^ (m * i)) (2 ^ m) (pow_pos m)) (omega (arith, q)))

-- ---- a row put back
pub put-whole : (line m i : ℕ) → i < m → m ≤ 8 → (line % 2 ^ m) * 2 ^ (m * i) % 18446744073709551616 ≡ (line % 2 ^ m) * 2 ^ (m * i)
put-whole line m i l s = shl_whole (line % 2 ^ m) m (m * i) 64 (mod_below line (2 ^ m) (pow_pos m)) (row-room m i l s)

put-high : (w m i : ℕ) → w < 2 ^ m → w * 2 ^ (m * i) < 2 ^ (m + m * i)
put-high w m i l = let p = mul-le (w + 1) (2 ^ (m * i)) (2 ^ m) (2 ^ (m * i)) (omega (arith, l)) (omega arith) in let q = pow-add 2 m (m * i) in let r = pow_pos (m * i) in omega (arith, p, q, r)

pub put-small : (bits line m i : ℕ) → i < m → bits < 2 ^ (m * m) → bit_or bits ((line % 2 ^ m) * 2 ^ (m * i)) < 2 ^ (m * m)
put-small bits line m i l b =
    let p = put-high (line % 2 ^ m) m i (mod_below line (2 ^ m) (pow_pos m)) in
    let q = pow_mono {i = m + m * i} {j = m * m} (within-square m i l) in
    or_lt (m * m) bits ((line % 2 ^ m) * 2 ^ (m * i)) b (omega (arith, p, q))

-- a line shifted up by m * i bits has its bits in row i alone: any other row's bits stand below or above those m
put-bit : (line m i a j : ℕ) → j < m → eqb (bit_at ((line % 2 ^ m) * 2 ^ (m * i)) (m * a + j)) 1 ≡ (eqb a i && eqb (bit_at line (m * 0 + j)) 1)
put-bit line m i a j l =
    let w = line % 2 ^ m in
    let z : w * 2 ^ (m * i) ≡ w * 2 ^ (m * i) + 0 = omega arith in
    elim (cases_eq a i) [
      | inl e ↦ (let k : m * a + j - m * i ≡ j = ap (λ x. m * x + j - m * i) e ∙ (let y : m * i + j - m * i ≡ j = omega arith in y) in
          let f : m * 0 + j ≡ j = omega arith in
          let up : m * i ≤ m * a + j = subst (λ x. m * x ≤ m * a + j) e (let y : m * a ≤ m * a + j = omega arith in y) in
          ap (λ x. eqb (bit_at x (m * a + j)) 1) z ∙ ap (λ x. eqb x 1) (bit_at_cat_high w (m * i) 0 (m * a + j) (pow_pos (m * i)) up ∙ ap (bit_at w) k ∙ low-bit line m j l)
          ∙ sym (ap (λ b. b && eqb (bit_at line (m * 0 + j)) 1) (eq-eqb a i e) ∙ ap (λ x. eqb (bit_at line x) 1) f))
      | inr e ↦ elim (cases_lt a i) [
        | inl b ↦ ap (λ x. eqb (bit_at x (m * a + j)) 1) z ∙ ap (λ x. eqb x 1) (bit_at_cat_low w (m * i) 0 (m * a + j) (rows-apart m a i j b l) ∙ bit_at-zero (m * a + j)) ∙ sym (ap (λ b. b && eqb (bit_at line (m * 0 + j)) 1) (ne_eqb a i e))
        | inr b ↦ (let up = mul-le m (i + 1) m a (omega arith) (omega arith) in
            past (w * 2 ^ (m * i)) (m + m * i) (m * a + j) (put-high w m i (mod_below line (2 ^ m) (pow_pos m))) (omega (arith, up)) ∙ sym (ap (λ b. b && eqb (bit_at line (m * 0 + j)) 1) (ne_eqb a i e)))
      ]
    ]

-- putting a line into a leaf's word adds the line's first row to row i: the or of two words has the cells of both
pub put-cells : (bits line m i : ℕ) → i < m → bits_cells m (bit_or bits ((line % 2 ^ m) * 2 ^ (m * i))) ≡ added_cells i (bits_cells m line) (bits_cells m bits)
put-cells bits line m i l = same_cells _ _ (λ a j. elim (cases_lt j m) [
  | inl b ↦ elim (cases_lt a m) [
    | inl c ↦ rw (lt-ltb a m c, lt-ltb j m b, lt-ltb 0 m (omega arith))
        (ap (λ x. eqb x 1) (bit_at_or bits ((line % 2 ^ m) * 2 ^ (m * i)) (m * a + j))
        ∙ either_one (bit_at bits (m * a + j)) (bit_at ((line % 2 ^ m) * 2 ^ (m * i)) (m * a + j)) (bit_at-lt bits (m * a + j)) (bit_at-lt ((line % 2 ^ m) * 2 ^ (m * i)) (m * a + j))
        ∙ ap (λ x. eqb (bit_at bits (m * a + j)) 1 || x) (put-bit line m i a j b))
    | inr c ↦ rw (le-ltb a m c) (sym (ap (λ x. x && bits_cells m line 0 j) (ne_eqb a i (λ e. omega arith))))
  ]
  | inr b ↦ and_right (ltb a m) _ (ap (λ x. x && eqb (bit_at (bit_or bits ((line % 2 ^ m) * 2 ^ (m * i))) (m * a + j)) 1) (le-ltb j m b))
      ∙ sym (or_from (bits_cells m bits a j) _ (none a j b bits) (and_right (eqb a i) _ (none 0 j b line)))
])
  where
    none : (a j : ℕ) → m ≤ j → (n : ℕ) → bits_cells m n a j ≡ false
    none a j b n = and_right (ltb a m) _ (ap (λ x. x && eqb (bit_at n (m * a + j)) 1) (le-ltb j m b))
