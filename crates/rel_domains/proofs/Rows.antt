-- Rows of a rule in a leaf.
-- 1. Row after row, each above the rows before in one word, is the leaf.
-- 2. One bit is the one column of a row, where it is one of the leaf's.
-- 3. Bit i of eight numbers from a multiple of 8 on is one of three patterns, or one bit of all.
-- 4. Two such words beside one another have the bits of any eight numbers that begin in the first.
use Rattle.std.proofs.Common.{◌≡◌, ◌<◌, ◌≤◌, ◌+◌, ◌-◌, ◌*◌, ◌/◌, ◌%◌, ◌^◌, ◌∙◌, ◌&&◌, eqb, ltb, min, ℕ, Bool, true, false, refl, sym, ap, subst, arith, inl, inr}
use Rattle.std.proofs.Math.Pow.{pow_mono}
use Rattle.std.proofs.lemmas.Bool.{cases_Bool, cases_lt, lt-ltb, le-ltb, eqb-true, ne_eqb, agree_below_at}
use Rattle.std.proofs.lemmas.Nat.{pow_pos, pow-add, mul-le, mul-add-lt, shl_whole, shr_split, mod_below}
use Rattle.std.proofs.lemmas.Nat.Bits.{bit_at-zero, bit_at_cat_low, bit_at_cat_high, bit_at_above, bit_at_ones}
use Rattle.std.specs.Int.{bit_at}
use Rattle.rel_model.specs.Cells.{Cells, bits_cells}
use Rattle.rel_model.proofs.TreeLaws.{same_cells}
use Rattle.rel_domains.specs.Rules.{window}
use Rattle.rel_domains.proofs.Leaves.{one_bit}

-- ---- rows of a leaf
-- the first n rows of a square of side m, from a row and a column on
pub record Filled (m row col : ℕ) (f : Cells) (n bits : ℕ) : Type 0 where
  pub cells : (i j : ℕ) → i < n → j < m → eqb (bit_at bits (m * i + j)) 1 ≡ f (row + i) (col + j)
  pub small : bits < 2 ^ (m * n)

-- one row more is filled: its bits stand above those of the rows before, in the same word
pub filled-more : (m row col n bits word : ℕ) (f : Cells) → Filled m row col f n bits → ((k : ℕ) → k < m → eqb (bit_at word k) 1 ≡ f (row + n) (col + k)) → word < 2 ^ m → Filled m row col f (n + 1) (bits + word * 2 ^ (m * n))
filled-more m row col n bits word f p h w =
    let turn : bits + word * 2 ^ (m * n) ≡ word * 2 ^ (m * n) + bits = omega arith in
    let s = p.small in
    record {
      cells = λ i j a b. ap (λ x. eqb (bit_at x (m * i + j)) 1) turn ∙ elim (cases_lt i n) [
        | inl l ↦ (let t = mul-add-lt i m j n l b in ap (λ x. eqb x 1) (bit_at_cat_low word (m * n) bits (m * i + j) (omega (arith, t))) ∙ p.cells i j l b)
        | inr l ↦ (let e : i ≡ n = omega arith in
            subst (λ x. eqb (bit_at (word * 2 ^ (m * n) + bits) (m * x + j)) 1 ≡ f (row + x) (col + j)) (sym e)
            (ap (λ x. eqb x 1) (bit_at_cat_high word (m * n) bits (m * n + j) s (omega arith) ∙ ap (bit_at word) (let z : m * n + j - m * n ≡ j = omega arith in z)) ∙ h j b))
      ];
      small = (let q = mul-le (word + 1) (2 ^ (m * n)) (2 ^ m) (2 ^ (m * n)) (omega arith) (omega arith) in
          let e : m * (n + 1) ≡ m + m * n = omega arith in
          omega (arith, q, s, ap (λ k. 2 ^ k) e, pow-add 2 m (m * n)));
    }

pub filled-all : (m row col n bits : ℕ) (f : Cells) → Filled m row col f n bits → n ≡ m → bits_cells m bits ≡ window m row col f
filled-all m row col n bits f p e = same_cells _ _ (λ i j. elim (cases_lt i m) [
  | inl a ↦ elim (cases_lt j m) [
    | inl b ↦ rw (lt-ltb i m a, lt-ltb j m b) (p.cells i j (omega arith) b)
    | inr b ↦ rw (lt-ltb i m a, le-ltb j m b) refl
  ]
  | inr a ↦ rw (le-ltb i m a) refl
])

pub filled-small : (m row col n bits : ℕ) (f : Cells) → Filled m row col f n bits → n ≡ m → bits < 2 ^ (m * m)
filled-small m row col n bits f p e = subst (λ k. bits < 2 ^ (m * k)) e p.small

-- a row fits above the rows before
pub row_room : (m n : ℕ) → n < m → m ≤ 8 → m + m * n ≤ 64
row_room m n a b = let p = mul-le m (n + 1) 8 8 b (omega arith) in omega (arith, p)

pub row_shifted : (m n word : ℕ) → n < m → m ≤ 8 → word < 2 ^ m → word * 2 ^ (m * n) % 2 ^ 64 ≡ word * 2 ^ (m * n)
row_shifted m n word a b w = shl_whole word m (m * n) 64 w (row_room m n a b)

-- ---- one column
pub cell-there : (cols at col k : ℕ) → at < cols → col ≤ at → eqb (bit_at (2 ^ (at - col)) k) 1 ≡ (ltb (col + k) cols && eqb at (col + k))
cell-there cols at col k a b = one_bit col at k b ∙ elim (cases_Bool (eqb at (col + k))) [
  | inl t ↦ (let e = eqb-true at (col + k) t in rw (t, lt-ltb (col + k) cols (omega arith)) refl)
  | inr t ↦ t ∙ sym (and_none (ltb (col + k) cols) (eqb at (col + k)) t)
]
  where
    and_none : (a b : Bool) → b ≡ false → (a && b) ≡ false
    and_none true b e = e
    and_none false b e = refl

pub cell-none : (cols at col side k : ℕ) → k < side → (at < cols → col ≤ at → at < col + side → ⊥) → eqb (bit_at 0 k) 1 ≡ (ltb (col + k) cols && eqb at (col + k))
cell-none cols at col side k l h = ap (λ x. eqb x 1) (bit_at-zero k) ∙ sym (elim (cases_lt (col + k) cols) [
  | inl a ↦ rw (lt-ltb (col + k) cols a) (ne_eqb at (col + k) (λ e. h (omega arith) (omega arith) (omega arith)))
  | inr a ↦ rw (le-ltb (col + k) cols a) refl
])

-- ---- eight numbers
low_bits : (block k i : ℕ) → k < 8 → i < 3 → bit_at (8 * block + k) i ≡ bit_at k i
low_bits block k i a b = ap (λ n. bit_at n i) (let e : 8 * block + k ≡ block * 2 ^ 3 + k = omega arith in e) ∙ bit_at_cat_low block 3 k i b

pub octet-0 : (block k : ℕ) → k < 8 → eqb (bit_at 170 k) 1 ≡ eqb (bit_at (8 * block + k) 0) 1
octet-0 block k a = agree_below_at (λ n. eqb (bit_at 170 n) 1) (λ n. eqb (bit_at n 0) 1) 8 k refl a ∙ ap (λ x. eqb x 1) (sym (low_bits block k 0 a (omega arith)))

pub octet-1 : (block k : ℕ) → k < 8 → eqb (bit_at 204 k) 1 ≡ eqb (bit_at (8 * block + k) 1) 1
octet-1 block k a = agree_below_at (λ n. eqb (bit_at 204 n) 1) (λ n. eqb (bit_at n 1) 1) 8 k refl a ∙ ap (λ x. eqb x 1) (sym (low_bits block k 1 a (omega arith)))

pub octet-2 : (block k : ℕ) → k < 8 → eqb (bit_at 240 k) 1 ≡ eqb (bit_at (8 * block + k) 2) 1
octet-2 block k a = agree_below_at (λ n. eqb (bit_at 240 n) 1) (λ n. eqb (bit_at n 2) 1) 8 k refl a ∙ ap (λ x. eqb x 1) (sym (low_bits block k 2 a (omega arith)))

pub high_bits : (block k i : ℕ) → k < 8 → 3 ≤ i → bit_at (8 * block + k) i ≡ bit_at block (i - 3)
high_bits block k i a b = ap (λ n. bit_at n i) (let e : 8 * block + k ≡ block * 2 ^ 3 + k = omega arith in e) ∙ bit_at_cat_high block 3 k i a b

pub octet-all : (block k i : ℕ) → k < 8 → 3 ≤ i → bit_at block (i - 3) ≡ 1 → eqb (bit_at 255 k) 1 ≡ eqb (bit_at (8 * block + k) i) 1
octet-all block k i a b h = ap (λ x. eqb x 1) (bit_at_ones 8 k a ∙ sym (high_bits block k i a b ∙ h))

pub octet-no : (block k i : ℕ) → k < 8 → 3 ≤ i → (bit_at block (i - 3) ≡ 1 → ⊥) → eqb (bit_at 0 k) 1 ≡ eqb (bit_at (8 * block + k) i) 1
octet-no block k i a b h = ap (λ x. eqb x 1) (bit_at-zero k) ∙ sym (ne_eqb (bit_at (8 * block + k) i) 1 (λ e. h (sym (high_bits block k i a b) ∙ e)))

-- ---- two times eight
-- a bit of what was shifted
shifted_bit : (n s k : ℕ) → bit_at (n / 2 ^ s) k ≡ bit_at n (s + k)
shifted_bit n s k = sym (ap (λ x. bit_at x (s + k)) (sym (shr_split n s)) ∙ bit_at_cat_high (n / 2 ^ s) s (n % 2 ^ s) (s + k) (mod_below n (2 ^ s) (pow_pos s)) (omega arith) ∙ ap (bit_at (n / 2 ^ s)) (let e : s + k - s ≡ k = omega arith in e))

-- a bit of the lowest ones
lowest_bit : (n w k : ℕ) → k < w → bit_at (n % 2 ^ w) k ≡ bit_at n k
lowest_bit n w k l = sym (ap (λ x. bit_at x k) (sym (shr_split n w)) ∙ bit_at_cat_low (n / 2 ^ w) w (n % 2 ^ w) k l)

module _ (low high block col i : ℕ) (begin : block ≡ col / 8) (lows : (k : ℕ) → k < 8 → eqb (bit_at low k) 1 ≡ eqb (bit_at (8 * block + k) i) 1) (highs : (k : ℕ) → k < 8 → eqb (bit_at high k) 1 ≡ eqb (bit_at (8 * (block + 1) + k) i) 1) (small : low < 2 ^ 8) where
  two_octets : (k : ℕ) → k < 8 → eqb (bit_at ((low + high * 2 ^ 8) / 2 ^ (col % 8)) k) 1 ≡ eqb (bit_at (col + k) i) 1
  two_octets k l =
      let s : ℕ = col % 8 in
      let b : s < 8 = omega arith in
      let turn : low + high * 2 ^ 8 ≡ high * 2 ^ 8 + low = omega arith in
      ap (λ x. eqb x 1) (shifted_bit (low + high * 2 ^ 8) s k ∙ ap (λ x. bit_at x (s + k)) turn) ∙ elim (cases_lt (s + k) 8) [
        | inl a ↦ ap (λ x. eqb x 1) (bit_at_cat_low high 8 low (s + k) a) ∙ lows (s + k) a ∙ ap (λ n. eqb (bit_at n i) 1) (let e : 8 * block + (s + k) ≡ col + k = omega arith in e)
        | inr a ↦ ap (λ x. eqb x 1) (bit_at_cat_high high 8 low (s + k) small a) ∙ highs (s + k - 8) (omega arith) ∙ ap (λ n. eqb (bit_at n i) 1) (let e : 8 * (block + 1) + (s + k - 8) ≡ col + k = omega arith in e)
      ]

  pub members-are : (cols side width k : ℕ) → width ≡ min side (cols - col) → side ≤ 8 → k < side → eqb (bit_at ((low + high * 2 ^ 8) / 2 ^ (col % 8) % 2 ^ width) k) 1 ≡ (ltb (col + k) cols && eqb (bit_at (col + k) i) 1)
  members-are cols side width k e l a =
      let n : ℕ = (low + high * 2 ^ 8) / 2 ^ (col % 8) in
      elim (cases_lt (col + k) cols) [
        | inl b ↦ ap (λ x. eqb x 1) (lowest_bit n width k (omega arith)) ∙ two_octets k (omega arith) ∙ sym (ap (λ t. t && eqb (bit_at (col + k) i) 1) (lt-ltb (col + k) cols b))
        | inr b ↦ ap (λ x. eqb x 1) (bit_at_above (n % 2 ^ width) width k (mod_below n (2 ^ width) (pow_pos width)) (omega arith)) ∙ sym (ap (λ t. t && eqb (bit_at (col + k) i) 1) (le-ltb (col + k) cols b))
      ]

pub members-small : (n side width rest : ℕ) → width ≡ min side rest → n % 2 ^ width < 2 ^ side
members-small n side width rest e =
    let p = mod_below n (2 ^ width) (pow_pos width) in
    let q : 2 ^ width ≤ 2 ^ side = pow_mono {i = width} {j = side} (omega arith) in
    omega (arith, p, q)
