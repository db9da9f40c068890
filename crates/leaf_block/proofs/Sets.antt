-- Blocks and their sets.
-- 1. A word is the block of a set exactly where its 64 bits are the tests of the set, which lies in 8 rows and 8 columns.
-- 2. A bit of a word-or, word-and or complement is the or, and or negation of the bits.
-- 3. A sum of the powers of two of a set has the bits of the set.
use Rattle.std.proofs.Common.{◌≡◌, ◌<◌, ◌↔◌, ◌+◌, ◌-◌, ◌*◌, ◌/◌, ◌%◌, ◌^◌, ◌&&◌, ◌||◌, min, max, not, eqb, ltb, zero, suc, ℕ, Bool, true, false, refl, sym, ap, subst, ◌∙◌, inl, inr, arith, bit_and, bit_or, w64}
use Rattle.std.proofs.lemmas.Bool.{cases_Bool, ltb-true, lt-ltb, eqb-true, eqb-false, eq-eqb, ne_eqb, and_parts, and_right, and_left}
use Rattle.std.proofs.lemmas.Nat.Bits.{same_from_bits_below, bit_at-lt, bit_at-zero, bit_at_and, bit_at_or, bit_at_not, bit_at_cat_low, bit_at_cat_high, bit_at_above}
use Rattle.std.specs.Int.{bit_at, bit_not}
use Rattle.rel_model.specs.Cells.{Cells, block_cells, no_cells, cells_union, cells_inter, cells_diff}
use Rattle.leaf_block.specs.Blocks.{IsWithinBlock, bits_below, block_of}

-- ---- sets as functions
pub same_cells : (f g : Cells) → ((i j : ℕ) → f i j ≡ g i j) → f ≡ g
same_cells f g h = λ t i j. h i j t

-- whether bit 8 * i + j of a word is set
abbrev pub is_set : ℕ → ℕ → ℕ → Bool
is_set a i j = eqb (bit_at a (8 * i + j)) 1

-- a test that is asked within 8 rows and 8 columns alone
abbrev pub framed : Cells → Cells
framed f i j = ltb i 8 && (ltb j 8 && f i j)

pub framed-agree : (f g : Cells) → ((i j : ℕ) → i < 8 → j < 8 → f i j ≡ g i j) → framed f ≡ framed g
framed-agree f g h = same_cells _ _ (λ i j. elim (cases_Bool (ltb i 8)) [
  | inr e ↦ and_left (ltb i 8) _ e ∙ sym (and_left (ltb i 8) _ e)
  | inl e ↦ ap (λ (b : Bool). ltb i 8 && b) (elim (cases_Bool (ltb j 8)) [
    | inr d ↦ and_left (ltb j 8) _ d ∙ sym (and_left (ltb j 8) _ d)
    | inl d ↦ ap (λ (b : Bool). ltb j 8 && b) (h i j (ltb-true i 8 e) (ltb-true j 8 d))
  ])
])

-- ---- the words of union, intersection and difference
set-or : (a b : ℕ) → a < 2 → b < 2 → eqb (max a b) 1 ≡ (eqb a 1 || eqb b 1)
set-or a b p q = elim (cases_Bool (eqb a 1)) [
  | inl e ↦ let x = eqb-true a 1 e in rw e (eq-eqb (max a b) 1 (omega arith))
  | inr e ↦ let x = eqb-false a 1 e in let m : max a b ≡ b = omega arith in rw e (ap (λ (v : ℕ). eqb v 1) m)
]

set-and : (a b : ℕ) → a < 2 → b < 2 → eqb (min a b) 1 ≡ (eqb a 1 && eqb b 1)
set-and a b p q = elim (cases_Bool (eqb a 1)) [
  | inl e ↦ let x = eqb-true a 1 e in let m : min a b ≡ b = omega arith in rw e (ap (λ (v : ℕ). eqb v 1) m)
  | inr e ↦ let x = eqb-false a 1 e in rw e (ne_eqb (min a b) 1 (λ y. omega arith))
]

set-not : (b : ℕ) → b < 2 → eqb (1 - b) 1 ≡ not (eqb b 1)
set-not b q = elim (cases_Bool (eqb b 1)) [
  | inl e ↦ let x = eqb-true b 1 e in rw e (ne_eqb (1 - b) 1 (λ y. omega arith))
  | inr e ↦ let x = eqb-false b 1 e in rw e (eq-eqb (1 - b) 1 (omega arith))
]

pub bit_or-set : (a b n : ℕ) → eqb (bit_at (bit_or a b) n) 1 ≡ (eqb (bit_at a n) 1 || eqb (bit_at b n) 1)
bit_or-set a b n = ap (λ (v : ℕ). eqb v 1) (bit_at_or a b n) ∙ set-or _ _ (bit_at-lt a n) (bit_at-lt b n)

pub is_set-or : (a b i j : ℕ) → is_set (bit_or a b) i j ≡ (is_set a i j || is_set b i j)
is_set-or a b i j = bit_or-set a b (8 * i + j)

pub is_set-and : (a b i j : ℕ) → is_set (bit_and a b) i j ≡ (is_set a i j && is_set b i j)
is_set-and a b i j = ap (λ (v : ℕ). eqb v 1) (bit_at_and a b (8 * i + j)) ∙ set-and _ _ (bit_at-lt a (8 * i + j)) (bit_at-lt b (8 * i + j))

pub is_set-not : (b i j : ℕ) → b < 2 ^ 64 → i < 8 → j < 8 → is_set (bit_not w64 b) i j ≡ not (is_set b i j)
is_set-not b i j l p q = ap (λ (v : ℕ). eqb v 1) (bit_at_not w64 b (8 * i + j) l (omega arith)) ∙ set-not _ (bit_at-lt b (8 * i + j))

-- a test of two framed tests, which holds nowhere where they do not
framed-both : (op : Bool → Bool → Bool) → op false false ≡ false → (f g : Cells) → framed (λ i j. op (f i j) (g i j)) ≡ (λ i j. op (framed f i j) (framed g i j))
framed-both op z f g = same_cells _ _ (λ i j. elim (cases_Bool (ltb i 8)) [
  | inr e ↦ rw e (sym z)
  | inl e ↦ elim (cases_Bool (ltb j 8)) [ inr d ↦ rw (e, d) (sym z) | inl d ↦ rw (e, d) refl ]
])

pub block_cells-or : (a b : ℕ) → block_cells (bit_or a b) ≡ cells_union (block_cells a) (block_cells b)
block_cells-or a b =
    framed-agree _ _ (λ i j p q. is_set-or a b i j) ∙ framed-both (λ x y. x || y) refl (is_set a) (is_set b)

pub block_cells-and : (a b : ℕ) → block_cells (bit_and a b) ≡ cells_inter (block_cells a) (block_cells b)
block_cells-and a b =
    framed-agree _ _ (λ i j p q. is_set-and a b i j) ∙ framed-both (λ x y. x && y) refl (is_set a) (is_set b)

pub block_cells-and_not : (a b : ℕ) → b < 2 ^ 64 → block_cells (bit_and a (bit_not w64 b)) ≡ cells_diff (block_cells a) (block_cells b)
block_cells-and_not a b l =
    framed-agree _ _ (λ i j p q. is_set-and a (bit_not w64 b) i j ∙ ap (λ (t : Bool). is_set a i j && t) (is_set-not b i j l p q))
    ∙ framed-both (λ x y. x && not y) refl (is_set a) (is_set b)

-- ---- blocks and sets
pub block_cells-zero : block_cells 0 ≡ no_cells
block_cells-zero = same_cells _ _ (λ i j. and_right (ltb i 8) _ (and_right (ltb j 8) _ (ne_eqb (bit_at 0 (8 * i + j)) 1 (λ e. let z = bit_at-zero (8 * i + j) in omega arith))))

pub block_within : (a : ℕ) → IsWithinBlock (block_cells a)
block_within a i j h = let p = and_parts _ _ h in (ltb-true i 8 p.0, ltb-true j 8 (and_parts _ _ p.1).0)

-- a set within a block is the framed test of itself
pub framed_itself : (f : Cells) → IsWithinBlock f → framed f ≡ f
framed_itself f w = same_cells _ _ (λ i j. elim (cases_Bool (f i j)) [
  | inl e ↦ let p = w i j e in let a = lt-ltb i 8 p.0 in let b = lt-ltb j 8 p.1 in rw (a, b) refl
  | inr e ↦ and_right (ltb i 8) _ (and_right (ltb j 8) _ e) ∙ sym e
])

-- a block has a set where its bits are the tests of the set
pub block_is : (a : ℕ) (f : Cells) → IsWithinBlock f → ((i j : ℕ) → i < 8 → j < 8 → is_set a i j ≡ f i j) → block_cells a ≡ f
block_is a f w h = framed-agree (is_set a) f h ∙ framed_itself f w

same_bit : (p q : ℕ) → p < 2 → q < 2 → eqb p 1 ≡ eqb q 1 → p ≡ q
same_bit p q x y t = elim (cases_Bool (eqb p 1)) [
  | inl e ↦ eqb-true p 1 e ∙ sym (eqb-true q 1 (sym t ∙ e))
  | inr e ↦ let a = eqb-false p 1 e in let b = eqb-false q 1 (sym t ∙ e) in omega arith
]

cell_of_bit : (u v : ℕ) → block_cells u ≡ block_cells v → (m : ℕ) → m < 64 → bit_at u m ≡ bit_at v m
cell_of_bit u v e m l =
    let i : ℕ = m / 8 in
    let j : ℕ = m % 8 in
    let h : (ltb i 8 && (ltb j 8 && eqb (bit_at u (8 * i + j)) 1)) ≡ (ltb i 8 && (ltb j 8 && eqb (bit_at v (8 * i + j)) 1)) = ap (λ (c : Cells). c i j) e in
    let a : ltb i 8 ≡ true = lt-ltb i 8 (omega arith) in
    let b : ltb j 8 ≡ true = lt-ltb j 8 (omega arith) in
    let c : 8 * i + j ≡ m = omega arith in
    let t : eqb (bit_at u m) 1 ≡ eqb (bit_at v m) 1 = rw (a, b, c) at h in
    same_bit (bit_at u m) (bit_at v m) (bit_at-lt u m) (bit_at-lt v m) t

pub same_block : (a b : ℕ) → a < 2 ^ 64 → b < 2 ^ 64 → block_cells a ≡ block_cells b → a ≡ b
same_block a b p q e = same_from_bits_below 64 a b p q (cell_of_bit a b e)

pub same_block_iff : (a b : ℕ) → a < 2 ^ 64 → b < 2 ^ 64 → (a ≡ b) ↔ (block_cells a ≡ block_cells b)
same_block_iff a b p q = (λ e. ap block_cells e, λ e. same_block a b p q e)

-- ---- the block of a set
pub bits_below-lt : (f : Cells) (n : ℕ) → bits_below f n < 2 ^ n
bits_below-lt f zero = omega arith
bits_below-lt f (suc n) =
    let r = bits_below-lt f n in
    let e : 2 ^ suc n ≡ 2 * 2 ^ n = omega arith in
    elim (cases_Bool (f (n / 8) (n % 8))) [ inl t ↦ rw t (omega arith) | inr t ↦ rw t (omega arith) ]

bit_one : bit_at 1 0 ≡ 1
bit_one = refl

-- bit m is the cell that m stands for: by induction on n, as 2 ^ n sets the top bit and leaves those below it
pub bit-bits_below : (f : Cells) (n m : ℕ) → m < n → eqb (bit_at (bits_below f n) m) 1 ≡ f (m / 8) (m % 8)
bit-bits_below f zero m l = absurd (omega arith)
bit-bits_below f (suc n) m l =
    let r = bits_below-lt f n in
    elim (cases_Bool (eqb m n)) [
      | inl e ↦ let s : m ≡ n = eqb-true m n e in
          subst (λ (k : ℕ). eqb (bit_at (bits_below f (suc n)) k) 1 ≡ f (k / 8) (k % 8)) (sym s) (top_bit f n r)
      | inr e ↦ let x = eqb-false m n e in
          low_bit f n m (omega arith) ∙ bit-bits_below f n m (omega arith)
    ]
  where
    top_bit : (f : Cells) (n : ℕ) → bits_below f n < 2 ^ n → eqb (bit_at (bits_below f (suc n)) n) 1 ≡ f (n / 8) (n % 8)
    top_bit f n r = elim (cases_Bool (f (n / 8) (n % 8))) [
      | inl t ↦ rw t (
          let a : 2 ^ n + bits_below f n ≡ 1 * 2 ^ n + bits_below f n = omega arith in
          let z : n - n ≡ 0 = omega arith in
          eq-eqb _ 1 (ap (λ (v : ℕ). bit_at v n) a ∙ bit_at_cat_high 1 n (bits_below f n) n r (omega arith) ∙ ap (bit_at 1) z ∙ bit_one))
      | inr t ↦ rw t (
          let a : 0 + bits_below f n ≡ bits_below f n = omega arith in
          ne_eqb _ 1 (λ h. let b = ap (λ (v : ℕ). bit_at v n) a in let c = bit_at_above (bits_below f n) n n r (omega arith) in omega arith))
    ]

    low_bit : (f : Cells) (n m : ℕ) → m < n → eqb (bit_at (bits_below f (suc n)) m) 1 ≡ eqb (bit_at (bits_below f n) m) 1
    low_bit f n m l = elim (cases_Bool (f (n / 8) (n % 8))) [
      | inl t ↦ rw t (
          let a : 2 ^ n + bits_below f n ≡ 1 * 2 ^ n + bits_below f n = omega arith in
          ap (λ (v : ℕ). eqb v 1) (ap (λ (v : ℕ). bit_at v m) a ∙ bit_at_cat_low 1 n (bits_below f n) m l))
      | inr t ↦ rw t (
          let a : 0 + bits_below f n ≡ bits_below f n = omega arith in
          ap (λ (v : ℕ). eqb (bit_at v m) 1) a)
    ]

pub block_of-lt : (f : Cells) → block_of f < 2 ^ 64
unfolding block_of
block_of-lt f = bits_below-lt f 64

pub block_cells-block_of : (f : Cells) → IsWithinBlock f → block_cells (block_of f) ≡ f
unfolding block_of
block_cells-block_of f w = block_is (bits_below f 64) f w (λ i j p q.
    let a : (8 * i + j) / 8 ≡ i = omega arith in
    let b : (8 * i + j) % 8 ≡ j = omega arith in
    bit-bits_below f 64 (8 * i + j) (omega arith) ∙ ap (λ (k : ℕ). f k ((8 * i + j) % 8)) a ∙ ap (f i) b)
