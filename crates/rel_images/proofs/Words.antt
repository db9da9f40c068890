-- The elements of one word, and the image of a line by a leaf.
-- 1. A row of a leaf stands together in its word: bits from `m * i` on, m of them (`row-bit`).
-- 2. The image of a line is the union of the rows that it has (`rows_more`).
-- 3. By the leaf turned, it is the rows that meet the line: those whose word has a bit in common with the line's (`meets`).
use Rattle.std.proofs.Common.{◌≡◌, ◌≢◌, ◌<◌, ◌≤◌, ◌+◌, ◌-◌, ◌*◌, ◌/◌, ◌%◌, ◌^◌, ◌∙◌, ◌&&◌, ◌||◌, eqb, ltb, min, max, zero, suc, ℕ, Bool, true, false, refl, sym, ap, arith, inl, inr, bit_or, bit_and, w64}
use Rattle.std.specs.Int.{bit_at, trailing_zeros}
use Rattle.std.proofs.Math.Pow.{pow_mono}
use Rattle.std.proofs.Math.Nat.{pow-suc}
use Rattle.std.proofs.lemmas.Bool.{cases_eq, cases_lt, lt-ltb, le-ltb, eq-eqb, ne_eqb, eqb-true, and_left, and_right, and_parts, and_from}
use Rattle.std.proofs.lemmas.Bool.Decides.{nat_tests}
use Rattle.std.proofs.lemmas.Nat.{pow_pos, mul-le, or_lt, shr_split, mod_below, and_le_l}
use Rattle.std.proofs.lemmas.Nat.Bits.{bit_at_lowest, bit_at_or, bit_at_and, bit_at-lt, bit_at-zero, bit_at_above, bit_at_cat_low, bit_at_cat_high, bit_at-pow_same, bit_at-pow_other, bit_at-trailing_zeros}
use Rattle.rel_model.specs.Cells.{bits_cells, some_below}
use Rattle.rel_model.proofs.Somes.{not_true, some_from, some_none}
use Rattle.rel_model.proofs.TreeLaws.{same_cells}
use Rattle.rel_images.specs.Lines.{has_bit, byte_line, one_row, image_line, turned_cells}

-- ---- truth values
pub or-none : (a b : Bool) → b ≡ false → a ≡ (a || b)
or-none true b e = refl
or-none false b e = sym e

and-all : (a b : Bool) → b ≡ true → a ≡ (a && b)
and-all true b e = sym e
and-all false b e = refl

-- ---- bits
-- one bit shifted
pub one-shifted : (s : ℕ) → s ≤ 8 → 1 * 2 ^ s % 18446744073709551616 ≡ 2 ^ s
one-shifted s l = let p = pow_mono {i = s} {j = 8} l in omega (arith, p)

-- the low bits of a number
low-bit : (n m j : ℕ) → j < m → bit_at (n % 2 ^ m) j ≡ bit_at n j
low-bit n m j l = sym (bit_at_cat_low (n / 2 ^ m) m (n % 2 ^ m) j l) ∙ ap (λ (x : ℕ). bit_at x j) (shr_split n m)

-- its high bits
high-bit : (n s j : ℕ) → bit_at (n / 2 ^ s) j ≡ bit_at n (s + j)
high-bit n s j =
    let e : s + j - s ≡ j = omega arith in
    sym (bit_at_cat_high (n / 2 ^ s) s (n % 2 ^ s) (s + j) (mod_below n (2 ^ s) (pow_pos s)) (omega arith) ∙ ap (bit_at (n / 2 ^ s)) e) ∙ ap (λ (x : ℕ). bit_at x (s + j)) (shr_split n s)

-- a bit by division
bit-by : (n s : ℕ) → n / 2 ^ s % 2 ≡ bit_at n s
bit-by n s = let e : s + 0 ≡ s = omega arith in sym (bit_at_lowest (n / 2 ^ s)) ∙ high-bit n s 0 ∙ ap (bit_at n) e

either : (a b : ℕ) → a < 2 → b < 2 → eqb (max a b) 1 ≡ (eqb a 1 || eqb b 1)
either a b p q = grind (arith, nat_tests)

pub or-bits : (a b j : ℕ) → has_bit (bit_or a b) j ≡ (has_bit a j || has_bit b j)
or-bits a b j = ap (λ (x : ℕ). eqb x 1) (bit_at_or a b j) ∙ either (bit_at a j) (bit_at b j) (bit_at-lt a j) (bit_at-lt b j)

pub zero-bits : (j : ℕ) → has_bit 0 j ≡ false
zero-bits j = ne_eqb (bit_at 0 j) 1 (λ e. let z = bit_at-zero j in omega (arith, z, e))

-- a word has no bit past its end
pub past-bits : (w m j : ℕ) → w < 2 ^ m → m ≤ j → has_bit w j ≡ false
past-bits w m j l k = ne_eqb (bit_at w j) 1 (λ e. let z = bit_at_above w m j l k in omega (arith, z, e))

-- ---- a row of a leaf
pub row-less : (bits m i : ℕ) → m ≤ 8 → bits / 2 ^ (m * i) % (1 * 2 ^ m % 18446744073709551616) < 2 ^ m
row-less bits m i s = let e = one-shifted m s in rw e (mod_below (bits / 2 ^ (m * i)) (2 ^ m) (pow_pos m))

pub row-bit : (bits m i j : ℕ) → m ≤ 8 → i < m → j < m → has_bit (bits / 2 ^ (m * i) % (1 * 2 ^ m % 18446744073709551616)) j ≡ bits_cells m bits i j
row-bit bits m i j s l h =
    ap (λ (x : ℕ). has_bit (bits / 2 ^ (m * i) % x) j) (one-shifted m s)
    ∙ ap (λ (x : ℕ). eqb x 1) (low-bit (bits / 2 ^ (m * i)) m j h ∙ high-bit bits (m * i) j)
    ∙ sym (ap (λ b. b && (ltb j m && has_bit bits (m * i + j))) (lt-ltb i m l) ∙ ap (λ b. b && has_bit bits (m * i + j)) (lt-ltb j m h))

-- ---- the rows that a line has
pub row_added : (all row line m bits t j : ℕ) → line / 2 ^ t % 2 ≡ 1 → has_bit row j ≡ bits_cells m bits t j → has_bit (bit_or all row) j ≡ (has_bit all j || (has_bit line t && bits_cells m bits t j))
row_added all row line m bits t j e h =
    or-bits all row j ∙ ap (λ b. has_bit all j || b) (h ∙ ap (λ b. b && bits_cells m bits t j) (sym (eq-eqb (bit_at line t) 1 (sym (bit-by line t) ∙ e))))

pub row_left : (all line m bits t j : ℕ) → line / 2 ^ t % 2 ≢ 1 → has_bit all j ≡ (has_bit all j || (has_bit line t && bits_cells m bits t j))
row_left all line m bits t j n = or-none (has_bit all j) _ (and_left (has_bit line t) _ (ne_eqb (bit_at line t) 1 (λ e. n (bit-by line t ∙ e))))

-- the union of the first t rows that the line has
pub record AreRows (m bits line t all : ℕ) : Type 0 where
  pub less : all < 2 ^ m
  pub elements : (j : ℕ) → j < m → has_bit all j ≡ image_line t (has_bit line) (bits_cells m bits) j

pub rows_none : (m bits line : ℕ) → AreRows m bits line 0 0
rows_none m bits line = record { less = pow_pos m; elements = λ j l. zero-bits j }

or-turned : (a b : Bool) → (a || b) ≡ (b || a)
or-turned true true = refl
or-turned true false = refl
or-turned false true = refl
or-turned false false = refl

-- one number more
pub some-next : (n : ℕ) (t : ℕ → Bool) → some_below (n + 1) t ≡ (some_below n t || t n)
some-next n t = let e : n + 1 ≡ suc n = omega arith in ap (λ (k : ℕ). some_below k t) e ∙ or-turned (t n) (some_below n t)

pub rows_more : (m bits line t all next : ℕ) → next < 2 ^ m → ((j : ℕ) → j < m → has_bit next j ≡ (has_bit all j || (has_bit line t && bits_cells m bits t j))) → AreRows m bits line t all → AreRows m bits line (t + 1) next
rows_more m bits line t all next l h a = record {
  less = l;
  elements = λ j k. h j k ∙ ap (λ b. b || (has_bit line t && bits_cells m bits t j)) (a.elements j k) ∙ sym (some-next t (λ x. has_bit line x && bits_cells m bits x j));
}

pub rows_all : (m bits line t all : ℕ) → t ≡ m → AreRows m bits line t all → (j : ℕ) → j < m → has_bit all j ≡ image_line m (has_bit line) (bits_cells m bits) j
rows_all m bits line t all e a j l = a.elements j l ∙ ap (λ (n : ℕ). image_line n (has_bit line) (bits_cells m bits) j) e

-- ---- the rows that meet a line
-- whether a row of a leaf meets a line
abbrev pub row_meets : ℕ → ℕ → ℕ → ℕ → Bool
row_meets m bits line t = some_below m (λ k. has_bit line k && bits_cells m bits t k)

both-one : (a b : ℕ) → a < 2 → b < 2 → min a b ≡ 1 → (a ≡ 1) × (b ≡ 1)
both-one a b p q e = (omega (arith, p, q, e), omega (arith, p, q, e))

-- no bit in common
pub meets_none : (m bits line t row : ℕ) → ((j : ℕ) → j < m → has_bit row j ≡ bits_cells m bits t j) → bit_and row line ≡ 0 → row_meets m bits line t ≡ false
meets_none m bits line t row h e = some_none m _ (λ k l. not_true _ (λ p.
    let q = and_parts (has_bit line k) (bits_cells m bits t k) p in
    let a = eqb-true (bit_at line k) 1 q.0 in
    let b = eqb-true (bit_at row k) 1 (h k l ∙ q.1) in
    let c = bit_at_and row line k in
    let d = ap (λ (x : ℕ). bit_at x k) e in
    let z = bit_at-zero k in
    absurd (omega (arith, a, b, c, d, z))))

-- a bit in common
pub meets_some : (m bits line t row : ℕ) → m ≤ 8 → row < 2 ^ m → ((j : ℕ) → j < m → has_bit row j ≡ bits_cells m bits t j) → bit_and row line ≢ 0 → row_meets m bits line t ≡ true
meets_some m bits line t row s l h n =
    let p = pow_mono {i = m} {j = 8} s in
    let w = and_le_l row line in
    let z = bit_at-trailing_zeros w64 (bit_and row line) (omega (arith, n)) (omega (arith, p, w, l)) in
    let k : ℕ = trailing_zeros w64 (bit_and row line) in
    let b = both-one (bit_at row k) (bit_at line k) (bit_at-lt row k) (bit_at-lt line k) (sym (bit_at_and row line k) ∙ z.1) in
    elim (cases_lt k m) [
      | inl i ↦ some_from m _ k i (and_from _ _ (eq-eqb (bit_at line k) 1 b.1) (sym (h k i) ∙ eq-eqb (bit_at row k) 1 b.0))
      | inr i ↦ (let y = bit_at_above row m k l i in let x = b.0 in absurd (omega (arith, x, y)))
    ]

pub meeting_left : (all m bits line t j : ℕ) → row_meets m bits line t ≡ false → has_bit all j ≡ (has_bit all j || (eqb j t && row_meets m bits line t))
meeting_left all m bits line t j e = or-none (has_bit all j) _ (and_right (eqb j t) _ e)

pub pow-bit : (t j : ℕ) → has_bit (2 ^ t) j ≡ eqb j t
pow-bit t j = elim (cases_eq j t) [
  | inl e ↦ eq-eqb (bit_at (2 ^ t) j) 1 (ap (bit_at (2 ^ t)) e ∙ bit_at-pow_same t) ∙ sym (eq-eqb j t e)
  | inr e ↦ ne_eqb (bit_at (2 ^ t) j) 1 (λ y. let z = bit_at-pow_other t j e in omega (arith, y, z)) ∙ sym (ne_eqb j t e)
]

pub meeting_added : (all m bits line t j : ℕ) → m ≤ 8 → t < m → row_meets m bits line t ≡ true → has_bit (bit_or all (1 * 2 ^ t % 18446744073709551616)) j ≡ (has_bit all j || (eqb j t && row_meets m bits line t))
meeting_added all m bits line t j s l e =
    ap (λ (x : ℕ). has_bit (bit_or all x) j) (one-shifted t (omega (arith, s, l))) ∙ or-bits all (2 ^ t) j ∙ ap (λ b. has_bit all j || b) (pow-bit t j ∙ and-all (eqb j t) _ e)

pub meeting-less : (all m t : ℕ) → m ≤ 8 → t < m → all < 2 ^ m → bit_or all (1 * 2 ^ t % 18446744073709551616) < 2 ^ m
meeting-less all m t s l a =
    let e = one-shifted t (omega (arith, s, l)) in
    let p = pow_mono {i = suc t} {j = m} (omega (arith, l)) in
    let q : 2 ^ suc t ≡ 2 ^ t * 2 = pow-suc 2 t in
    let r = pow_pos t in
    rw e (or_lt m all (2 ^ t) a (omega (arith, p, q, r)))

-- those of the first t rows that meet the line
pub record AreMeetings (m bits line t all : ℕ) : Type 0 where
  pub less : all < 2 ^ m
  pub elements : (j : ℕ) → j < m → has_bit all j ≡ (ltb j t && row_meets m bits line j)

pub meetings_none : (m bits line : ℕ) → AreMeetings m bits line 0 0
meetings_none m bits line = record { less = pow_pos m; elements = λ j l. zero-bits j ∙ sym (and_left (ltb j 0) _ (le-ltb j 0 (omega arith))) }

pub meetings_more : (m bits line t all next : ℕ) → next < 2 ^ m → ((j : ℕ) → j < m → has_bit next j ≡ (has_bit all j || (eqb j t && row_meets m bits line t))) → AreMeetings m bits line t all → AreMeetings m bits line (t + 1) next
meetings_more m bits line t all next l h a = record {
  less = l;
  elements = λ j k. h j k ∙ ap (λ b. b || (eqb j t && row_meets m bits line t)) (a.elements j k) ∙ elim (cases_eq j t) [
    | inl e ↦ rw (eq-eqb j t e, le-ltb j t (omega (arith, e)), lt-ltb j (t + 1) (omega (arith, e))) (ap (row_meets m bits line) (sym e))
    | inr e ↦ elim (cases_lt j t) [
      | inl i ↦ rw (ne_eqb j t e, lt-ltb j t i, lt-ltb j (t + 1) (omega (arith, i))) (sym (or-none (row_meets m bits line j) false refl))
      | inr i ↦ rw (ne_eqb j t e, le-ltb j t i, le-ltb j (t + 1) (omega (arith, i, e))) refl
    ]
  ];
}

pub meetings_all : (m bits line t all : ℕ) → t ≡ m → AreMeetings m bits line t all → (j : ℕ) → j < m → has_bit all j ≡ image_line m (has_bit line) (turned_cells true (bits_cells m bits)) j
meetings_all m bits line t all e a j l = a.elements j l ∙ ap (λ b. b && row_meets m bits line j) (lt-ltb j t (omega (arith, e, l)))

-- the side of a leaf
pub leaf-side : (h least s : ℕ) → h ≡ least → least ≤ 3 → s ≡ 2 ^ h → s ≤ 8
leaf-side h least s e l k = let p = pow_mono {i = h} {j = 3} (omega (arith, e, l)) in omega (arith, p, k)

-- ---- a leaf of one row
pub line-cells : (line m : ℕ) → m ≤ 8 → bits_cells m (line % (1 * 2 ^ m % 18446744073709551616)) ≡ one_row (byte_line m line)
line-cells line m s = ap (λ (x : ℕ). bits_cells m (line % x)) (one-shifted m s) ∙ same_cells _ _ (λ a j. elim (cases_eq a 0) [
  | inl e ↦ elim (cases_lt j m) [
    | inl l ↦ (let k : m * a + j ≡ j = ap (λ (x : ℕ). m * x + j) e ∙ (let z : m * 0 + j ≡ j = omega arith in z) in
        rw (lt-ltb a m (omega (arith, e, l)), lt-ltb j m l, eq-eqb a 0 e) (ap (λ (x : ℕ). has_bit (line % 2 ^ m) x) k ∙ ap (λ (x : ℕ). eqb x 1) (low-bit line m j l)))
    | inr l ↦ rw (le-ltb j m l, eq-eqb a 0 e) (and_right (ltb a m) false refl)
  ]
  | inr e ↦ (let q = mul-le m 1 m a (omega arith) (omega (arith, e)) in
      rw (ne_eqb a 0 e) (and_right (ltb a m) _ (and_right (ltb j m) _ (past-bits (line % 2 ^ m) m (m * a + j) (mod_below line (2 ^ m) (pow_pos m)) (omega (arith, q))))))
])

-- the m bits of a line fit the word of a leaf, which has m * m
pub line-small : (line m : ℕ) → m ≤ 8 → line % (1 * 2 ^ m % 18446744073709551616) < 2 ^ (m * m)
line-small line m s =
    let e = one-shifted m s in
    let p = mod_below line (2 ^ m) (pow_pos m) in
    rw e (square m p)
  where
    square : (m : ℕ) → line % 2 ^ m < 2 ^ m → line % 2 ^ m < 2 ^ (m * m)
    square zero p = p
    square (suc n) p =
        let q = mul-le (suc n) 1 (suc n) (suc n) (omega arith) (omega arith) in
        let r = pow_mono {i = suc n} {j = suc n * suc n} (omega (arith, q)) in
        omega (arith, p, r)
