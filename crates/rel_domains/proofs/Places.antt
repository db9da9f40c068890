-- Places on the curve.
-- 1. A cell of a quarter has its place in the quarter, after the quarters before.
-- 2. Places are below the number of cells.
-- 3. Cells with one place are one cell.
use Rattle.std.proofs.Common.{◌≡◌, ◌≢◌, ◌<◌, ◌≤◌, ◌+◌, ◌-◌, ◌*◌, ◌^◌, ◌∙◌, cond, suc, zero, ℕ, refl, sym, ap, subst, arith, inl, inr}
use Rattle.std.proofs.lemmas.Bool.{cases_lt, lt-ltb, le-ltb}
use Rattle.std.proofs.lemmas.Nat.{pow-add, mul-pow, pow_pos, mul-le}
use Rattle.rel_domains.specs.Curve.{half, within_half, place}

-- ---- powers
pub side_step : (least depth : ℕ) → depth ≢ 0 → 2 ^ (least + depth) ≡ 2 * 2 ^ (least + (depth - 1))
side_step least depth n = let e : least + depth ≡ 1 + (least + (depth - 1)) = omega arith in ap (λ k. 2 ^ k) e ∙ pow-add 2 1 (least + (depth - 1))

pub cells_step : (least depth : ℕ) → depth ≢ 0 → 4 ^ (least + depth) ≡ 4 * 4 ^ (least + (depth - 1))
cells_step least depth n = let e : least + depth ≡ 1 + (least + (depth - 1)) = omega arith in ap (λ k. 4 ^ k) e ∙ pow-add 4 1 (least + (depth - 1))

-- ---- halves
half-low : (m i : ℕ) → i < m → half m i ≡ 0
half-low m i l = ap (λ b. cond b 0 1) (lt-ltb i m l)

half-high : (m i : ℕ) → m ≤ i → half m i ≡ 1
half-high m i l = ap (λ b. cond b 0 1) (le-ltb i m l)

within-low : (m i : ℕ) → i < m → within_half m i ≡ i
within-low m i l = ap (λ b. cond b i (i - m)) (lt-ltb i m l)

within-high : (m i : ℕ) → m ≤ i → within_half m i ≡ i - m
within-high m i l = ap (λ b. cond b i (i - m)) (le-ltb i m l)

-- ---- quarters
in_quarter : (least d i j a b x y : ℕ) → half (2 ^ (least + d)) i ≡ a → half (2 ^ (least + d)) j ≡ b → within_half (2 ^ (least + d)) i ≡ x → within_half (2 ^ (least + d)) j ≡ y
    → place least (suc d) i j ≡ (2 * a + b) * 4 ^ (least + d) + place least d x y
in_quarter least d i j a b x y p q r s = rw (p, q, r, s) refl

-- one height more: the quarter, and the place in it
pub place_step : (least depth i j : ℕ) → depth ≢ 0 → place least depth i j
    ≡ (2 * half (2 ^ (least + (depth - 1))) i + half (2 ^ (least + (depth - 1))) j) * 4 ^ (least + (depth - 1))
    + place least (depth - 1) (within_half (2 ^ (least + (depth - 1))) i) (within_half (2 ^ (least + (depth - 1))) j)
place_step least zero i j n = absurd (n refl)
place_step least (suc d) i j n =
    let e : d ≡ suc d - 1 = omega arith in
    subst (λ k. place least (suc d) i j ≡ (2 * half (2 ^ (least + k)) i + half (2 ^ (least + k)) j) * 4 ^ (least + k) + place least k (within_half (2 ^ (least + k)) i) (within_half (2 ^ (least + k)) j)) e refl

-- ---- bounds
pub squared : (least : ℕ) → 4 ^ least ≡ 2 ^ least * 2 ^ least
squared least = mul-pow 2 2 least

pub row_below : (m i j : ℕ) → i < m → j < m → m * i + j < m * m
row_below m i j a b = let p : m * (i + 1) ≤ m * m = mul-le m (i + 1) m m (omega arith) (omega arith) in omega arith

-- the four quarters of a square, and what holds in each
module _ (least d i j : ℕ) where
  abbrev m : ℕ
  m = 2 ^ (least + d)

  pub nw : i < m → j < m → place least (suc d) i j ≡ place least d i j
  nw a b = let e = in_quarter least d i j 0 0 i j (half-low m i a) (half-low m j b) (within-low m i a) (within-low m j b) in omega (arith, e)

  pub ne : i < m → m ≤ j → place least (suc d) i j ≡ 4 ^ (least + d) + place least d i (j - m)
  ne a b = let e = in_quarter least d i j 0 1 i (j - m) (half-low m i a) (half-high m j b) (within-low m i a) (within-high m j b) in omega (arith, e)

  pub sw : m ≤ i → j < m → place least (suc d) i j ≡ 2 * 4 ^ (least + d) + place least d (i - m) j
  sw a b = let e = in_quarter least d i j 1 0 (i - m) j (half-high m i a) (half-low m j b) (within-high m i a) (within-low m j b) in omega (arith, e)

  pub se : m ≤ i → m ≤ j → place least (suc d) i j ≡ 3 * 4 ^ (least + d) + place least d (i - m) (j - m)
  se a b = let e = in_quarter least d i j 1 1 (i - m) (j - m) (half-high m i a) (half-high m j b) (within-high m i a) (within-high m j b) in omega (arith, e)

pub double : (least d : ℕ) → 2 ^ (least + suc d) ≡ 2 ^ (least + d) + 2 ^ (least + d)
double least d = let e : least + suc d ≡ 1 + (least + d) = omega arith in let p = pow-add 2 1 (least + d) in omega (arith, ap (λ k. 2 ^ k) e, p)

pub fourfold : (least d : ℕ) → 4 ^ (least + suc d) ≡ 4 * 4 ^ (least + d)
fourfold least d = let e : least + suc d ≡ 1 + (least + d) = omega arith in ap (λ k. 4 ^ k) e ∙ pow-add 4 1 (least + d)

-- a place is below the number of cells, by induction: a quarter has a fourth of them, and at most three come before it
pub place_lt : (least d i j : ℕ) → i < 2 ^ (least + d) → j < 2 ^ (least + d) → place least d i j < 4 ^ (least + d)
place_lt least zero i j a b =
    let e : least + 0 ≡ least = omega arith in
    let p = row_below (2 ^ least) i j (subst (λ k. i < 2 ^ k) e a) (subst (λ k. j < 2 ^ k) e b) in
    omega (arith, p, squared least, ap (λ k. 4 ^ k) e)
place_lt least (suc d) i j a b =
    let m = 2 ^ (least + d) in
    let f = fourfold least d in
    let t = double least d in
    elim (cases_lt i m) [
      | inl p ↦ elim (cases_lt j m) [
        | inl q ↦ omega (arith, nw least d i j p q, place_lt least d i j p q, f)
        | inr q ↦ omega (arith, ne least d i j p q, place_lt least d i (j - m) p (omega arith), f)
      ]
      | inr p ↦ elim (cases_lt j m) [
        | inl q ↦ omega (arith, sw least d i j p q, place_lt least d (i - m) j (omega arith) q, f)
        | inr q ↦ omega (arith, se least d i j p q, place_lt least d (i - m) (j - m) (omega arith) (omega arith), f)
      ]
    ]

-- ---- one place, one cell
pub row_alone : (m i j x y : ℕ) → j < m → y < m → m * i + j ≡ m * x + y → (i ≡ x) × (j ≡ y)
row_alone m i j x y a b e = elim (cases_lt i x) [
  | inl l ↦ absurd (let p : m * (i + 1) ≤ m * x = mul-le m (i + 1) m x (omega arith) (omega arith) in omega arith)
  | inr l ↦ elim (cases_lt x i) [
    | inl k ↦ absurd (let p : m * (x + 1) ≤ m * i = mul-le m (x + 1) m i (omega arith) (omega arith) in omega arith)
    | inr k ↦ let f : i ≡ x = omega arith in (f, omega (arith, ap (λ n. m * n) f))
  ]
]

-- a cell by its quarter and its place there
record InQuarter (least d i j : ℕ) : Type 0 where
  a : ℕ
  b : ℕ
  x : ℕ
  y : ℕ
  a_is : a < 2
  b_is : b < 2
  x_is : x < 2 ^ (least + d)
  y_is : y < 2 ^ (least + d)
  row : i ≡ a * 2 ^ (least + d) + x
  col : j ≡ b * 2 ^ (least + d) + y
  here : place least (suc d) i j ≡ (2 * a + b) * 4 ^ (least + d) + place least d x y

-- each cell lies in one of four quarters: the half of its row and the half of its column tell which
quarter_of : (least d i j : ℕ) → i < 2 ^ (least + d) + 2 ^ (least + d) → j < 2 ^ (least + d) + 2 ^ (least + d) → InQuarter least d i j
quarter_of least d i j p q =
    let m = 2 ^ (least + d) in
    elim (cases_lt i m) [
      | inl k ↦ elim (cases_lt j m) [
        | inl l ↦ record { a = 0; b = 0; x = i; y = j; a_is = omega arith; b_is = omega arith; x_is = k; y_is = l; row = omega arith; col = omega arith; here = in_quarter least d i j 0 0 i j (half-low m i k) (half-low m j l) (within-low m i k) (within-low m j l) }
        | inr l ↦ record { a = 0; b = 1; x = i; y = j - m; a_is = omega arith; b_is = omega arith; x_is = k; y_is = omega arith; row = omega arith; col = omega arith; here = in_quarter least d i j 0 1 i (j - m) (half-low m i k) (half-high m j l) (within-low m i k) (within-high m j l) }
      ]
      | inr k ↦ elim (cases_lt j m) [
        | inl l ↦ record { a = 1; b = 0; x = i - m; y = j; a_is = omega arith; b_is = omega arith; x_is = omega arith; y_is = l; row = omega arith; col = omega arith; here = in_quarter least d i j 1 0 (i - m) j (half-high m i k) (half-low m j l) (within-high m i k) (within-low m j l) }
        | inr l ↦ record { a = 1; b = 1; x = i - m; y = j - m; a_is = omega arith; b_is = omega arith; x_is = omega arith; y_is = omega arith; row = omega arith; col = omega arith; here = in_quarter least d i j 1 1 (i - m) (j - m) (half-high m i k) (half-high m j l) (within-high m i k) (within-high m j l) }
      ]
    ]

-- two cells with one place are one cell, by induction: the place tells the quarter, and the place in it
pub place_one : (least d i j x y : ℕ) → i < 2 ^ (least + d) → j < 2 ^ (least + d) → x < 2 ^ (least + d) → y < 2 ^ (least + d) → place least d i j ≡ place least d x y → (i ≡ x) × (j ≡ y)
place_one least zero i j x y a b c e h = let z : least + 0 ≡ least = omega arith in row_alone (2 ^ least) i j x y (subst (λ k. j < 2 ^ k) z b) (subst (λ k. y < 2 ^ k) z e) h
place_one least (suc d) i j x y a b c e h =
    let m = 2 ^ (least + d) in
    let n = 4 ^ (least + d) in
    let t = double least d in
    let p = quarter_of least d i j (omega arith) (omega arith) in
    let q = quarter_of least d x y (omega arith) (omega arith) in
    let same : n * (2 * p.a + p.b) + place least d p.x p.y ≡ n * (2 * q.a + q.b) + place least d q.x q.y = one_number n (2 * p.a + p.b) _ (2 * q.a + q.b) _ _ _ p.here q.here h in
    let both = row_alone n (2 * p.a + p.b) (place least d p.x p.y) (2 * q.a + q.b) (place least d q.x q.y) (place_lt least d p.x p.y p.x_is p.y_is) (place_lt least d q.x q.y q.x_is q.y_is) same in
    let ones = two_bits p.a p.b q.a q.b p.a_is p.b_is q.a_is q.b_is both.0 in
    let rest = place_one least d p.x p.y q.x q.y p.x_is p.y_is q.x_is q.y_is both.1 in
    (one_line m p.a p.x q.a q.x i x p.row q.row ones.0 rest.0, one_line m p.b p.y q.b q.y j y p.col q.col ones.1 rest.1)
  where
    one_number : (n k r l s u v : ℕ) → u ≡ k * n + r → v ≡ l * n + s → u ≡ v → n * k + r ≡ n * l + s
    one_number n k r l s u v p q h = omega arith

    one_line : (m a x c z u v : ℕ) → u ≡ a * m + x → v ≡ c * m + z → a ≡ c → x ≡ z → u ≡ v
    one_line m a x c z u v p q e f = p ∙ ap (λ k. k * m + x) e ∙ ap (λ k. c * m + k) f ∙ sym q

    two_bits : (a b c e : ℕ) → a < 2 → b < 2 → c < 2 → e < 2 → 2 * a + b ≡ 2 * c + e → (a ≡ c) × (b ≡ e)
    two_bits a b c e p q r s h = (omega arith, omega arith)

-- ---- rooms
pub power_step : (depth : ℕ) → depth ≢ 0 → 4 ^ depth ≡ 4 * 4 ^ (depth - 1)
power_step depth n = let e : depth ≡ 1 + (depth - 1) = omega arith in ap (λ k. 4 ^ k) e ∙ pow-add 4 1 (depth - 1)

pub some_cells : (n : ℕ) → 0 < 4 ^ n
some_cells n = let e = mul-pow 2 2 n in let p = mul-le 1 1 (2 ^ n) (2 ^ n) (pow_pos n) (pow_pos n) in omega (arith, e, p)
