-- Sums and counts over the numbers below n, by halves, and sets of cells by quarters.
-- 1. A cell of each quarter is a cell of the square.
-- 2. A count and a sum below m + n are those below m and those of the next n.
-- 3. So the cells of a square are counted row by row, and each row half by half.
use Rattle.std.proofs.Common.{◌≡◌, ◌<◌, ◌≤◌, ◌+◌, ◌-◌, ◌*◌, ltb, zero, suc, ℕ, Bool, true, false, cond, refl, sym, ap, ◌∙◌, inl, inr, arith}
use Rattle.std.proofs.lemmas.Bool.{cases_Bool, lt-ltb, le-ltb}
use Rattle.rel_model.specs.Cells.{Cells, no_cells}
use Rattle.rel_model.specs.Trees.{quartered}
use Rattle.rel_model.specs.Choice.{count_below}
use Rattle.rel_choice.specs.Counts.{sum_below, cells_count}

-- ---- a cell of each quarter
pub quartered-nw : (m : ℕ) (a b c d : Cells) (i j : ℕ) → i < m → j < m → quartered m a b c d i j ≡ a i j
quartered-nw m a b c d i j l k = let s : ltb i m ≡ true = lt-ltb i m l in let t : ltb j m ≡ true = lt-ltb j m k in rw (s, t) refl

pub quartered-ne : (m : ℕ) (a b c d : Cells) (i j : ℕ) → i < m → quartered m a b c d i (m + j) ≡ b i j
quartered-ne m a b c d i j l =
    let s : ltb i m ≡ true = lt-ltb i m l in
    let t : ltb (m + j) m ≡ false = le-ltb (m + j) m (omega arith) in
    let e : m + j - m ≡ j = omega arith in
    rw (s, t, e) refl

pub quartered-sw : (m : ℕ) (a b c d : Cells) (i j : ℕ) → j < m → quartered m a b c d (m + i) j ≡ c i j
quartered-sw m a b c d i j l =
    let s : ltb (m + i) m ≡ false = le-ltb (m + i) m (omega arith) in
    let t : ltb j m ≡ true = lt-ltb j m l in
    let e : m + i - m ≡ i = omega arith in
    rw (s, t, e) refl

pub quartered-se : (m : ℕ) (a b c d : Cells) (i j : ℕ) → quartered m a b c d (m + i) (m + j) ≡ d i j
quartered-se m a b c d i j =
    let s : ltb (m + i) m ≡ false = le-ltb (m + i) m (omega arith) in
    let t : ltb (m + j) m ≡ false = le-ltb (m + j) m (omega arith) in
    let e : m + i - m ≡ i = omega arith in
    let f : m + j - m ≡ j = omega arith in
    rw (s, t, e, f) refl

-- ---- counts
pub count_below-split : (m n : ℕ) (t : ℕ → Bool) → count_below (m + n) t ≡ count_below m t + count_below n (λ k. t (m + k))
count_below-split m zero t = let e : m + 0 ≡ m = omega arith in rw e (omega arith)
count_below-split m (suc n) t =
    let e : m + suc n ≡ suc (m + n) = omega arith in
    let i = count_below-split m n t in
    rw e (omega (arith, i))

pub count_below-agree : (n : ℕ) (t u : ℕ → Bool) → ((k : ℕ) → k < n → t k ≡ u k) → count_below n t ≡ count_below n u
count_below-agree zero t u h = refl
count_below-agree (suc n) t u h =
    ap (λ b. count_below n t + cond b 1 0) (h n (omega arith)) ∙ ap (λ (x : ℕ). x + cond (u n) 1 0) (count_below-agree n t u (λ k l. h k (omega arith)))

pub count_below-none : (n : ℕ) (t : ℕ → Bool) → ((k : ℕ) → k < n → t k ≡ false) → count_below n t ≡ 0
count_below-none zero t h = refl
count_below-none (suc n) t h =
    let i = count_below-none n t (λ k l. h k (omega arith)) in
    let e = h n (omega arith) in
    rw e (omega (arith, i))

pub count_below-front : (n : ℕ) (t : ℕ → Bool) → count_below (suc n) t ≡ cond (t 0) 1 0 + count_below n (λ k. t (suc k))
count_below-front zero t = omega arith
count_below-front (suc n) t = let i = count_below-front n t in omega (arith, i)

pub count_below-limit : (n : ℕ) (t : ℕ → Bool) → count_below n t ≤ n
count_below-limit zero t = omega arith
count_below-limit (suc n) t = let i = count_below-limit n t in elim (cases_Bool (t n)) [ inl e ↦ rw e (omega (arith, i)) | inr e ↦ rw e (omega (arith, i)) ]

-- ---- sums
pub sum_below-split : (m n : ℕ) (g : ℕ → ℕ) → sum_below (m + n) g ≡ sum_below m g + sum_below n (λ k. g (m + k))
sum_below-split m zero g = let e : m + 0 ≡ m = omega arith in rw e (omega arith)
sum_below-split m (suc n) g =
    let e : m + suc n ≡ suc (m + n) = omega arith in
    let i = sum_below-split m n g in
    rw e (omega (arith, i))

pub sum_below-agree : (n : ℕ) (g h : ℕ → ℕ) → ((k : ℕ) → k < n → g k ≡ h k) → sum_below n g ≡ sum_below n h
sum_below-agree zero g h e = refl
sum_below-agree (suc n) g h e =
    let i = sum_below-agree n g h (λ k l. e k (omega arith)) in
    let x = e n (omega arith) in
    omega (arith, i, x)

pub sum_below-add : (n : ℕ) (g h : ℕ → ℕ) → sum_below n (λ k. g k + h k) ≡ sum_below n g + sum_below n h
sum_below-add zero g h = refl
sum_below-add (suc n) g h = let i = sum_below-add n g h in omega (arith, i)

pub sum_below-none : (n : ℕ) (g : ℕ → ℕ) → ((k : ℕ) → k < n → g k ≡ 0) → sum_below n g ≡ 0
sum_below-none zero g h = refl
sum_below-none (suc n) g h = let i = sum_below-none n g (λ k l. h k (omega arith)) in let e = h n (omega arith) in omega (arith, i, e)

pub sum_below-front : (n : ℕ) (g : ℕ → ℕ) → sum_below (suc n) g ≡ g 0 + sum_below n (λ k. g (suc k))
sum_below-front zero g = omega arith
sum_below-front (suc n) g = let i = sum_below-front n g in omega (arith, i)

-- ---- cells
pub cells_count-none : (m n : ℕ) → cells_count m n no_cells ≡ 0
cells_count-none m n = sum_below-none m _ (λ i l. count_below-none n (no_cells i) (λ j k. refl))

-- the count of a square is the sum of those of its quarters
pub cells_count-quartered : (m : ℕ) (a b c d : Cells) → cells_count (m + m) (m + m) (quartered m a b c d) ≡ (cells_count m m a + cells_count m m b) + (cells_count m m c + cells_count m m d)
cells_count-quartered m a b c d =
    let north = sum_below-agree m (λ i. count_below (m + m) (quartered m a b c d i)) (λ i. count_below m (a i) + count_below m (b i)) north_row in
    let south = sum_below-agree m (λ i. count_below (m + m) (quartered m a b c d (m + i))) (λ i. count_below m (c i) + count_below m (d i)) south_row in
    let n = sum_below-add m (λ i. count_below m (a i)) (λ i. count_below m (b i)) in
    let s = sum_below-add m (λ i. count_below m (c i)) (λ i. count_below m (d i)) in
    let e = sum_below-split m m (λ i. count_below (m + m) (quartered m a b c d i)) in
    omega (arith, north, south, n, s, e)
  where
    north_row : (i : ℕ) → i < m → count_below (m + m) (quartered m a b c d i) ≡ count_below m (a i) + count_below m (b i)
    north_row i l =
        let e = count_below-split m m (quartered m a b c d i) in
        let w = count_below-agree m (quartered m a b c d i) (a i) (λ j k. quartered-nw m a b c d i j l k) in
        let x = count_below-agree m (λ j. quartered m a b c d i (m + j)) (b i) (λ j k. quartered-ne m a b c d i j l) in
        omega (arith, e, w, x)

    south_row : (i : ℕ) → i < m → count_below (m + m) (quartered m a b c d (m + i)) ≡ count_below m (c i) + count_below m (d i)
    south_row i l =
        let e = count_below-split m m (quartered m a b c d (m + i)) in
        let w = count_below-agree m (quartered m a b c d (m + i)) (c i) (λ j k. quartered-sw m a b c d i j k) in
        let x = count_below-agree m (λ j. quartered m a b c d (m + i) (m + j)) (d i) (λ j k. quartered-se m a b c d i j) in
        omega (arith, e, w, x)

-- a square has at most as many cells as places
pub cells_count-limit : (m n : ℕ) (f : Cells) → cells_count m n f ≤ m * n
cells_count-limit zero n f = omega arith
cells_count-limit (suc m) n f = let i = cells_count-limit m n f in let l = count_below-limit n (f m) in let e : suc m * n ≡ m * n + n = omega arith in omega (arith, i, l, e)

-- rows and columns without cells may be left out
pub cells_count-within : (m n rows cols : ℕ) (f : Cells) → rows ≤ m → cols ≤ n → ((i j : ℕ) → f i j ≡ true → (i < rows) × (j < cols)) → cells_count m n f ≡ cells_count rows cols f
cells_count-within m n rows cols f l k h =
    let e : rows + (m - rows) ≡ m = omega arith in
    let s = sum_below-split rows (m - rows) (λ i. count_below n (f i)) in
    let z = sum_below-none (m - rows) (λ i. count_below n (f (rows + i))) (λ i u. count_below-none n (f (rows + i)) (λ j v. no_row i j)) in
    let a = sum_below-agree rows (λ i. count_below n (f i)) (λ i. count_below cols (f i)) (λ i u. narrow i) in
    ap (λ (x : ℕ). cells_count x n f) (sym e) ∙ omega (arith, s, z, a)
  where
    no_row : (i j : ℕ) → f (rows + i) j ≡ false
    no_row i j = elim (cases_Bool (f (rows + i) j)) [ inl t ↦ (let w = h (rows + i) j t in absurd (omega (arith, w.0))) | inr t ↦ t ]

    no_col : (i j : ℕ) → f i (cols + j) ≡ false
    no_col i j = elim (cases_Bool (f i (cols + j))) [ inl t ↦ (let w = h i (cols + j) t in absurd (omega (arith, w.1))) | inr t ↦ t ]

    narrow : (i : ℕ) → count_below n (f i) ≡ count_below cols (f i)
    narrow i =
        let e : cols + (n - cols) ≡ n = omega arith in
        let s = count_below-split cols (n - cols) (f i) in
        let z = count_below-none (n - cols) (λ j. f i (cols + j)) (λ j v. no_col i j) in
        ap (λ (x : ℕ). count_below x (f i)) (sym e) ∙ omega (arith, s, z)
