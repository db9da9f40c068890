-- Sets in their places: four placed quarters are the placed square, the window of a square has the windows of its quarters, and a set that lies within a square is its own window.
use Rattle.std.proofs.Common.{◌≡◌, ◌<◌, ◌≤◌, ◌+◌, ◌-◌, ◌&&◌, ◌||◌, ◌⊎◌, leb, ltb, ℕ, Bool, true, false, refl, sym, ap, ◌∙◌, inl, inr, arith}
use Rattle.std.proofs.lemmas.Bool.{cases_lt, lt-ltb, le-ltb, le-leb, lt-leb, ltb-true, and_left, and_right, and_parts, and_from}
use Rattle.rel_model.specs.Cells.{Cells, no_cells, cells_union}
use Rattle.rel_model.specs.Trees.{quartered}
use Rattle.rel_model.proofs.TreeLaws.{Within, out_of, same_cells}
use Rattle.bit_rows.specs.Places.{placed, window}
use Rattle.bit_rows.specs.Closing.{IsClosure}

-- ---- placed quarters
off_row : (r c : ℕ) (f : Cells) (i j : ℕ) → i < r → placed r c f i j ≡ false
off_row r c f i j l = and_left (leb r i) _ (lt-leb r i l)

off_col : (r c : ℕ) (f : Cells) (i j : ℕ) → j < c → placed r c f i j ≡ false
off_col r c f i j l = and_right (leb r i) _ (and_left (leb c j) _ (lt-leb c j l))

on : (r c : ℕ) (f : Cells) (i j : ℕ) → r ≤ i → c ≤ j → placed r c f i j ≡ f (i - r) (j - c)
on r c f i j p q = ap (λ (t : Bool). t && (leb c j && f (i - r) (j - c))) (le-leb r i p) ∙ ap (λ (t : Bool). t && f (i - r) (j - c)) (le-leb c j q)

outside : (m r c : ℕ) (f : Cells) → Within m m f → (i j : ℕ) → r ≤ i → c ≤ j → ((m ≤ i - r) ⊎ (m ≤ j - c)) → placed r c f i j ≡ false
outside m r c f w i j p q h = on r c f i j p q ∙ out_of m m f w (i - r) (j - c) h

four_or : (x : Bool) {a b d e y : Bool} → a ≡ false → b ≡ false → d ≡ false → e ≡ false → y ≡ false → ((((x || a) || b) || d) || e) ≡ (x || y)
four_or x p q r s t = rw (p, q, r, s, t) (nothing x)
  where
    nothing : (x : Bool) → ((((x || false) || false) || false) || false) ≡ (x || false)
    nothing true = refl
    nothing false = refl

only_1 : (x : Bool) {a b d e y : Bool} → a ≡ y → b ≡ false → d ≡ false → e ≡ false → ((((x || a) || b) || d) || e) ≡ (x || y)
only_1 x {a} {b} {d} {e} {y} p q r s = rw (p, q, r, s) (just x y)
  where
    just : (x y : Bool) → ((((x || y) || false) || false) || false) ≡ (x || y)
    just true y = refl
    just false true = refl
    just false false = refl

only_2 : (x : Bool) {a b d e y : Bool} → a ≡ false → b ≡ y → d ≡ false → e ≡ false → ((((x || a) || b) || d) || e) ≡ (x || y)
only_2 x {a} {b} {d} {e} {y} p q r s = rw (p, q, r, s) (just x y)
  where
    just : (x y : Bool) → ((((x || false) || y) || false) || false) ≡ (x || y)
    just true y = refl
    just false true = refl
    just false false = refl

only_3 : (x : Bool) {a b d e y : Bool} → a ≡ false → b ≡ false → d ≡ y → e ≡ false → ((((x || a) || b) || d) || e) ≡ (x || y)
only_3 x {a} {b} {d} {e} {y} p q r s = rw (p, q, r, s) (just x y)
  where
    just : (x y : Bool) → ((((x || false) || false) || y) || false) ≡ (x || y)
    just true y = refl
    just false true = refl
    just false false = refl

only_4 : (x : Bool) {a b d e y : Bool} → a ≡ false → b ≡ false → d ≡ false → e ≡ y → ((((x || a) || b) || d) || e) ≡ (x || y)
only_4 x {a} {b} {d} {e} {y} p q r s = rw (p, q, r, s) (just x y)
  where
    just : (x y : Bool) → ((((x || false) || false) || false) || y) ≡ (x || y)
    just true y = refl
    just false y = refl

pub quartered_nw : (m : ℕ) (a b d e : Cells) (i j : ℕ) → i < m → j < m → quartered m a b d e i j ≡ a i j
quartered_nw m a b d e i j p q = let x = lt-ltb i m p in let y = lt-ltb j m q in rw (x, y) refl

pub quartered_ne : (m : ℕ) (a b d e : Cells) (i j : ℕ) → i < m → m ≤ j → quartered m a b d e i j ≡ b i (j - m)
quartered_ne m a b d e i j p q = let x = lt-ltb i m p in let y = le-ltb j m q in rw (x, y) refl

pub quartered_sw : (m : ℕ) (a b d e : Cells) (i j : ℕ) → m ≤ i → j < m → quartered m a b d e i j ≡ d (i - m) j
quartered_sw m a b d e i j p q = let x = le-ltb i m p in let y = lt-ltb j m q in rw (x, y) refl

pub quartered_se : (m : ℕ) (a b d e : Cells) (i j : ℕ) → m ≤ i → m ≤ j → quartered m a b d e i j ≡ e (i - m) (j - m)
quartered_se m a b d e i j p q = let x = le-ltb i m p in let y = le-ltb j m q in rw (x, y) refl

-- four quarters placed one by one are the placed square: a cell lies in at most one of them, and the others lack it
pub four_placed : (m r c : ℕ) (z a b d e : Cells) → Within m m a → Within m m b → Within m m d → Within m m e
    → cells_union (cells_union (cells_union (cells_union z (placed r c a)) (placed r (c + m) b)) (placed (r + m) c d)) (placed (r + m) (c + m) e) ≡ cells_union z (placed r c (quartered m a b d e))
four_placed m r c z a b d e wa wb wd we = same_cells _ _ (λ i j. here i j (cases_lt i r) (cases_lt j c) (cases_lt i (r + m)) (cases_lt j (c + m)))
  where
    here : (i j : ℕ) → ((i < r) ⊎ (r ≤ i)) → ((j < c) ⊎ (c ≤ j)) → ((i < r + m) ⊎ (r + m ≤ i)) → ((j < c + m) ⊎ (c + m ≤ j))
        → ((((z i j || placed r c a i j) || placed r (c + m) b i j) || placed (r + m) c d i j) || placed (r + m) (c + m) e i j) ≡ (z i j || placed r c (quartered m a b d e) i j)
    here i j (inl x) y u v = four_or (z i j) (off_row r c a i j x) (off_row r (c + m) b i j x) (off_row (r + m) c d i j (omega arith)) (off_row (r + m) (c + m) e i j (omega arith)) (off_row r c (quartered m a b d e) i j x)
    here i j (inr x) (inl y) u v = four_or (z i j) (off_col r c a i j y) (off_col r (c + m) b i j (omega arith)) (off_col (r + m) c d i j y) (off_col (r + m) (c + m) e i j (omega arith)) (off_col r c (quartered m a b d e) i j y)
    here i j (inr x) (inr y) (inl u) (inl v) =
        only_1 (z i j) (on r c a i j x y ∙ sym (quartered_nw m a b d e (i - r) (j - c) (omega arith) (omega arith)) ∙ sym (on r c (quartered m a b d e) i j x y))
        (off_col r (c + m) b i j v) (off_row (r + m) c d i j u) (off_row (r + m) (c + m) e i j u)
    here i j (inr x) (inr y) (inl u) (inr v) =
        let f : j - (c + m) ≡ j - c - m = omega arith in
        only_2 (z i j) (outside m r c a wa i j x y (inr (omega arith)))
        (on r (c + m) b i j x v ∙ ap (λ (k : ℕ). b (i - r) k) f ∙ sym (quartered_ne m a b d e (i - r) (j - c) (omega arith) (omega arith)) ∙ sym (on r c (quartered m a b d e) i j x y))
        (off_row (r + m) c d i j u) (off_row (r + m) (c + m) e i j u)
    here i j (inr x) (inr y) (inr u) (inl v) =
        let f : i - (r + m) ≡ i - r - m = omega arith in
        only_3 (z i j) (outside m r c a wa i j x y (inl (omega arith))) (off_col r (c + m) b i j v)
        (on (r + m) c d i j u y ∙ ap (λ (k : ℕ). d k (j - c)) f ∙ sym (quartered_sw m a b d e (i - r) (j - c) (omega arith) (omega arith)) ∙ sym (on r c (quartered m a b d e) i j x y))
        (off_col (r + m) (c + m) e i j v)
    here i j (inr x) (inr y) (inr u) (inr v) =
        let f : i - (r + m) ≡ i - r - m = omega arith in
        let g : j - (c + m) ≡ j - c - m = omega arith in
        only_4 (z i j) (outside m r c a wa i j x y (inl (omega arith))) (outside m r (c + m) b wb i j x v (inl (omega arith))) (outside m (r + m) c d wd i j u y (inr (omega arith)))
        (on (r + m) (c + m) e i j u v ∙ ap (λ (k : ℕ). e k (j - (c + m))) f ∙ ap (λ (k : ℕ). e (i - r - m) k) g
        ∙ sym (quartered_se m a b d e (i - r) (j - c) (omega arith) (omega arith)) ∙ sym (on r c (quartered m a b d e) i j x y))

-- ---- the window of a square
lower : (m i : ℕ) → m ≤ i → ltb i (m + m) ≡ ltb (i - m) m
lower m i l = elim (cases_lt (i - m) m) [
  | inl a ↦ lt-ltb i (m + m) (omega arith) ∙ sym (lt-ltb (i - m) m a)
  | inr a ↦ le-ltb i (m + m) (omega arith) ∙ sym (le-ltb (i - m) m a)
]

upper : (m i : ℕ) → i < m → ltb i (m + m) ≡ ltb i m
upper m i l = lt-ltb i (m + m) (omega arith) ∙ sym (lt-ltb i m l)

three : {p q x s t u : Bool} → p ≡ s → q ≡ t → x ≡ u → (p && (q && x)) ≡ (s && (t && u))
three a b d = cc

-- a window's quarters are windows of half its side: row and column tell the quarter, and past the middle they are
-- counted from there
pub window-quartered : (m r c : ℕ) (f : Cells) → window r c (m + m) f ≡ quartered m (window r c m f) (window r (c + m) m f) (window (r + m) c m f) (window (r + m) (c + m) m f)
window-quartered m r c f = same_cells _ _ (λ i j. here i j (cases_lt i m) (cases_lt j m))
  where
    here : (i j : ℕ) → ((i < m) ⊎ (m ≤ i)) → ((j < m) ⊎ (m ≤ j)) → window r c (m + m) f i j ≡ quartered m (window r c m f) (window r (c + m) m f) (window (r + m) c m f) (window (r + m) (c + m) m f) i j
    here i j (inl p) (inl q) = three (upper m i p) (upper m j q) refl ∙ sym (quartered_nw m (window r c m f) (window r (c + m) m f) (window (r + m) c m f) (window (r + m) (c + m) m f) i j p q)
    here i j (inl p) (inr q) =
        let g : c + j ≡ c + m + (j - m) = omega arith in
        three (upper m i p) (lower m j q) (ap (λ (k : ℕ). f (r + i) k) g) ∙ sym (quartered_ne m (window r c m f) (window r (c + m) m f) (window (r + m) c m f) (window (r + m) (c + m) m f) i j p q)
    here i j (inr p) (inl q) =
        let g : r + i ≡ r + m + (i - m) = omega arith in
        three (lower m i p) (upper m j q) (ap (λ (k : ℕ). f k (c + j)) g) ∙ sym (quartered_sw m (window r c m f) (window r (c + m) m f) (window (r + m) c m f) (window (r + m) (c + m) m f) i j p q)
    here i j (inr p) (inr q) =
        let g : r + i ≡ r + m + (i - m) = omega arith in
        let h : c + j ≡ c + m + (j - m) = omega arith in
        three (lower m i p) (lower m j q) (ap (λ (k : ℕ). f k (c + j)) g ∙ ap (λ (k : ℕ). f (r + m + (i - m)) k) h) ∙ sym (quartered_se m (window r c m f) (window r (c + m) m f) (window (r + m) c m f) (window (r + m) (c + m) m f) i j p q)

-- ---- a set added to another
-- no cell is added
pub union_none : (z f : Cells) (r c : ℕ) → f ≡ no_cells → z ≡ cells_union z (placed r c f)
union_none z f r c e = same_cells _ _ (λ i j. sym (or_none (z i j) (ap (λ (g : Cells). placed r c g i j) e ∙ and_right (leb r i) (leb c j && false) (and_right (leb c j) false refl))))
  where
    none_more : (a : Bool) → (a || false) ≡ a
    none_more true = refl
    none_more false = refl

    or_none : (a : Bool) {b : Bool} → b ≡ false → (a || b) ≡ a
    or_none a p = rw p (none_more a)

-- to no cell, from the first row and column on
alone : (z f : Cells) → z ≡ no_cells → cells_union z (placed 0 0 f) ≡ f
alone z f e = ap (λ (y : Cells). cells_union y (placed 0 0 f)) e ∙ same_cells _ _ (λ i j. first i j)
  where
    first : (i j : ℕ) → (false || placed 0 0 f i j) ≡ f i j
    first i j =
        let a : i - 0 ≡ i = omega arith in
        let b : j - 0 ≡ j = omega arith in
        ap (λ (t : Bool). t && (leb 0 j && f (i - 0) (j - 0))) (le-leb 0 i (omega arith))
        ∙ ap (λ (t : Bool). t && f (i - 0) (j - 0)) (le-leb 0 j (omega arith))
        ∙ ap (λ (k : ℕ). f k (j - 0)) a ∙ ap (λ (k : ℕ). f i k) b

pub spilled_alone : (z y f : Cells) → z ≡ no_cells → y ≡ cells_union z (placed 0 0 f) → y ≡ f
spilled_alone z y f e g = g ∙ alone z f e

-- a set within a square is its own window
pub window_whole : (m : ℕ) (f : Cells) → Within m m f → window 0 0 m f ≡ f
window_whole m f w = same_cells _ _ (λ i j. here i j (cases_lt i m) (cases_lt j m))
  where
    here : (i j : ℕ) → ((i < m) ⊎ (m ≤ i)) → ((j < m) ⊎ (m ≤ j)) → window 0 0 m f i j ≡ f i j
    here i j (inl p) (inl q) =
        let a : 0 + i ≡ i = omega arith in
        let b : 0 + j ≡ j = omega arith in
        ap (λ (t : Bool). t && (ltb j m && f (0 + i) (0 + j))) (lt-ltb i m p)
        ∙ ap (λ (t : Bool). t && f (0 + i) (0 + j)) (lt-ltb j m q)
        ∙ ap (λ (k : ℕ). f k (0 + j)) a ∙ ap (λ (k : ℕ). f i k) b
    here i j (inr p) q = and_left (ltb i m) (ltb j m && f (0 + i) (0 + j)) (le-ltb i m p) ∙ sym (out_of m m f w i j (inl p))
    here i j (inl p) (inr q) = and_right (ltb i m) (ltb j m && f (0 + i) (0 + j)) (and_left (ltb j m) (f (0 + i) (0 + j)) (le-ltb j m q)) ∙ sym (out_of m m f w i j (inr q))

-- ---- the closure
-- the rows and columns of a set, as a set that is transitive
pub closure_within : (m : ℕ) (f g : Cells) → Within m m f → IsClosure f g → Within m m g
closure_within m f g w c = record {
  row = λ i j h. ltb-true i m (and_parts _ _ (all i j h)).0;
  col = λ i j h. ltb-true j m (and_parts _ _ (all i j h)).1;
}
  where
    all : (i j : ℕ) → g i j ≡ true → (ltb i m && ltb j m) ≡ true
    all = c.least (λ i j. ltb i m && ltb j m)
        (λ i j e. and_from (ltb i m) (ltb j m) (lt-ltb i m (w.row i j e)) (lt-ltb j m (w.col i j e)))
        (λ i k j p q. and_from (ltb i m) (ltb j m) (and_parts (ltb i m) (ltb k m) p).0 (and_parts (ltb k m) (ltb j m) q).1)
