-- The number of cells of a leaf is the number of ones of its word, and the number of pairs of a relation is that of the cells of its square.
-- 1. The ones of a number are its bits that are 1, one after another, and so row by row.
-- 2. The pairs of a relation are those of the grid that pass, row by row.
-- 3. Rows and columns past the sizes have none, so any greater square has as many.
use Rattle.std.proofs.Common.{◌≡◌, ◌<◌, ◌≤◌, ◌+◌, ◌*◌, ◌^◌, ◌/◌, ◌%◌, eqb, ltb, zero, suc, ℕ, Bool, true, cond, length, filter, map, refl, sym, ap, ◌∙◌, inl, inr, arith}
use Rattle.std.specs.List.{flat_map, range_with_len}
use Rattle.std.specs.Int.{bit_at}
use Rattle.std.specs.Int.Count.{ones, ones_in}
use Rattle.std.proofs.Math.Nat.{pow-suc}
use Rattle.std.proofs.lemmas.Bool.{cases_Bool, cases_eq, lt-ltb, eqb-true, eqb-false}
use Rattle.std.proofs.lemmas.Nat.Bits.{bit_at-suc, bit_at_lowest}
use Rattle.std.proofs.lemmas.List.{length-append}
use Rattle.std.proofs.lemmas.List.Elements.{filter-append}
use Rattle.rel_model.specs.Relation.{Relation, IsRelation, has, row_of, relation_of}
use Rattle.rel_model.specs.Cells.{bits_cells}
use Rattle.rel_model.specs.Choice.{count_below, count}
use Rattle.rel_model.proofs.Relations.{of_itself}
use Rattle.rel_choice.specs.Counts.{sum_below, cells_count}
use Rattle.rel_choice.proofs.Sums.{count_below-split, count_below-agree, count_below-front, sum_below-agree, sum_below-front, cells_count-within}
use Rattle.rel_choice.proofs.Standing.{has-within}

-- ---- the ones of a number
ones_of-zero : (d : ℕ) → ones_in d 0 ≡ 0
unfolding ones_in
ones_of-zero zero = refl
ones_of-zero (suc d) = let i = ones_of-zero d in omega (arith, i)

ones-extended : (d e n : ℕ) → n < 2 ^ d → ones_in (d + e) n ≡ ones_in d n
unfolding ones_in
ones-extended zero e n l = let z : n ≡ 0 = omega arith in ap (λ (x : ℕ). ones_in (0 + e) x) z ∙ ones_of-zero (0 + e)
ones-extended (suc d) e n l =
    let s : suc d + e ≡ suc (d + e) = omega arith in
    let p : 2 ^ suc d ≡ 2 ^ d * 2 = pow-suc 2 d in
    let i = ones-extended d e (n / 2) (omega arith) in
    rw s (ap (λ (x : ℕ). n % 2 + x) i)

below_power : (n : ℕ) → n < 2 ^ n
below_power zero = omega arith
below_power (suc n) = let i = below_power n in let p : 2 ^ suc n ≡ 2 ^ n * 2 = pow-suc 2 n in omega (arith, i, p)

ones-width : (k n : ℕ) → n < 2 ^ k → ones n ≡ ones_in k n
unfolding ones
ones-width k n l =
    let e : n + k ≡ k + n = omega arith in
    sym (ones-extended n k n (below_power n)) ∙ ap (λ (x : ℕ). ones_in x n) e ∙ ones-extended k n n l

odd_one : (n : ℕ) → n % 2 ≡ cond (eqb (n % 2) 1) 1 0
odd_one n = elim (cases_Bool (eqb (n % 2) 1)) [
  | inl e ↦ rw e (eqb-true (n % 2) 1 e)
  | inr e ↦ (let f = eqb-false (n % 2) 1 e in rw e (let g : n % 2 < 2 = omega arith in elim (cases_eq (n % 2) 1) [ inl h ↦ absurd (f h) | inr h ↦ omega (arith, g, h) ]))
]

ones-counted : (k n : ℕ) → ones_in k n ≡ count_below k (λ i. eqb (bit_at n i) 1)
unfolding ones_in
ones-counted zero n = refl
ones-counted (suc k) n =
    let i = ones-counted k (n / 2) in
    let a = count_below-agree k (λ i. eqb (bit_at (n / 2) i) 1) (λ i. eqb (bit_at n (suc i)) 1) (λ i l. ap (λ (x : ℕ). eqb x 1) (sym (bit_at-suc n i))) in
    let f = count_below-front k (λ i. eqb (bit_at n i) 1) in
    let z : cond (eqb (bit_at n 0) 1) 1 0 ≡ n % 2 = ap (λ (x : ℕ). cond (eqb x 1) 1 0) (bit_at_lowest n) ∙ sym (odd_one n) in
    omega (arith, i, a, f, z)

-- a count by rows
count_below-rows : (m k : ℕ) (t : ℕ → Bool) → count_below (k * m) t ≡ sum_below k (λ i. count_below m (λ j. t (m * i + j)))
count_below-rows m zero t = let e : 0 * m ≡ 0 = omega arith in ap (λ (x : ℕ). count_below x t) e
count_below-rows m (suc k) t =
    let e : suc k * m ≡ k * m + m = omega arith in
    let s = count_below-split (k * m) m t in
    let i = count_below-rows m k t in
    let a = count_below-agree m (λ j. t (k * m + j)) (λ j. t (m * k + j)) (λ j l. let g : k * m + j ≡ m * k + j = omega arith in ap t g) in
    ap (λ (x : ℕ). count_below x t) e ∙ omega (arith, s, i, a)

-- the cells of a leaf are the ones of its word
pub bits-count : (m bits : ℕ) → bits < 2 ^ (m * m) → ones bits ≡ cells_count m m (bits_cells m bits)
bits-count m bits l =
    ones-width (m * m) bits l ∙ ones-counted (m * m) bits ∙ count_below-rows m m (λ i. eqb (bit_at bits i) 1)
    ∙ sum_below-agree m (λ i. count_below m (λ j. eqb (bit_at bits (m * i + j)) 1)) (λ i. count_below m (bits_cells m bits i))
    (λ i r. count_below-agree m (λ j. eqb (bit_at bits (m * i + j)) 1) (bits_cells m bits i) (λ j c. let s : ltb i m ≡ true = lt-ltb i m r in let t : ltb j m ≡ true = lt-ltb j m c in rw (s, t) refl))

-- ---- the pairs of a relation
row-count : (t : ℕ → ℕ → Bool) (i j n : ℕ) → length (filter (λ (p : ℕ × ℕ). t p.0 p.1) (map (λ k. (i, k)) (range_with_len j n))) ≡ count_below n (λ k. t i (j + k))
row-count t i j zero = refl
row-count t i j (suc n) =
    let r = row-count t i (j + 1) n in
    let f = count_below-front n (λ k. t i (j + k)) in
    let a = count_below-agree n (λ k. t i (j + 1 + k)) (λ k. t i (j + suc k)) (λ k l. let e : j + 1 + k ≡ j + suc k = omega arith in ap (t i) e) in
    let z : j + 0 ≡ j = omega arith in
    let g : cond {A = ℕ} (t i (j + 0)) 1 0 ≡ cond {A = ℕ} (t i j) 1 0 = ap (λ (x : ℕ). cond {A = ℕ} (t i x) 1 0) z in
    elim (cases_Bool (t i j)) [
      | inl e ↦ rw e (let h : cond {A = ℕ} (t i j) 1 0 ≡ 1 = ap (λ b. cond {A = ℕ} b 1 0) e in omega (arith, r, f, a, g, h))
      | inr e ↦ rw e (let h : cond {A = ℕ} (t i j) 1 0 ≡ 0 = ap (λ b. cond {A = ℕ} b 1 0) e in omega (arith, r, f, a, g, h))
    ]

rows-count : (t : ℕ → ℕ → Bool) (n i m : ℕ) → length (filter (λ (p : ℕ × ℕ). t p.0 p.1) (flat_map (row_of n) (range_with_len i m))) ≡ sum_below m (λ k. count_below n (t (i + k)))
rows-count t n i zero = refl
rows-count t n i (suc m) =
    let s = filter-append (λ (p : ℕ × ℕ). t p.0 p.1) (row_of n i) (flat_map (row_of n) (range_with_len (i + 1) m)) in
    let l = length-append (filter (λ (p : ℕ × ℕ). t p.0 p.1) (row_of n i)) (filter (λ (p : ℕ × ℕ). t p.0 p.1) (flat_map (row_of n) (range_with_len (i + 1) m))) in
    let r = rows-count t n (i + 1) m in
    let o = row-count t i 0 n in
    let b = count_below-agree n (λ k. t i (0 + k)) (t (i + 0)) (λ k l. let e : 0 + k ≡ k = omega arith in let g : i ≡ i + 0 = omega arith in ap (t i) e ∙ ap (λ (x : ℕ). t x k) g) in
    let f = sum_below-front m (λ k. count_below n (t (i + k))) in
    let a = sum_below-agree m (λ k. count_below n (t (i + 1 + k))) (λ k. count_below n (t (i + suc k))) (λ k l. let e : i + 1 + k ≡ i + suc k = omega arith in ap (λ (x : ℕ). count_below n (t x)) e) in
    ap length s ∙ l ∙ omega (arith, r, o, b, f, a)

-- the number of pairs is that of the cells within any greater square
pub pairs-count : (r : Relation) (m : ℕ) → IsRelation r → r.rows ≤ m → r.cols ≤ m → count r ≡ cells_count m m (has r)
unfolding relation_of
pairs-count r m v a b =
    let c = rows-count (has r) r.cols 0 r.rows in
    let e = sum_below-agree r.rows (λ k. count_below r.cols (has r (0 + k))) (λ k. count_below r.cols (has r k)) (λ k l. let z : 0 + k ≡ k = omega arith in ap (λ (x : ℕ). count_below r.cols (has r x)) z) in
    ap (λ x. length x.pairs) (of_itself r v) ∙ c ∙ e ∙ sym (cells_count-within m m r.rows r.cols (has r) a b (has-within r v))
