-- The word of a leaf: each cell sets its own bit.
use Rattle.std.proofs.Common.{◌≡◌, ◌≢◌, ◌==◌, ◌<◌, ◌≤◌, ◌+◌, ◌*◌, ◌%◌, ◌^◌, ◌∙◌, ◌||◌, ◌&&◌, max, ltb, ℕ, Bool, true, false, List, [], ◌∷◌, ◌++◌, length, sym, ap, refl, arith, inl, inr, bit_or}
use Rattle.std.specs.Int.{bit_at}
use Rattle.std.proofs.Math.Pow.{pow_mono}
use Rattle.std.proofs.lemmas.Bool.{cases_Bool, cases_lt, eqb-true, eqb-false, eq-eqb, ltb-true}
use Rattle.std.proofs.lemmas.Bool.Decides.{nat_tests}
use Rattle.std.proofs.lemmas.Nat.{pow_pos, pow-add, mul-le, or_lt}
use Rattle.std.proofs.lemmas.Nat.Bits.{bit_at_or, bit_at-lt, bit_at-pow_same, bit_at-pow_other, bit_at-zero}
use Rattle.std.proofs.lemmas.List.Folds.{list_any-append}
use Rattle.rel_model.specs.Cells.{Cells, cells_union, bits_cells}
use Rattle.rel_model.specs.Listed.{is_among}
use Rattle.rel_model.proofs.TreeLaws.{same_cells}
use Rattle.run_model.specs.Files.{Corner, number_of_bit}
use Rattle.k2_file.specs.Rests.{behind, pairs_below, cells_inside}
use Rattle.k2_file.proofs.ReadQuarters.{part_at, group-pairs, pairs-none}

-- ---- one bit
either-bit : (a b : ℕ) → a < 2 → b < 2 → (max a b == 1) ≡ ((a == 1) || (b == 1))
either-bit a b p q = grind (arith, nat_tests)

one-bit : (x k : ℕ) → (bit_at (2 ^ x) k == 1) ≡ (x == k)
one-bit x k = elim (cases_Bool (x == k)) [
  | inl t ↦ let e : x ≡ k = eqb-true x k t in ap (λ (s : ℕ). bit_at (2 ^ s) k == 1) e ∙ ap (λ (b : ℕ). b == 1) (bit_at-pow_same k) ∙ sym t
  | inr t ↦ let n : x ≢ k = eqb-false x k t in ap (λ (b : ℕ). b == 1) (bit_at-pow_other x k (λ e. n (omega arith))) ∙ sym t
]

-- cells of a square are apart in its word
row-alone : (m i j x y : ℕ) → j < m → y < m → m * i + j ≡ m * x + y → (i ≡ x) × (j ≡ y)
row-alone m i j x y a b e = elim (cases_lt i x) [
  | inl l ↦ absurd (let p : m * (i + 1) ≤ m * x = mul-le m (i + 1) m x (omega arith) (omega arith) in omega arith)
  | inr l ↦ elim (cases_lt x i) [
    | inl k ↦ absurd (let p : m * (x + 1) ≤ m * i = mul-le m (x + 1) m i (omega arith) (omega arith) in omega arith)
    | inr k ↦ let f : i ≡ x = omega arith in (f, omega (arith, ap (λ n. m * n) f))
  ]
]

-- in words of m bits a row two cells have one place exactly if they are in one row and one column
same-place : (m r c i j : ℕ) → c < m → j < m → (m * r + c == m * i + j) ≡ ((r == i) && (c == j))
same-place m r c i j a b = elim (cases_Bool (m * r + c == m * i + j)) [
  | inl t ↦ let e = row-alone m r c i j a b (eqb-true (m * r + c) (m * i + j) t) in
      t ∙ sym (ap (λ x. x && (c == j)) (eq-eqb r i e.0) ∙ ap (λ x. true && x) (eq-eqb c j e.1))
  | inr t ↦ t ∙ sym (apart (r == i) (c == j) (λ p q. eqb-false (m * r + c) (m * i + j) t (both (eqb-true r i p) (eqb-true c j q))))
]
  where
    both : r ≡ i → c ≡ j → m * r + c ≡ m * i + j
    both p q = ap (λ n. m * n + c) p ∙ ap (λ n. m * i + n) q

    apart : (x y : Bool) → (x ≡ true → y ≡ true → ⊥) → (x && y) ≡ false
    apart true true n = absurd (n refl refl)
    apart true false n = refl
    apart false y n = refl

two-tests : (s t x y z : Bool) → (s ≡ true → t ≡ true → x ≡ (y || z)) → (s && (t && x)) ≡ ((s && (t && y)) || (s && (t && z)))
two-tests true true x y z h = h refl refl
two-tests true false x y z h = refl
two-tests false t x y z h = refl

or-none : (b : Bool) → (b || false) ≡ b
or-none true = refl
or-none false = refl

-- a cell that is set
pub cell-set : (m word r c : ℕ) → c < m → bits_cells m (bit_or word (2 ^ (m * r + c))) ≡ cells_union (bits_cells m word) (cells_inside m (is_among ((r, c) ∷ [])))
cell-set m word r c l = same_cells _ _ (λ i j.
    two-tests (ltb i m) (ltb j m) (bit_at (bit_or word (2 ^ (m * r + c))) (m * i + j) == 1) (bit_at word (m * i + j) == 1) (is_among ((r, c) ∷ []) i j) (λ s t.
    ap (λ (v : ℕ). v == 1) (bit_at_or word (2 ^ (m * r + c)) (m * i + j))
    ∙ either-bit _ _ (bit_at-lt word (m * i + j)) (bit_at-lt (2 ^ (m * r + c)) (m * i + j))
    ∙ ap (λ b. (bit_at word (m * i + j) == 1) || b) (one-bit (m * r + c) (m * i + j) ∙ same-place m r c i j l (ltb-true j m t) ∙ sym (or-none ((r == i) && (c == j))))))

-- a cell outside the leaf is no cell of it
pub cell-past : (m word r c : ℕ) → (r < m → c < m → ⊥) → bits_cells m word ≡ cells_union (bits_cells m word) (cells_inside m (is_among ((r, c) ∷ [])))
cell-past m word r c n = same_cells _ _ (λ i j.
    two-tests (ltb i m) (ltb j m) (bit_at word (m * i + j) == 1) (bit_at word (m * i + j) == 1) (is_among ((r, c) ∷ []) i j) (λ s t.
    sym (ap (λ b. (bit_at word (m * i + j) == 1) || b) (other i j (ltb-true i m s) (ltb-true j m t)) ∙ or-none (bit_at word (m * i + j) == 1))))
  where
    other : (i j : ℕ) → i < m → j < m → (((r == i) && (c == j)) || false) ≡ false
    other i j p q = or-none ((r == i) && (c == j)) ∙ apart (r == i) (c == j) (λ x y. n (let e = eqb-true r i x in omega arith) (let e = eqb-true c j y in omega arith))
      where
        apart : (x y : Bool) → (x ≡ true → y ≡ true → ⊥) → (x && y) ≡ false
        apart true true n = absurd (n refl refl)
        apart true false n = refl
        apart false y n = refl

-- within 64 bits
pub bit-shifted : (s : ℕ) → s < 64 → 1 * 2 ^ s % 18446744073709551616 ≡ 2 ^ s
bit-shifted s l = let p : 2 ^ (1 + s) ≤ 2 ^ 64 = pow_mono {i = 1 + s} {j = 64} (omega arith) in let q = pow-add 2 1 s in omega (arith, p, q)

pub bit-small : (n word s : ℕ) → word < 2 ^ n → s < n → bit_or word (2 ^ s) < 2 ^ n
bit-small n word s a b = let p : 2 ^ (1 + s) ≤ 2 ^ n = pow_mono {i = 1 + s} {j = n} (omega arith) in let q = pow-add 2 1 s in or_lt n word (2 ^ s) a (omega (arith, p, q, pow_pos s))

pub place-below : (m i j : ℕ) → i < m → j < m → m * i + j < m * m
place-below m i j a b = let p : m * (i + 1) ≤ m * m = mul-le m (i + 1) m m (omega arith) (omega arith) in omega arith

pub place-few : (m i j : ℕ) → m ≤ 8 → i < m → j < m → m * i + j < 64
place-few m i j l a b = let p = place-below m i j a b in let q : m * m ≤ 8 * 8 = mul-le m m 8 8 l l in omega (arith, p, q)

-- ---- four quarters, one after another
add-two : (w s t p q : Bool) → ((w || (s && (t && p))) || (s && (t && q))) ≡ (w || (s && (t && (p || q))))
add-two true s t p q = refl
add-two false true true p q = refl
add-two false true false p q = refl
add-two false false t p q = refl

-- the cells of lists that were added, one after another
pub added-both : (m : ℕ) (w : Cells) (ps qs : List Corner)
    → cells_union (cells_union w (cells_inside m (is_among ps))) (cells_inside m (is_among qs)) ≡ cells_union w (cells_inside m (is_among (ps ++ qs)))
added-both m w ps qs = same_cells _ _ (λ i j.
    add-two (w i j) (ltb i m) (ltb j m) (is_among ps i j) (is_among qs i j)
    ∙ ap (λ b. w i j || (ltb i m && (ltb j m && b))) (sym (list_any-append (λ q. (q.0 == i) && (q.1 == j)) ps qs)))

pub added-none : (m : ℕ) (w : Cells) (rests : List (List Bool)) → w ≡ cells_union w (cells_inside m (is_among (pairs_below [] rests)))
added-none m w rests =
    same_cells _ _ (λ i j. sym (none (w i j) (ltb i m) (ltb j m))) ∙ ap (λ ps. cells_union w (cells_inside m (is_among ps))) (sym (pairs-none rests))
  where
    none : (b s t : Bool) → (b || (s && (t && false))) ≡ b
    none true s t = refl
    none false true true = refl
    none false true false = refl
    none false false t = refl

-- a group puts its cells into the word quarter by quarter: each one adds the pairs below it, and together these are the
-- pairs below the group
pub group-added : (m : ℕ) (w0 w1 w2 w3 w4 : Cells) (p : Corner) (a b c d : Bool) (bits xs : List Bool) (r0 r1 r2 r3 : List (List Bool)) (side : ℕ) → side ≡ 2 ^ length r0
    → bits ≡ a ∷ b ∷ c ∷ d ∷ xs → r1 ≡ behind (number_of_bit a) r0 → r2 ≡ behind (number_of_bit b) r1 → r3 ≡ behind (number_of_bit c) r2
    → w1 ≡ cells_union w0 (cells_inside m (is_among (pairs_below (part_at a p) r0)))
    → w2 ≡ cells_union w1 (cells_inside m (is_among (pairs_below (part_at b (p.0, p.1 + side)) r1)))
    → w3 ≡ cells_union w2 (cells_inside m (is_among (pairs_below (part_at c (p.0 + side, p.1)) r2)))
    → w4 ≡ cells_union w3 (cells_inside m (is_among (pairs_below (part_at d (p.0 + side, p.1 + side)) r3)))
    → w4 ≡ cells_union w0 (cells_inside m (is_among (pairs_below (p ∷ []) (bits ∷ r0))))
group-added m w0 w1 w2 w3 w4 p a b c d bits xs r0 r1 r2 r3 side e eb e1 e2 e3 h1 h2 h3 h4 =
    let l1 = pairs_below (part_at a p) r0 in
    let l2 = pairs_below (part_at b (p.0, p.1 + side)) r1 in
    let l3 = pairs_below (part_at c (p.0 + side, p.1)) r2 in
    let l4 = pairs_below (part_at d (p.0 + side, p.1 + side)) r3 in
    let u : Cells → List Corner → Cells = λ w ps. cells_union w (cells_inside m (is_among ps)) in
    h4 ∙ ap (λ w. u w l4) (h3 ∙ ap (λ w. u w l3) h2) ∙ added-both m (u w1 l2) l3 l4 ∙ added-both m w1 l2 (l3 ++ l4)
    ∙ ap (λ w. u w (l2 ++ (l3 ++ l4))) h1 ∙ added-both m w0 l1 (l2 ++ (l3 ++ l4))
    ∙ ap (u w0) (sym (ap (λ ys. pairs_below (p ∷ []) (ys ∷ r0)) eb ∙ group-pairs a b c d xs r0 r1 r2 r3 e1 e2 e3 side p e))

-- a word that began with no cell
pub word-cells : (n m word : ℕ) (f : Cells) → m ≡ n → bits_cells m word ≡ cells_union (bits_cells m 0) (cells_inside m f) → bits_cells n word ≡ cells_inside n f
word-cells n m word f e h =
    ap (λ (k : ℕ). bits_cells k word) (sym e) ∙ h
    ∙ same_cells _ _ (λ i j. ap (λ b. (ltb i m && (ltb j m && b)) || cells_inside m f i j) (ap (λ (b : ℕ). b == 1) (bit_at-zero (m * i + j))) ∙ none (ltb i m) (ltb j m) (cells_inside m f i j))
    ∙ ap (λ (k : ℕ). cells_inside k f) e
  where
    none : (s t b : Bool) → ((s && (t && false)) || b) ≡ b
    none true true b = refl
    none true false b = refl
    none false t b = refl
