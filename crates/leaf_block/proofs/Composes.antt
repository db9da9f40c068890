-- The composition of two blocks.
-- 1. A step keeps, in the lane of row i, row k of the second block where the first block has cell (i, k).
-- 2. The lanes of the steps, joined by or, are the rows of the composition: twice eight rows, with the middle elements 0 to 3 in the first half and 4 to 7 in the second.
-- 3. The or of the eight tests is that of the definition, with other brackets.
use Rattle.std.proofs.Common.{◌≡◌, ◌<◌, ◌+◌, ◌-◌, ◌*◌, ◌^◌, ◌&&◌, ◌||◌, ◌++◌, eqb, ltb, zero, suc, ℕ, Bool, true, false, cond, List, [], ◌∷◌, refl, sym, ap, subst, ◌∙◌, inl, inr, arith, get_or, length, map, replicate, bit_and, bit_or, w8, Fits}
use Rattle.std.proofs.lemmas.Bool.{cases_Bool, lt-ltb, eqb-true, eqb-false, eq-eqb, ne_eqb, and_parts, or_cases, false≢true}
use Rattle.std.proofs.lemmas.List.{get_or-map, get_or-replicate, get_or_append_left, get_or-append_right}
use Rattle.std.proofs.lemmas.Nat.{or_lt, pow_pos}
use Rattle.std.proofs.lemmas.Nat.Bits.{bit_at-lt, bit_at-zero, and_pow}
use Rattle.std.proofs.lemmas.Simd.{tops_compared, length-zip2, length-sel_l, get_or-sel_l, get_or-zip2, Each1-get_or, Each1-from_get_or}
use lib.Lanes.{Each1, zip2, sel_l, top, pick_l, number_l, digits_l}
use Rattle.std.specs.Int.{bit_at}
use Rattle.rel_model.specs.Cells.{block_cells, cells_compose, some_below}
use Rattle.leaf_block.specs.Lanes.{IsPicked}
use Rattle.leaf_block.specs.Blocks.{IsWithinBlock}
use Rattle.leaf_block.proofs.Bits.{bit-digits, bit-number}
use Rattle.leaf_block.proofs.Sets.{block_is, block_within, is_set, is_set-or, bit_or-set}

-- ---- a step
abbrev pub all_ones : Bool → ℕ
all_ones t = cond t (2 ^ 8 - 1) 0

-- a step keeps a lane of `row` where `rows` has all of `bits` in that lane, and clears it elsewhere: every instruction
-- works lane by lane
pub picked-lanes : (rows bits row : List ℕ) → (length rows ≡ 16) × Each1 (Fits w8) rows → (length bits ≡ 16) × Each1 (Fits w8) bits → (length row ≡ 16) × Each1 (Fits w8) row
    → IsPicked rows bits row (sel_l (map (top 7) (zip2 (λ a b. all_ones (eqb a b)) (zip2 bit_and rows bits) bits)) row (replicate 16 0))
picked-lanes rows bits row f g h =
    let kept = zip2 bit_and rows bits in
    let tests = zip2 eqb kept bits in
    let long_kept : length kept ≡ 16 = length-zip2 bit_and rows bits (omega arith) ∙ f.0 in
    let long : length tests ≡ 16 = length-zip2 eqb kept bits (omega arith) ∙ long_kept in
    let is = ap (λ (ms : List Bool). sel_l ms row (replicate 16 0)) (tops_compared w8 eqb kept bits) in
    let lane : (i : ℕ) → i < 16 → get_or (sel_l tests row (replicate 16 0)) i 0 ≡ cond (eqb (bit_and (get_or rows i 0) (get_or bits i 0)) (get_or bits i 0)) (get_or row i 0) 0 =
    λ i l.
    get_or-sel_l tests row (replicate 16 0) i 0 (omega arith) (omega arith) l
    ∙ ap (λ (t : Bool). cond t (get_or row i 0) (get_or (replicate 16 0) i 0)) (get_or-zip2 eqb kept bits i 0 0 false (omega arith) (omega arith))
    ∙ ap (λ (v : ℕ). cond (eqb v (get_or bits i 0)) (get_or row i 0) (get_or (replicate 16 0) i 0)) (get_or-zip2 bit_and rows bits i 0 0 0 (omega arith) (omega arith))
    ∙ ap (λ (v : ℕ). cond (eqb (bit_and (get_or rows i 0) (get_or bits i 0)) (get_or bits i 0)) (get_or row i 0) v) (get_or-replicate 16 i 0 0 l) in
    let lanes : (i : ℕ) → i < 16 → get_or (sel_l (map (top 7) (zip2 (λ a b. all_ones (eqb a b)) kept bits)) row (replicate 16 0)) i 0 ≡ cond (eqb (bit_and (get_or rows i 0) (get_or bits i 0)) (get_or bits i 0)) (get_or row i 0) 0 =
    λ i l. ap (λ (v : List ℕ). get_or v i 0) is ∙ lane i l in
    record {
      len = ap length is ∙ length-sel_l tests row (replicate 16 0) (omega arith) long ∙ long;
      lanes = lanes;
      fits = λ i l.
          let small : get_or row i 0 < 2 ^ 8 = (Each1-get_or (Fits w8) row i 0 (omega arith) h.1).fits in
          subst (λ (v : ℕ). v < 2 ^ 8) (sym (lanes i l)) (cond_small (eqb (bit_and (get_or rows i 0) (get_or bits i 0)) (get_or bits i 0)) (get_or row i 0) small);
    }
  where
    cond_small : (t : Bool) (x : ℕ) → x < 2 ^ 8 → cond t x 0 < 2 ^ 8
    cond_small true x l = l
    cond_small false x l = omega arith

-- ---- the rows of a block, twice
abbrev pub rows_twice : ℕ → List ℕ
rows_twice a = digits_l (2 ^ 8) 16 (number_l (2 ^ 64) (a ∷ a ∷ []))

-- eight lanes of one number, and eight of another
abbrev pub halves : ℕ → ℕ → List ℕ
halves x y = replicate 8 x ++ replicate 8 y

-- row k of a block in the first half, and row k + 4 in the second
abbrev pub row_pair : ℕ → ℕ → ℕ → List ℕ
row_pair b k l = pick_l 0 (rows_twice b ++ rows_twice b) (halves k l)

two_of : (a h : ℕ) → h < 2 → get_or (a ∷ a ∷ []) h 0 ≡ a
two_of a zero l = refl
two_of a (suc zero) l = refl
two_of a (suc (suc h)) l = absurd (omega arith)

-- the lane l of half h and row i
pub bit-rows_twice : (a h l i j : ℕ) → a < 2 ^ 64 → h < 2 → i < 8 → j < 8 → l ≡ 8 * h + i → bit_at (get_or (rows_twice a) l 0) j ≡ bit_at a (8 * i + j)
bit-rows_twice a h l i j b p q r is =
    let e : 8 * l + j ≡ 64 * h + (8 * i + j) = omega arith in
    bit-digits 8 16 (number_l (2 ^ 64) (a ∷ a ∷ [])) l j (omega arith) r
    ∙ ap (bit_at (number_l (2 ^ 64) (a ∷ a ∷ []))) e
    ∙ bit-number 64 (a ∷ a ∷ []) h (8 * i + j) (b, (b, tt)) (omega arith)
    ∙ ap (λ (v : ℕ). bit_at v (8 * i + j)) (two_of a h p)

low_half : (x y l : ℕ) → l < 8 → get_or (halves x y) l 0 ≡ x
low_half x y l p = get_or_append_left (replicate 8 x) (replicate 8 y) 0 l (omega arith) ∙ get_or-replicate 8 l x 0 p

high_half : (x y l i : ℕ) → i < 8 → l ≡ 8 + i → get_or (halves x y) l 0 ≡ y
high_half x y l i p e =
    let d : l - 8 ≡ i = omega arith in
    get_or-append_right (replicate 8 x) (replicate 8 y) 8 l 0 refl (omega arith) ∙ ap (λ (k : ℕ). get_or (replicate 8 y) k 0) d ∙ get_or-replicate 8 i y 0 p

-- ---- a bit of a step
has_bit : (x m : ℕ) → eqb (bit_and x (2 ^ m)) (2 ^ m) ≡ eqb (bit_at x m) 1
has_bit x m =
    let p = pow_pos m in
    let q = bit_at-lt x m in
    let e = and_pow x m in
    elim (cases_Bool (eqb (bit_at x m) 1)) [
      | inl t ↦ (let o : bit_at x m ≡ 1 = eqb-true _ 1 t in let f : bit_at x m * 2 ^ m ≡ 2 ^ m = ap (λ (v : ℕ). v * 2 ^ m) o ∙ omega arith in eq-eqb _ _ (e ∙ f) ∙ sym t)
      | inr t ↦ (let n = eqb-false _ 1 t in let o : bit_at x m ≡ 0 = omega arith in let f : bit_at x m * 2 ^ m ≡ 0 = ap (λ (v : ℕ). v * 2 ^ m) o ∙ omega arith in ne_eqb _ _ (λ d. omega arith) ∙ sym t)
    ]

pub chosen_bit : (t : Bool) (x j : ℕ) → eqb (bit_at (cond t x 0) j) 1 ≡ (t && eqb (bit_at x j) 1)
chosen_bit true x j = refl
chosen_bit false x j = let z = bit_at-zero j in ne_eqb (bit_at 0 j) 1 (λ e. omega arith)

-- lane l has row i, and the step is at the middle element m
pub step-bit : (a b : ℕ) (bits row s : List ℕ) → a < 2 ^ 64 → b < 2 ^ 64 → IsPicked (rows_twice a) bits row s
    → (h l i j m : ℕ) → h < 2 → i < 8 → j < 8 → m < 8 → l ≡ 8 * h + i → get_or bits l 0 ≡ 2 ^ m → get_or row l 0 ≡ get_or (rows_twice b) m 0
    → eqb (bit_at (get_or s l 0) j) 1 ≡ (is_set a i m && is_set b m j)
step-bit a b bits row s p q picked h l i j m ph pi pj pm is mark at =
    let x = get_or (rows_twice a) l 0 in
    ap (λ (v : ℕ). eqb (bit_at v j) 1) (picked.lanes l (omega arith))
    ∙ ap (λ (v : ℕ). eqb (bit_at (cond (eqb (bit_and x v) v) (get_or row l 0) 0) j) 1) mark
    ∙ chosen_bit (eqb (bit_and x (2 ^ m)) (2 ^ m)) (get_or row l 0) j
    ∙ ap (λ (t : Bool). t && eqb (bit_at (get_or row l 0) j) 1) (has_bit x m ∙ ap (λ (v : ℕ). eqb v 1) (bit-rows_twice a h l i m p ph pi pm is))
    ∙ ap (λ (v : ℕ). is_set a i m && eqb (bit_at v j) 1) at
    ∙ ap (λ (v : ℕ). is_set a i m && eqb v 1) (bit-rows_twice b 0 m m j q (omega arith) pm pj (omega arith))

-- ---- the steps together
abbrev pub all_steps : List ℕ → List ℕ → List ℕ → List ℕ → List ℕ
all_steps s0 s1 s2 s3 = zip2 bit_or s3 (zip2 bit_or s2 (zip2 bit_or s1 s0))

pub record AllSteps (s0 s1 s2 s3 : List ℕ) : Type 0 where
  pub len : length (all_steps s0 s1 s2 s3) ≡ 16
  pub lanes : (l : ℕ) → l < 16 → get_or (all_steps s0 s1 s2 s3) l 0 ≡ bit_or (get_or s3 l 0) (bit_or (get_or s2 l 0) (bit_or (get_or s1 l 0) (get_or s0 l 0)))

-- four steps joined by or: each lane is the or of their lanes there
pub all_lanes : (s0 s1 s2 s3 : List ℕ) → length s0 ≡ 16 → length s1 ≡ 16 → length s2 ≡ 16 → length s3 ≡ 16 → AllSteps s0 s1 s2 s3
all_lanes s0 s1 s2 s3 a b c d =
    let t1 = zip2 bit_or s1 s0 in
    let t2 = zip2 bit_or s2 t1 in
    let e1 : length t1 ≡ 16 = length-zip2 bit_or s1 s0 (omega arith) ∙ b in
    let e2 : length t2 ≡ 16 = length-zip2 bit_or s2 t1 (omega arith) ∙ c in
    let e3 : length (zip2 bit_or s3 t2) ≡ 16 = length-zip2 bit_or s3 t2 (omega arith) ∙ d in
    record {
      len = e3;
      lanes = λ l h.
          get_or-zip2 bit_or s3 t2 l 0 0 0 (omega arith) (omega arith)
          ∙ ap (bit_or (get_or s3 l 0)) (get_or-zip2 bit_or s2 t1 l 0 0 0 (omega arith) (omega arith) ∙ ap (bit_or (get_or s2 l 0)) (get_or-zip2 bit_or s1 s0 l 0 0 0 (omega arith) (omega arith)));
    }

-- a bit of the half h of sixteen lanes, as two words
pub half-bit : (all : List ℕ) → Each1 (λ x. x < 2 ^ 8) all → (h l i j : ℕ) → h < 2 → i < 8 → j < 8 → l ≡ 8 * h + i
    → eqb (bit_at (get_or (digits_l (2 ^ 64) 2 (number_l (2 ^ 8) all)) h 0) (8 * i + j)) 1 ≡ eqb (bit_at (get_or all l 0) j) 1
half-bit all f h l i j ph pi pj is =
    let e : 64 * h + (8 * i + j) ≡ 8 * l + j = omega arith in
    ap (λ (v : ℕ). eqb v 1)
    (bit-digits 64 2 (number_l (2 ^ 8) all) h (8 * i + j) ph (omega arith) ∙ ap (bit_at (number_l (2 ^ 8) all)) e ∙ bit-number 8 all l j f pj)

or_four : (s0 s1 s2 s3 j : ℕ) → eqb (bit_at (bit_or s3 (bit_or s2 (bit_or s1 s0))) j) 1 ≡ (eqb (bit_at s3 j) 1 || (eqb (bit_at s2 j) 1 || (eqb (bit_at s1 j) 1 || eqb (bit_at s0 j) 1)))
or_four s0 s1 s2 s3 j =
    bit_or-set s3 (bit_or s2 (bit_or s1 s0)) j
    ∙ ap (λ (t : Bool). eqb (bit_at s3 j) 1 || t) (bit_or-set s2 (bit_or s1 s0) j ∙ ap (λ (t : Bool). eqb (bit_at s2 j) 1 || t) (bit_or-set s1 s0 j))

brackets : (a b c d e f g h : Bool) → ((a || (b || (c || d))) || (e || (f || (g || h)))) ≡ (a || (b || (c || (d || (e || (f || (g || (h || false))))))))
brackets true b c d e f g h = refl
brackets false true c d e f g h = refl
brackets false false true d e f g h = refl
brackets false false false true e f g h = refl
brackets false false false false e f g true = refl
brackets false false false false e f g false = refl

-- what the half h of sixteen lanes has, where each half has one number
half_at : (g : ℕ → ℕ) (h l i : ℕ) → h < 2 → i < 8 → l ≡ 8 * h + i → get_or (halves (g 0) (g 1)) l 0 ≡ g h
half_at g zero l i p q e = low_half (g 0) (g 1) l (omega arith)
half_at g (suc zero) l i p q e = high_half (g 0) (g 1) l i q (omega arith)
half_at g (suc (suc h)) l i p q e = absurd (omega arith)

length-rows_twice : (a : ℕ) → length (rows_twice a) ≡ 16
length-rows_twice a = refl

-- each lane of half h picks row 4 * h + k of the block, since that half has the same number in all its lanes
row_at : (b k h l i : ℕ) → k < 4 → h < 2 → i < 8 → l ≡ 8 * h + i → get_or (row_pair b (4 * 0 + k) (4 * 1 + k)) l 0 ≡ get_or (rows_twice b) (4 * h + k) 0
row_at b k h l i r p q e =
    let rows = rows_twice b in
    let n = length-rows_twice b in
    get_or-map (λ (v : ℕ). get_or (rows ++ rows) v 0) (halves (4 * 0 + k) (4 * 1 + k)) l 0 0 (omega arith)
    ∙ ap (λ (v : ℕ). get_or (rows ++ rows) v 0) (half_at (λ v. 4 * v + k) h l i p q e)
    ∙ get_or_append_left rows rows 0 (4 * h + k) (omega arith)

-- whether the middle element m joins row i to column j
abbrev pub joins : ℕ → ℕ → ℕ → ℕ → ℕ → Bool
joins a b i j m = is_set a i m && is_set b m j

-- step k, with the middle element k in the first half and k + 4 in the second
abbrev pub IsStep : ℕ → ℕ → ℕ → List ℕ → Type 0
IsStep a b k s = IsPicked (rows_twice a) (halves (2 ^ (4 * 0 + k)) (2 ^ (4 * 1 + k))) (row_pair b (4 * 0 + k) (4 * 1 + k)) s

step_at : (a b k : ℕ) (s : List ℕ) → a < 2 ^ 64 → b < 2 ^ 64 → k < 4 → IsStep a b k s
    → (h l i j : ℕ) → h < 2 → i < 8 → j < 8 → l ≡ 8 * h + i → eqb (bit_at (get_or s l 0) j) 1 ≡ joins a b i j (4 * h + k)
step_at a b k s p q r picked h l i j ph pi pj is =
    step-bit a b _ _ s p q picked h l i j (4 * h + k) ph pi pj (omega arith) is (half_at (λ v. 2 ^ (4 * v + k)) h l i ph pi is) (row_at b k h l i r ph pi is)

-- the four steps of a composition
pub record Steps (a b : ℕ) (s0 s1 s2 s3 : List ℕ) : Type 0 where
  pub step_0 : IsStep a b 0 s0
  pub step_1 : IsStep a b 1 s1
  pub step_2 : IsStep a b 2 s2
  pub step_3 : IsStep a b 3 s3

steps_fit : (a b : ℕ) (s0 s1 s2 s3 : List ℕ) → Steps a b s0 s1 s2 s3 → AllSteps s0 s1 s2 s3 → Each1 (λ x. x < 2 ^ 8) (all_steps s0 s1 s2 s3)
steps_fit a b s0 s1 s2 s3 s t = Each1-from_get_or (λ x. x < 2 ^ 8) (all_steps s0 s1 s2 s3) 0 (λ l h.
    let k : l < 16 = omega (arith, t.len) in
    subst (λ (v : ℕ). v < 2 ^ 8) (sym (t.lanes l k))
    (or_lt 8 _ _ (s.step_3.fits l k) (or_lt 8 _ _ (s.step_2.fits l k) (or_lt 8 _ _ (s.step_1.fits l k) (s.step_0.fits l k)))))

-- one of the two words of sixteen lanes
abbrev pub word_of : List ℕ → ℕ → ℕ
word_of all h = get_or (digits_l (2 ^ 64) 2 (number_l (2 ^ 8) all)) h 0

-- half h has cell (i, j) where one of its four middle elements joins i to j: its lanes are the or of the four steps'
half_joins : (a b : ℕ) (s0 s1 s2 s3 : List ℕ) → a < 2 ^ 64 → b < 2 ^ 64 → Steps a b s0 s1 s2 s3 → (h i j : ℕ) → h < 2 → i < 8 → j < 8
    → is_set (word_of (all_steps s0 s1 s2 s3) h) i j ≡ (joins a b i j (4 * h + 3) || (joins a b i j (4 * h + 2) || (joins a b i j (4 * h + 1) || joins a b i j (4 * h + 0))))
half_joins a b s0 s1 s2 s3 p q s h i j ph pi pj =
    let t = all_lanes s0 s1 s2 s3 s.step_0.len s.step_1.len s.step_2.len s.step_3.len in
    let k : 8 * h + i < 16 = omega arith in
    half-bit (all_steps s0 s1 s2 s3) (steps_fit a b s0 s1 s2 s3 s t) h (8 * h + i) i j ph pi pj refl
    ∙ ap (λ (v : ℕ). eqb (bit_at v j) 1) (t.lanes (8 * h + i) k)
    ∙ or_four (get_or s0 (8 * h + i) 0) (get_or s1 (8 * h + i) 0) (get_or s2 (8 * h + i) 0) (get_or s3 (8 * h + i) 0) j
    ∙ same_ors
    (step_at a b 3 s3 p q (omega arith) s.step_3 h (8 * h + i) i j ph pi pj refl)
    (step_at a b 2 s2 p q (omega arith) s.step_2 h (8 * h + i) i j ph pi pj refl)
    (step_at a b 1 s1 p q (omega arith) s.step_1 h (8 * h + i) i j ph pi pj refl)
    (step_at a b 0 s0 p q (omega arith) s.step_0 h (8 * h + i) i j ph pi pj refl)
  where
    same_ors : {x3 x2 x1 x0 y3 y2 y1 y0 : Bool} → x3 ≡ y3 → x2 ≡ y2 → x1 ≡ y1 → x0 ≡ y0 → (x3 || (x2 || (x1 || x0))) ≡ (y3 || (y2 || (y1 || y0)))
    same_ors d c b a = cc

-- ---- the composition
some_at : (m : ℕ) (t : ℕ → Bool) → some_below m t ≡ true → (k : ℕ) × (t k ≡ true)
some_at zero t e = absurd (false≢true e)
some_at (suc m) t e = elim (or_cases (t m) (some_below m t) e) [ inl h ↦ (m, h) | inr h ↦ some_at m t h ]

composed_within : (a b : ℕ) → IsWithinBlock (cells_compose 8 (block_cells a) (block_cells b))
composed_within a b i j t =
    let k = some_at 8 (λ k. block_cells a i k && block_cells b k j) t in
    let p = and_parts (block_cells a i k.0) (block_cells b k.0 j) k.1 in
    ((block_within a i k.0 p.0).0, (block_within b k.0 j p.1).1)

joins_all : (a b i j : ℕ) → i < 8 → j < 8
    → (joins a b i j 7 || (joins a b i j 6 || (joins a b i j 5 || (joins a b i j 4 || (joins a b i j 3 || (joins a b i j 2 || (joins a b i j 1 || (joins a b i j 0 || false))))))))
    ≡ cells_compose 8 (block_cells a) (block_cells b) i j
joins_all a b i j p q =
    let x : ltb i 8 ≡ true = lt-ltb i 8 p in
    let y : ltb j 8 ≡ true = lt-ltb j 8 q in
    rw (x, y) refl

pub block_cells-composed : (a b : ℕ) (s0 s1 s2 s3 : List ℕ) → a < 2 ^ 64 → b < 2 ^ 64 → Steps a b s0 s1 s2 s3
    → block_cells (bit_or (word_of (all_steps s0 s1 s2 s3) 1) (word_of (all_steps s0 s1 s2 s3) 0)) ≡ cells_compose 8 (block_cells a) (block_cells b)
block_cells-composed a b s0 s1 s2 s3 p q s = block_is _ _ (composed_within a b) (λ i j u v.
    is_set-or (word_of (all_steps s0 s1 s2 s3) 1) (word_of (all_steps s0 s1 s2 s3) 0) i j
    ∙ ap (λ (t : Bool). t || is_set (word_of (all_steps s0 s1 s2 s3) 0) i j) (half_joins a b s0 s1 s2 s3 p q s 1 i j (omega arith) u v)
    ∙ ap
    (λ (t : Bool). (joins a b i j 7 || (joins a b i j 6 || (joins a b i j 5 || joins a b i j 4))) || t)
    (half_joins a b s0 s1 s2 s3 p q s 0 i j (omega arith) u v)
    ∙ brackets (joins a b i j 7) (joins a b i j 6) (joins a b i j 5) (joins a b i j 4) (joins a b i j 3) (joins a b i j 2) (joins a b i j 1) (joins a b i j 0)
    ∙ joins_all a b i j u v)
