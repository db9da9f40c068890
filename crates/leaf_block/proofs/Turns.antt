-- The transposition of a block.
-- 1. Bit n of the word after a swap is the bit of the word before it at a place that the mask gives.
-- 2. For each of the 64 bits the three places in turn lead from cell (i, j) to cell (j, i): these are 64 computations.
use Rattle.std.proofs.Common.{◌≡◌, ◌<◌, ◌+◌, ◌*◌, ◌/◌, ◌%◌, ◌&&◌, eqb, ltb, ℕ, Bool, true, List, [], ◌∷◌, refl, sym, ap, ◌∙◌, arith, get_or, map}
use Rattle.std.proofs.lemmas.Bool.{ltb-true, lt-ltb, eqb-true, and_parts, agree_below_at}
use Rattle.std.specs.Int.{bit_at}
use Rattle.rel_model.specs.Cells.{block_cells, cells_transpose}
use Rattle.leaf_block.specs.Lanes.{swapped}
use Rattle.leaf_block.proofs.Bits.{partner, is_apart, swapped-partner}
use Rattle.leaf_block.proofs.Sets.{block_is, block_within}

-- ---- the three swaps
-- the places of a bit before the last swap, the last two and all three
abbrev before_fours : ℕ → ℕ
before_fours n = partner 28 0x0000_0000_F0F0_F0F0 n

abbrev before_pairs : ℕ → ℕ
before_pairs n = partner 14 0x0000_CCCC_0000_CCCC (before_fours n)

abbrev before_cells : ℕ → ℕ
before_cells n = partner 7 0x00AA_00AA_00AA_00AA (before_pairs n)

-- no swap exchanges a bit twice, all places lie in the word, and the three swaps exchange rows and columns
abbrev turns : ℕ → Bool
turns n =
    (is_apart 28 0x0000_0000_F0F0_F0F0 n && (ltb (before_fours n) 64 && is_apart 14 0x0000_CCCC_0000_CCCC (before_fours n)))
    && ((ltb (before_pairs n) 64 && is_apart 7 0x00AA_00AA_00AA_00AA (before_pairs n)) && eqb (before_cells n) (8 * (n % 8) + n / 8))

record Turns (n : ℕ) : Type 0 where
  apart_fours : is_apart 28 0x0000_0000_F0F0_F0F0 n ≡ true
  fours : before_fours n < 64
  apart_pairs : is_apart 14 0x0000_CCCC_0000_CCCC (before_fours n) ≡ true
  pairs : before_pairs n < 64
  apart_cells : is_apart 7 0x00AA_00AA_00AA_00AA (before_pairs n) ≡ true
  ends : before_cells n ≡ 8 * (n % 8) + n / 8

-- what the three swaps ask of bit n, and the place it comes from: computed for all 64 bits, and read off for this one
turns_at : (n : ℕ) → n < 64 → Turns n
turns_at n l =
    let t = and_parts (is_apart 28 0x0000_0000_F0F0_F0F0 n && (ltb (before_fours n) 64 && is_apart 14 0x0000_CCCC_0000_CCCC (before_fours n))) _ (agree_below_at turns (λ _. true) 64 n refl l) in
    let a = and_parts (is_apart 28 0x0000_0000_F0F0_F0F0 n) _ t.0 in
    let b = and_parts (ltb (before_fours n) 64) _ a.1 in
    let u = and_parts (ltb (before_pairs n) 64 && is_apart 7 0x00AA_00AA_00AA_00AA (before_pairs n)) _ t.1 in
    let c = and_parts (ltb (before_pairs n) 64) _ u.0 in
    record {
      apart_fours = a.0;
      fours = ltb-true _ _ b.0;
      apart_pairs = b.1;
      pairs = ltb-true _ _ c.0;
      apart_cells = c.1;
      ends = eqb-true _ _ u.1;
    }

-- the lane after the swaps
bit-swaps : (a x y z n : ℕ) → x ≡ swapped 7 0x00AA_00AA_00AA_00AA a → y ≡ swapped 14 0x0000_CCCC_0000_CCCC x → z ≡ swapped 28 0x0000_0000_F0F0_F0F0 y
    → n < 64 → bit_at z n ≡ bit_at a (8 * (n % 8) + n / 8)
bit-swaps a x y z n is_x is_y is_z l =
    let t = turns_at n l in
    ap (λ (v : ℕ). bit_at v n) is_z ∙ swapped-partner 28 0x0000_0000_F0F0_F0F0 y n l t.apart_fours
    ∙ ap (λ (v : ℕ). bit_at v (before_fours n)) is_y ∙ swapped-partner 14 0x0000_CCCC_0000_CCCC x (before_fours n) t.fours t.apart_pairs
    ∙ ap (λ (v : ℕ). bit_at v (before_pairs n)) is_x ∙ swapped-partner 7 0x00AA_00AA_00AA_00AA a (before_pairs n) t.pairs t.apart_cells
    ∙ ap (bit_at a) t.ends

pub bit-transposed : (a : ℕ) (xs ys zs : List ℕ) → xs ≡ map (swapped 7 0x00AA_00AA_00AA_00AA) (a ∷ []) → ys ≡ map (swapped 14 0x0000_CCCC_0000_CCCC) xs
    → zs ≡ map (swapped 28 0x0000_0000_F0F0_F0F0) ys → (n : ℕ) → n < 64 → bit_at (get_or zs 0 0) n ≡ bit_at a (8 * (n % 8) + n / 8)
bit-transposed a xs ys zs is_x is_y is_z n l =
    let first : List ℕ → ℕ = λ v. get_or v 0 0 in
    let x : first xs ≡ swapped 7 0x00AA_00AA_00AA_00AA a = ap first is_x in
    let e : ys ≡ swapped 14 0x0000_CCCC_0000_CCCC (first xs) ∷ [] = is_y ∙ ap (map (swapped 14 0x0000_CCCC_0000_CCCC)) (is_x ∙ ap (λ (v : ℕ). v ∷ []) (sym x)) in
    let f : zs ≡ swapped 28 0x0000_0000_F0F0_F0F0 (first ys) ∷ [] = is_z ∙ ap (map (swapped 28 0x0000_0000_F0F0_F0F0)) (e ∙ ap (λ (v : ℕ). v ∷ []) (sym (ap first e))) in
    bit-swaps a (first xs) (first ys) (first zs) n x (ap first e) (ap first f) l

-- a word with the bits of another at the places across
pub transposed_from_bits : (a r : ℕ) → ((n : ℕ) → n < 64 → bit_at r n ≡ bit_at a (8 * (n % 8) + n / 8)) → block_cells r ≡ cells_transpose (block_cells a)
transposed_from_bits a r h = block_is r (cells_transpose (block_cells a)) (λ i j t. let w = block_within a j i t in (w.1, w.0)) (λ i j p q.
    let e : (8 * i + j) % 8 ≡ j = omega arith in
    let f : (8 * i + j) / 8 ≡ i = omega arith in
    let x : ltb j 8 ≡ true = lt-ltb j 8 q in
    let y : ltb i 8 ≡ true = lt-ltb i 8 p in
    ap (λ (v : ℕ). eqb v 1) (h (8 * i + j) (omega arith) ∙ ap (λ (v : ℕ). bit_at a (8 * v + (8 * i + j) / 8)) e ∙ ap (λ (v : ℕ). bit_at a (8 * j + v)) f)
    ∙ rw (x, y) refl)
