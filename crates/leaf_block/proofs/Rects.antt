-- The blocks that are full up to a row and a column: lane i has the bits below the column where i is below the row.
use Rattle.std.proofs.Common.{◌≡◌, ◌<◌, ◌≤◌, ◌+◌, ◌-◌, ◌*◌, ◌%◌, ◌^◌, ◌&&◌, eqb, ltb, ℕ, Bool, true, false, cond, List, [], ◌∷◌, refl, sym, ap, subst, ◌∙◌, inl, inr, arith, get_or, map, replicate, w8}
use Rattle.std.proofs.lemmas.Bool.{cases_lt, ltb-true, lt-ltb, le-ltb, eqb-true, eq-eqb, ne_eqb, and_parts, agree_below_at}
use Rattle.std.proofs.lemmas.List.{get_or-replicate}
use Rattle.std.proofs.lemmas.Nat.Bits.{bit_at_ones, bit_at_ones_above}
use Rattle.std.proofs.lemmas.Simd.{tops_compared, get_or-sel_l, get_or-zip2, Each1-from_get_or}
use lib.Lanes.{Each1, zip2, sel_l, top, number_l}
use Rattle.std.specs.Int.{bit_at}
use Rattle.rel_model.specs.Cells.{block_cells, cells_rect}
use Rattle.leaf_block.specs.Blocks.{IsWithinBlock}
use Rattle.leaf_block.proofs.Bits.{bit-mod, bit-number}
use Rattle.leaf_block.proofs.Sets.{block_is}
use Rattle.leaf_block.proofs.Composes.{all_ones, chosen_bit}

abbrev pub places : List ℕ
places = 0 ∷ 1 ∷ 2 ∷ 3 ∷ 4 ∷ 5 ∷ 6 ∷ 7 ∷ []

place_at : (i : ℕ) → i < 8 → get_or places i 0 ≡ i
place_at i l = eqb-true _ _ (agree_below_at (λ i. eqb (get_or places i 0) i) (λ _. true) 8 i refl l)

-- the lanes, as the code computes them
abbrev pub rect_lanes : ℕ → ℕ → List ℕ
rect_lanes rows x = sel_l (map (top 7) (zip2 (λ a b. all_ones (ltb a b)) places (replicate 8 rows))) (replicate 8 x) (replicate 8 0)

rect_lane : (rows x i : ℕ) → i < 8 → get_or (rect_lanes rows x) i 0 ≡ cond (ltb i rows) x 0
rect_lane rows x i l =
    let tests = zip2 ltb places (replicate 8 rows) in
    ap (λ (ms : List Bool). get_or (sel_l ms (replicate 8 x) (replicate 8 0)) i 0) (tops_compared w8 ltb places (replicate 8 rows))
    ∙ get_or-sel_l tests (replicate 8 x) (replicate 8 0) i 0 l l l
    ∙ ap (λ (t : Bool). cond t (get_or (replicate 8 x) i 0) (get_or (replicate 8 0) i 0)) (get_or-zip2 ltb places (replicate 8 rows) i 0 0 false l l)
    ∙ ap (λ (v : ℕ). cond (ltb v (get_or (replicate 8 rows) i 0)) (get_or (replicate 8 x) i 0) (get_or (replicate 8 0) i 0)) (place_at i l)
    ∙ ap (λ (v : ℕ). cond (ltb i v) (get_or (replicate 8 x) i 0) (get_or (replicate 8 0) i 0)) (get_or-replicate 8 i rows 0 l)
    ∙ ap (λ (v : ℕ). cond (ltb i rows) v (get_or (replicate 8 0) i 0)) (get_or-replicate 8 i x 0 l)
    ∙ ap (λ (v : ℕ). cond (ltb i rows) x v) (get_or-replicate 8 i 0 0 l)

rect_fits : (rows x : ℕ) → x < 2 ^ 8 → Each1 (λ v. v < 2 ^ 8) (rect_lanes rows x)
rect_fits rows x h = Each1-from_get_or (λ v. v < 2 ^ 8) (rect_lanes rows x) 0 (λ i l. subst (λ (v : ℕ). v < 2 ^ 8) (sym (rect_lane rows x i l)) (small (ltb i rows)))
  where
    small : (t : Bool) → cond t x 0 < 2 ^ 8
    small true = h
    small false = omega arith

ones_below : (cols j : ℕ) → eqb (bit_at (2 ^ cols - 1) j) 1 ≡ ltb j cols
ones_below cols j = elim (cases_lt j cols) [
  | inl l ↦ eq-eqb _ 1 (bit_at_ones cols j l) ∙ sym (lt-ltb j cols l)
  | inr g ↦ (let z = bit_at_ones_above cols j g in ne_eqb _ 1 (λ e. omega arith)) ∙ sym (le-ltb j cols g)
]

rect_within : (rows cols : ℕ) → rows ≤ 8 → cols ≤ 8 → IsWithinBlock (cells_rect rows cols)
rect_within rows cols p q i j t =
    let u = and_parts (ltb i rows) (ltb j cols) t in
    let v = ltb-true i rows u.0 in
    let w = ltb-true j cols u.1 in
    (omega arith, omega arith)

row_word : (cols : ℕ) → cols ≤ 8 → 1 * 2 ^ cols % 2 ^ 32 - 1 ≡ 2 ^ cols - 1
row_word cols q = eqb-true _ _ (agree_below_at (λ c. eqb (1 * 2 ^ c % 2 ^ 32 - 1) (2 ^ c - 1)) (λ _. true) 9 cols refl (omega arith))

row_fits : (cols : ℕ) → cols ≤ 8 → 2 ^ cols - 1 < 2 ^ 8
row_fits cols q = ltb-true _ _ (agree_below_at (λ c. ltb (2 ^ c - 1) (2 ^ 8)) (λ _. true) 9 cols refl (omega arith))

rect_bits : (rows cols x : ℕ) → rows ≤ 8 → cols ≤ 8 → x ≡ 2 ^ cols - 1 → block_cells (number_l (2 ^ 8) (rect_lanes rows x) % 2 ^ 64) ≡ cells_rect rows cols
rect_bits rows cols x p q is = block_is _ _ (rect_within rows cols p q) (λ i j u v.
    let small = row_fits cols q in
    let f : x < 2 ^ 8 = omega arith in
    ap (λ (v : ℕ). eqb v 1)
    (bit-mod (number_l (2 ^ 8) (rect_lanes rows x)) 64 (8 * i + j) (omega arith)
    ∙ bit-number 8 (rect_lanes rows x) i j (rect_fits rows x f) v
    ∙ ap (λ (w : ℕ). bit_at w j) (rect_lane rows x i u))
    ∙ chosen_bit (ltb i rows) x j
    ∙ ap (λ (w : ℕ). ltb i rows && eqb (bit_at w j) 1) is
    ∙ ap (λ (t : Bool). ltb i rows && t) (ones_below cols j))

pub block_cells-rect : (rows cols : ℕ) → rows ≤ 8 → cols ≤ 8 → block_cells (number_l (2 ^ 8) (rect_lanes rows (1 * 2 ^ cols % 2 ^ 32 - 1)) % 2 ^ 64) ≡ cells_rect rows cols
block_cells-rect rows cols p q = rect_bits rows cols _ p q (row_word cols q)
