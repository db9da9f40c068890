-- Rows are cut into blocks in tree order, square by square.
-- 1. The quarters of square k of a height are the squares 4k to 4k + 3 of the height below, and lie in the list where it does (`places_in`).
-- 2. Each of the four calls writes its own square and leaves the others (`kept`): so after the last of them each of the four has its window (`cut_value`), and no other square has changed (`cut_rest`).
-- 3. A square of the lowest height is one block, one word of the list (`block_value`, `block_rest`).
use Rattle.std.proofs.Common.{◌≡◌, ◌≢◌, ◌<◌, ◌≤◌, ◌+◌, ◌-◌, ◌*◌, ltb, zero, suc, ℕ, List, refl, sym, ap, ◌∙◌, arith, set, length, inl, inr}
use Rattle.std.proofs.lemmas.Bool.{cases_Bool, ltb-true, ltb-false}
use Rattle.std.proofs.lemmas.List.{get_or-set_same, get_or-set_other}
use Rattle.rel_model.specs.Cells.{Cells, block_cells}
use Rattle.rel_model.specs.Trees.{bottom_height, side, quartered}
use Rattle.rel_model.specs.Equations.{side_of}
use Rattle.rel_model.proofs.QuadLaws.{side_of-next}
use Rattle.bit_rows.specs.Places.{window}
use Rattle.bit_rows.proofs.Windows.{window-quartered}
use Rattle.tree_blocks.specs.Order.{blocks_count, square_cells}
use Rattle.tree_blocks.proofs.Counting.{depth_none, room_below, room_bottom, room_least}
use Rattle.tree_blocks.proofs.Opening.{quartered_same, square_none, square_next}
use Rattle.row_quads.proofs.Placing.{side_of-bottom}

-- ---- heights
pub at_bottom : (h : ℕ) → bottom_height ≤ h → h ≤ 3 → h ≡ bottom_height
unfolding bottom_height
at_bottom h l m = omega arith

pub over_bottom : (h : ℕ) → 3 < h → bottom_height < h
unfolding bottom_height
over_bottom h l = omega arith

tall : (d : ℕ) → 512 ≤ side (suc (suc (suc (suc (suc (suc d))))))
tall zero = omega arith
tall (suc d) = let i = tall d in omega arith

-- a side of at most 256 is that of a height up to 8
pub height_of_side : (h : ℕ) → side_of h ≤ 256 → h ≤ 8
unfolding bottom_height
height_of_side h l = elim (cases_Bool (ltb 8 h)) [
  | inl e ↦ absurd (
      let x = ltb-true 8 h e in
      let t = tall (h - 9) in
      let s : side (h - 3) ≡ side (suc (suc (suc (suc (suc (suc (h - 9))))))) = ap side (let y : h - 3 ≡ suc (suc (suc (suc (suc (suc (h - 9)))))) = omega arith in y) in
      omega (arith, l, t, s)
      )
  | inr e ↦ ltb-false 8 h e
]

-- ---- places
-- the numbers of the four squares under square k are below the length of the list, and so is that of a block
pub places_in : (h k n : ℕ) → bottom_height < h → (k + 1) * blocks_count (h - bottom_height) ≤ n → 4 * k + 4 ≤ n
places_in h k n over r = let x = room_least (4 * (k + 1)) (h - 1 - bottom_height) n (room_below (k + 1) h n over r) in omega (arith, x)

pub place_in : (h k n : ℕ) → h ≡ bottom_height → (k + 1) * blocks_count (h - bottom_height) ≤ n → k < n
place_in h k n e r = let x = room_bottom (k + 1) h n e r in omega (arith, x)

-- a square that none of the four is, in lists that differ at the four
kept : (s0 s1 s2 s3 s4 : ℕ → Cells) (k p : ℕ) → p ≢ 4 * k → p ≢ 4 * k + 1 → p ≢ 4 * k + 2 → p ≢ 4 * k + 3
    → ((j : ℕ) → j ≢ 4 * k → s1 j ≡ s0 j) → ((j : ℕ) → j ≢ 4 * k + 1 → s2 j ≡ s1 j) → ((j : ℕ) → j ≢ 4 * k + 2 → s3 j ≡ s2 j) → ((j : ℕ) → j ≢ 4 * k + 3 → s4 j ≡ s3 j)
    → s4 p ≡ s0 p
kept s0 s1 s2 s3 s4 k p n0 n1 n2 n3 r0 r1 r2 r3 = r3 p n3 ∙ r2 p n2 ∙ r1 p n1 ∙ r0 p n0

elsewhere : (k j a i : ℕ) → j ≢ k → a ≤ 3 → i ≤ 3 → 4 * j + a ≢ 4 * k + i
elsewhere k j a i n l m e = n (omega (arith, l, m, e))

-- ---- one square, cut into four
pub cut_value : (h k r c m : ℕ) (f : Cells) (x1 x2 x3 x4 : List ℕ) → bottom_height < h → m ≡ side_of (h - 1)
    → square_cells (h - 1 - bottom_height) x1 (4 * k) ≡ window r c (side_of (h - 1)) f
    → square_cells (h - 1 - bottom_height) x2 (4 * k + 1) ≡ window r (c + m) (side_of (h - 1)) f
    → square_cells (h - 1 - bottom_height) x3 (4 * k + 2) ≡ window (r + m) c (side_of (h - 1)) f
    → square_cells (h - 1 - bottom_height) x4 (4 * k + 3) ≡ window (r + m) (c + m) (side_of (h - 1)) f
    → ((j : ℕ) → j ≢ 4 * k + 1 → square_cells (h - 1 - bottom_height) x2 j ≡ square_cells (h - 1 - bottom_height) x1 j)
    → ((j : ℕ) → j ≢ 4 * k + 2 → square_cells (h - 1 - bottom_height) x3 j ≡ square_cells (h - 1 - bottom_height) x2 j)
    → ((j : ℕ) → j ≢ 4 * k + 3 → square_cells (h - 1 - bottom_height) x4 j ≡ square_cells (h - 1 - bottom_height) x3 j)
    → square_cells (h - bottom_height) x4 k ≡ window r c (side_of h) f
cut_value h k r c m f x1 x2 x3 x4 over e c0 c1 c2 c3 r1 r2 r3 =
    let n : ℕ = side_of (h - 1) in
    square_next h x4 k over
    ∙ quartered_same n n _ _ _ _ _ _ _ _ refl
    (r3 (4 * k) (λ e. omega (arith, e)) ∙ r2 (4 * k) (λ e. omega (arith, e)) ∙ r1 (4 * k) (λ e. omega (arith, e)) ∙ c0)
    (r3 (4 * k + 1) (λ e. omega (arith, e)) ∙ r2 (4 * k + 1) (λ e. omega (arith, e)) ∙ c1)
    (r3 (4 * k + 2) (λ e. omega (arith, e)) ∙ c2)
    c3
    ∙ ap (λ (x : ℕ). quartered n (window r c n f) (window r (c + x) n f) (window (r + x) c n f) (window (r + x) (c + x) n f)) e
    ∙ sym (window-quartered n r c f)
    ∙ ap (λ (x : ℕ). window r c x f) (sym (side_of-next h over))

-- cutting square k leaves every other square as it was: only its four quarters are written, which no other square has
pub cut_rest : (h k : ℕ) (x0 x1 x2 x3 x4 : List ℕ) → bottom_height < h
    → ((j : ℕ) → j ≢ 4 * k → square_cells (h - 1 - bottom_height) x1 j ≡ square_cells (h - 1 - bottom_height) x0 j)
    → ((j : ℕ) → j ≢ 4 * k + 1 → square_cells (h - 1 - bottom_height) x2 j ≡ square_cells (h - 1 - bottom_height) x1 j)
    → ((j : ℕ) → j ≢ 4 * k + 2 → square_cells (h - 1 - bottom_height) x3 j ≡ square_cells (h - 1 - bottom_height) x2 j)
    → ((j : ℕ) → j ≢ 4 * k + 3 → square_cells (h - 1 - bottom_height) x4 j ≡ square_cells (h - 1 - bottom_height) x3 j)
    → (j : ℕ) → j ≢ k → square_cells (h - bottom_height) x4 j ≡ square_cells (h - bottom_height) x0 j
cut_rest h k x0 x1 x2 x3 x4 over r0 r1 r2 r3 j n =
    let d : ℕ = h - 1 - bottom_height in
    let m : ℕ = side_of (h - 1) in
    let one : (a : ℕ) → a ≤ 3 → square_cells d x4 (4 * j + a) ≡ square_cells d x0 (4 * j + a) =
    λ a l. kept (square_cells d x0) (square_cells d x1) (square_cells d x2) (square_cells d x3) (square_cells d x4) k (4 * j + a)
    (λ e. n (omega (arith, l, e))) (elsewhere k j a 1 n l (omega arith)) (elsewhere k j a 2 n l (omega arith)) (elsewhere k j a 3 n l (omega arith)) r0 r1 r2 r3 in
    let first : square_cells d x4 (4 * j) ≡ square_cells d x0 (4 * j) =
    kept (square_cells d x0) (square_cells d x1) (square_cells d x2) (square_cells d x3) (square_cells d x4) k (4 * j)
    (λ e. n (omega (arith, e))) (λ e. n (omega (arith, e))) (λ e. n (omega (arith, e))) (λ e. n (omega (arith, e))) r0 r1 r2 r3 in
    square_next h x4 j over
    ∙ quartered_same m m _ _ _ _ _ _ _ _ refl first (one 1 (omega arith)) (one 2 (omega arith)) (one 3 (omega arith))
    ∙ sym (square_next h x0 j over)

-- ---- one block
pub block_value : (h k r c bits : ℕ) (f : Cells) (ws : List ℕ) → h ≡ bottom_height → k < length ws → block_cells bits ≡ window r c 8 f → square_cells (h - bottom_height) (set ws k bits) k ≡ window r c (side_of h) f
block_value h k r c bits f ws e l s =
    square_none (h - bottom_height) (set ws k bits) k (depth_none h e) ∙ ap block_cells (get_or-set_same ws k bits 0 l) ∙ s ∙ ap (λ (m : ℕ). window r c m f) (sym (side_of-bottom h e))

pub block_rest : (h k bits : ℕ) (ws : List ℕ) → h ≡ bottom_height → (j : ℕ) → j ≢ k → square_cells (h - bottom_height) (set ws k bits) j ≡ square_cells (h - bottom_height) ws j
block_rest h k bits ws e j n =
    square_none (h - bottom_height) (set ws k bits) j (depth_none h e) ∙ ap block_cells (get_or-set_other ws k j bits 0 n) ∙ sym (square_none (h - bottom_height) ws j (depth_none h e))
