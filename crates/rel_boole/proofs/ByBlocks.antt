-- Squares of 256 rows by their blocks: an operator on each two blocks is the operator on the squares.
use Rattle.std.proofs.Common.{◌≡◌, ◌<◌, ◌≤◌, ◌+◌, ◌-◌, ◌*◌, zero, suc, ℕ, List, length, refl, sym, ap, subst, ◌∙◌, arith, get_or, set, inl, inr}
use Rattle.std.proofs.Math.Nat.{mul_assoc, mul_comm}
use Rattle.std.proofs.lemmas.List.{length-set, get_or-set_same, get_or-set_other}
use Rattle.rel_model.specs.declared.Quad.{Quad}
use Rattle.rel_model.specs.Cells.{Cells, block_cells}
use Rattle.rel_model.specs.Trees.{bottom_height, side, quartered}
use Rattle.rel_model.specs.Quads.{Keeper, quad_cells, QuadStands, ReadsQuads}
use Rattle.rel_model.proofs.Squares.{each_cell-quartered}
use Rattle.rel_model.proofs.QuadLaws.{quad_cells-stay}
use Rattle.tree_blocks.specs.Order.{blocks_count, blocks_cells, square_cells}
use Rattle.tree_blocks.proofs.Counting.{at_or_below, count_8}
use Rattle.tree_blocks.proofs.Opening.{quartered_same, square_none, square_step}
use Rattle.rel_boole.specs.declared.boole.Boole.{Boole}
use Rattle.rel_boole.specs.Cellwise.{holds_by, cells_by}

-- ---- the loop over the blocks
-- the first blocks, so many, are combined, and those behind them are as they were
pub record AreCombined (op : Boole) (ws xs ys : List ℕ) (done : ℕ) : Type 0 where
  pub len : length ys ≡ length ws
  pub are : (k : ℕ) → k < done → block_cells (get_or ys k 0) ≡ cells_by op (block_cells (get_or ws k 0)) (block_cells (get_or xs k 0))
  pub rest : (k : ℕ) → done ≤ k → get_or ys k 0 ≡ get_or ws k 0

pub combined_more : (op : Boole) (ws xs ys : List ℕ) (done word : ℕ) → done < length ys → AreCombined op ws xs ys done
    → block_cells word ≡ cells_by op (block_cells (get_or ys done 0)) (block_cells (get_or xs done 0)) → AreCombined op ws xs (set ys done word) (done + 1)
combined_more op ws xs ys done word l i e = record {
  len = length-set ys done word ∙ i.len;
  are = λ k m. elim (at_or_below done k (omega arith)) [
    | inl x ↦ subst (λ (j : ℕ). block_cells (get_or (set ys done word) j 0) ≡ cells_by op (block_cells (get_or ws j 0)) (block_cells (get_or xs j 0))) (sym x)
        (ap block_cells (get_or-set_same ys done word 0 l) ∙ e ∙ ap (λ (w : ℕ). cells_by op (block_cells w) (block_cells (get_or xs done 0))) (i.rest done (omega arith)))
    | inr x ↦ ap block_cells (get_or-set_other ys done k word 0 (omega arith)) ∙ i.are k x
  ];
  rest = λ k m. get_or-set_other ys done k word 0 (omega arith) ∙ i.rest k (omega arith);
}

-- ---- squares
below : (c d n : ℕ) → c * blocks_count (suc d) ≤ n → 4 * c * blocks_count d ≤ n
below c d n l =
    let m : ℕ = blocks_count d in
    let e : c * (4 * m) ≡ 4 * c * m = sym (mul_assoc c 4 m) ∙ ap (λ (x : ℕ). x * m) (mul_comm c 4) in
    subst (λ (x : ℕ). x ≤ n) e l

-- an operator on each two blocks is the operator on squares: by induction on their height, since it works quarter by
-- quarter
pub square_by : (op : Boole) (ws xs ys : List ℕ) (n : ℕ) → ((j : ℕ) → j < n → block_cells (get_or ys j 0) ≡ cells_by op (block_cells (get_or ws j 0)) (block_cells (get_or xs j 0)))
    → (d c : ℕ) → c * blocks_count d ≤ n → (k : ℕ) → k < c → square_cells d ys k ≡ cells_by op (square_cells d ws k) (square_cells d xs k)
square_by op ws xs ys n e zero c l k m =
    square_none 0 ys k refl ∙ e k (omega arith)
    ∙ sym (ap (λ (f : Cells). cells_by op f (square_cells 0 xs k)) (square_none 0 ws k refl) ∙ ap (λ (f : Cells). cells_by op (block_cells (get_or ws k 0)) f) (square_none 0 xs k refl))
square_by op ws xs ys n e (suc d) c l k m =
    let w : ℕ → Cells = square_cells d ws in
    let x : ℕ → Cells = square_cells d xs in
    let one : (j : ℕ) → j < 4 * c → square_cells d ys j ≡ cells_by op (square_cells d ws j) (square_cells d xs j) = square_by op ws xs ys n e d (4 * c) (below c d n l) in
    square_step d ys k
    ∙ quartered_same (side d) (side d) _ _ _ _ _ _ _ _ refl (one (4 * k) (omega arith)) (one (4 * k + 1) (omega arith)) (one (4 * k + 2) (omega arith)) (one (4 * k + 3) (omega arith))
    ∙ sym (each_cell-quartered (holds_by op) (side d) (w (4 * k)) (w (4 * k + 1)) (w (4 * k + 2)) (w (4 * k + 3)) (x (4 * k)) (x (4 * k + 1)) (x (4 * k + 2)) (x (4 * k + 3)))
    ∙ sym (ap (λ (f : Cells). cells_by op f (square_cells (suc d) xs k)) (square_step d ws k)
    ∙ ap (λ (f : Cells). cells_by op (quartered (side d) (w (4 * k)) (w (4 * k + 1)) (w (4 * k + 2)) (w (4 * k + 3))) f) (square_step d xs k))

pub blocks_by : (op : Boole) (s0 s1 : Keeper) (a b : Quad) (ws xs ys : List ℕ) → QuadStands s0 b → b.height ≡ a.height → a.height ≡ 8 → length ws ≡ 1024 → ReadsQuads s0 s1
    → blocks_cells (a.height - bottom_height) ws ≡ quad_cells s0 a → blocks_cells (b.height - bottom_height) xs ≡ quad_cells s1 b
    → ((k : ℕ) → k < length ws → block_cells (get_or ys k 0) ≡ cells_by op (block_cells (get_or ws k 0)) (block_cells (get_or xs k 0)))
    → blocks_cells (a.height - bottom_height) ys ≡ cells_by op (quad_cells s0 a) (quad_cells s0 b)
blocks_by op s0 s1 a b ws xs ys sb eh e8 len r ca cb e =
    let d : ℕ = a.height - bottom_height in
    let n = count_8 a.height e8 in
    let l : 1 * blocks_count d ≤ length ws = omega (arith, n, len) in
    square_by op ws xs ys (length ws) e d 1 l 0 (omega arith)
    ∙ ap (λ (f : Cells). cells_by op f (square_cells d xs 0)) ca
    ∙ ap (λ (f : Cells). cells_by op (quad_cells s0 a) f) (ap (λ (h : ℕ). square_cells (h - bottom_height) xs 0) (sym eh) ∙ cb ∙ quad_cells-stay 0 s0 s1 b r.keeps sb)
