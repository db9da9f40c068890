-- A quad and a product, as one.
-- 1. The product of two quads, and then the union of a third with it.
-- 2. The same as a worker has them; and the words that it places.
use Rattle.std.proofs.Common.{◌≡◌, ◌≤◌, ◌+◌, ◌-◌, ◌*◌, ◌^◌, ◌∙◌, ℕ, ap, subst, arith}
use Rattle.std.proofs.Math.Nat.{pow-le-pow_right}
use Rattle.rel_model.specs.declared.Quad.{Quad}
use Rattle.rel_model.specs.Cells.{Cells, cells_union, cells_compose}
use Rattle.rel_model.specs.Trees.{bottom_height}
use Rattle.rel_model.specs.Equations.{side_of}
use Rattle.rel_model.specs.Quads.{Keeper, IsKeeper, QuadStands, IsQuad, quad_cells, KeepsQuads, quad_room, compose_room}
use Rattle.rel_model.specs.Worker.{HasQuad, quad_set, MakesAtMost}
use Rattle.rel_model.proofs.QuadLaws.{quad_cells-stay, side_of-power}
use Rattle.rel_model.proofs.Rooms.{composed_words-most}
use Rattle.fork_quads.specs.Crew.{worker_of}
use Rattle.fork_quads.proofs.Quartering.{set_inside}

-- ---- in turn
pub union_of_product : (most : ℕ) (w0 w1 w2 : Keeper) (x y z product both : Quad) → y.height ≡ x.height → KeepsQuads most w0 w1 → QuadStands w0 x
    → IsQuad w1 y.height (cells_compose (side_of y.height) (quad_cells w0 y) (quad_cells w0 z)) product
    → IsQuad w2 x.height (cells_union (quad_cells w1 x) (quad_cells w1 product)) both
    → IsQuad w2 x.height (cells_union (quad_cells w0 x) (cells_compose (side_of x.height) (quad_cells w0 y) (quad_cells w0 z))) both
union_of_product most w0 w1 w2 x y z product both e k h p u = record {
  same_height = u.same_height;
  stands = u.stands;
  means = u.means ∙ ap (λ (f : Cells). cells_union f (quad_cells w1 product)) (quad_cells-stay most w0 w1 x k h)
      ∙ ap (λ (f : Cells). cells_union (quad_cells w0 x) f) p.means
      ∙ ap (λ (n : ℕ). cells_union (quad_cells w0 x) (cells_compose (side_of n) (quad_cells w0 y) (quad_cells w0 z))) e;
}

-- ---- of a worker
pub union_with_product_set : (w inside : Keeper) (x y z : Quad) → inside ≡ w → IsKeeper inside → HasQuad (worker_of w) x → HasQuad (worker_of w) y → HasQuad (worker_of w) z → bottom_height ≤ x.height
    → cells_union (quad_cells inside x) (cells_compose (side_of x.height) (quad_cells inside y) (quad_cells inside z))
    ≡ cells_union (quad_set (worker_of w) x) (cells_compose (2 ^ x.height) (quad_set (worker_of w) y) (quad_set (worker_of w) z))
union_with_product_set w inside x y z v i hx hy hz low =
    ap (λ (f : Cells). cells_union f (cells_compose (side_of x.height) (quad_cells inside y) (quad_cells inside z))) (set_inside w inside x v i hx)
    ∙ ap (λ (m : ℕ). cells_union (quad_set (worker_of w) x) (cells_compose m (quad_cells inside y) (quad_cells inside z))) (side_of-power x.height low)
    ∙ ap (λ (f : Cells). cells_union (quad_set (worker_of w) x) (cells_compose (2 ^ x.height) f (quad_cells inside z))) (set_inside w inside y v i hy)
    ∙ ap (λ (f : Cells). cells_union (quad_set (worker_of w) x) (cells_compose (2 ^ x.height) (quad_set (worker_of w) y) f)) (set_inside w inside z v i hz)

-- a product and a union place at most 20 * 8 ^ h words
union_with_product_room : (h : ℕ) → compose_room h + quad_room h ≤ 20 * 8 ^ h
unfolding bottom_height
union_with_product_room h =
    let c = composed_words-most (h - 3) in
    let p = pow-le-pow_right {n = 8} (omega arith) {i = h - 3} {j = h} (omega arith) in
    omega (arith, c, p)

pub union_with_product_makes : (h : ℕ) (w inside new : Keeper) → inside ≡ w → bottom_height ≤ h → KeepsQuads (compose_room h + quad_room h) inside new → MakesAtMost (20 * 8 ^ h) (worker_of w) (worker_of new)
union_with_product_makes h w inside new v low k =
    let r = union_with_product_room h in
    let p = k.room in
    subst (λ (x : Keeper). MakesAtMost (20 * 8 ^ h) (worker_of x) (worker_of new)) v (omega (arith, p, r))
