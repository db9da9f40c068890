-- What stands already is found: of compositions that is said of blocks, and of empty and of full operands.
use Rattle.std.proofs.Common.{◌≡◌, ℕ, Result, Ok, refl, sym, ap, subst, ◌∙◌}
use Rattle.rel_model.specs.declared.Quad.{Quad}
use Rattle.rel_model.specs.Cells.{Cells, block_cells, cells_rect, cells_compose}
use Rattle.rel_model.specs.Trees.{bottom_height}
use Rattle.rel_model.specs.Equations.{side_of}
use Rattle.rel_model.specs.Quads.{Keeper, IsKeeper, quad_cells, QuadStands, IsQuad, ReadsQuads}
use Rattle.rel_model.proofs.QuadLaws.{quad_cells-stay, reads_itself, reads_on}
use Rattle.quad_nodes.specs.Finding.{Finds, FindsQuad}
use Rattle.quad_nodes.proofs.Finding.{one_quad, found_later}
use Rattle.rel_compose.proofs.Multiplying.{composed_full}

-- the block of a composed block is found
pub composed_block : {E : Type 0} (s0 s1 s2 s3 : Keeper) (a b : Quad) (x y z : ℕ) (r : Result Quad E) → QuadStands s0 b → ReadsQuads s0 s1 → ReadsQuads s1 s2 → block_cells x ≡ quad_cells s0 a → block_cells y ≡ quad_cells s1 b
    → block_cells z ≡ cells_compose 8 (block_cells x) (block_cells y) → FindsQuad s2 s3 bottom_height (block_cells z) r → FindsQuad s0 s3 bottom_height (cells_compose (side_of bottom_height) (quad_cells s0 a) (quad_cells s0 b)) r
unfolding bottom_height
composed_block s0 s1 s2 s3 a b x y z r sb k l ex ey ez f =
    let e : block_cells z ≡ cells_compose 8 (quad_cells s0 a) (quad_cells s0 b) =
    ez ∙ ap (λ (c : Cells). cells_compose 8 c (block_cells y)) ex ∙ ap (λ (c : Cells). cells_compose 8 (quad_cells s0 a) c) (ey ∙ quad_cells-stay 0 s0 s1 b k.keeps sb) in
    found_later s0 s2 s3 3 3 (block_cells z) (cells_compose 8 (quad_cells s0 a) (quad_cells s0 b)) r (reads_on s0 s1 s2 k l) refl e f

-- the same at a height that is that of blocks
pub composed_low : {E : Type 0} (v w : Keeper) (a b : Quad) (r : Result Quad E) → IsKeeper v → a.height ≡ bottom_height → FindsQuad v w bottom_height (cells_compose (side_of bottom_height) (quad_cells v a) (quad_cells v b)) r
    → FindsQuad v w a.height (cells_compose (side_of a.height) (quad_cells v a) (quad_cells v b)) r
composed_low v w a b r i e f = found_later v v w bottom_height a.height _ _ r (reads_itself v i) (sym e) (ap (λ (h : ℕ). cells_compose (side_of h) (quad_cells v a) (quad_cells v b)) (sym e)) f

-- of two full squares the first is the composition
full_first : (w : Keeper) (a b : Quad) → IsKeeper w → QuadStands w a → QuadStands w b → b.height ≡ a.height → quad_cells w a ≡ cells_rect (side_of a.height) (side_of a.height) → quad_cells w b ≡ cells_rect (side_of b.height) (side_of b.height)
    → IsQuad w a.height (cells_compose (side_of a.height) (quad_cells w a) (quad_cells w b)) a
full_first w a b i sa sb e fa fb = composed_full w w w a b (reads_itself w i) (reads_itself w i) sa e sb fa fb

pub full_again : {E : Type 0} (w : Keeper) (a b : Quad) → IsKeeper w → QuadStands w a → QuadStands w b → b.height ≡ a.height → quad_cells w a ≡ cells_rect (side_of a.height) (side_of a.height) → quad_cells w b ≡ cells_rect (side_of b.height) (side_of b.height) → Finds {E = E} w w a (Ok b)
full_again w a b i sa sb e fa fb =
    let p : IsQuad w a.height (cells_rect (side_of a.height) (side_of a.height)) a = record { same_height = refl; stands = sa; means = fa } in
    let q : IsQuad w a.height (cells_rect (side_of a.height) (side_of a.height)) b = record { same_height = e; stands = sb; means = fb ∙ ap (λ (x : ℕ). cells_rect (side_of x) (side_of x)) e } in
    record { answer = ap Ok (one_quad w a.height (cells_rect (side_of a.height) (side_of a.height)) b a i q p); reads = reads_itself w i }

pub full_block_found : {E : Type 0} (v w : Keeper) (a b : Quad) (r : Result Quad E) → IsKeeper v → QuadStands v a → QuadStands v b → b.height ≡ a.height → a.height ≡ bottom_height → quad_cells v a ≡ cells_rect (side_of a.height) (side_of a.height) → quad_cells v b ≡ cells_rect (side_of b.height) (side_of b.height)
    → FindsQuad v w bottom_height (cells_compose (side_of bottom_height) (quad_cells v a) (quad_cells v b)) r → Finds v w a r
full_block_found v w a b r i sa sb e low fa fb f = f a (subst (λ (h : ℕ). IsQuad v h (cells_compose (side_of h) (quad_cells v a) (quad_cells v b)) a) low (full_first v a b i sa sb e fa fb))
