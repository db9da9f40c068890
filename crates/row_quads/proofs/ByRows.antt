-- The window of a composition of two quads, on rows that hold each of them alone.
use Rattle.std.proofs.Common.{◌≡◌, ◌≤◌, ◌&&◌, ℕ, Result, IfOk, ap, subst, ◌∙◌, arith}
use Rattle.std.proofs.lemmas.Bool.{and_parts}
use Rattle.rel_model.specs.declared.Quad.{Quad}
use Rattle.rel_model.specs.Cells.{Cells, no_cells, cells_union, cells_compose}
use Rattle.rel_model.specs.Equations.{side_of}
use Rattle.rel_model.specs.Quads.{Keeper, quad_cells, QuadStands, IsQuad, ReadsQuads}
use Rattle.rel_model.proofs.TreeLaws.{Within, same_cells}
use Rattle.rel_model.proofs.Somes.{some_beyond, some_passes}
use Rattle.rel_model.proofs.QuadLaws.{quad_cells-stay}
use Rattle.bit_rows.specs.Places.{placed, window}
use Rattle.bit_rows.proofs.Windows.{spilled_alone, window_whole}
use Rattle.row_quads.proofs.Placing.{quad_within}

-- no middle element is beyond the sides
pub fewer_middles : (m n : ℕ) (f g : Cells) → m ≤ n → Within m m f → cells_compose n f g ≡ cells_compose m f g
fewer_middles m n f g l v = same_cells _ _ (λ i j. some_beyond m n (λ k. f i k && g k j) l (λ k h. v.col i k (and_parts _ _ h).0))

-- rows to which the product of two quads was added
pub product_added : (s0 s1 : Keeper) (a b : Quad) (n : ℕ) (x0 x y0 y z0 z : Cells)
    → side_of a.height ≤ 256 → n ≡ 256 → QuadStands s0 a → QuadStands s0 b → b.height ≡ a.height → ReadsQuads s0 s1
    → x0 ≡ no_cells → y0 ≡ no_cells
    → x ≡ cells_union x0 (placed 0 0 (quad_cells s0 a)) → y ≡ cells_union y0 (placed 0 0 (quad_cells s1 b)) → z ≡ cells_union z0 (cells_compose n x y)
    → z ≡ cells_union z0 (cells_compose (side_of a.height) (quad_cells s0 a) (quad_cells s0 b))
product_added s0 s1 a b n x0 x y0 y z0 z l e sa sb h k ex ey sx sy sz =
    let m : ℕ = side_of a.height in
    let f : Cells = quad_cells s0 a in
    let g : Cells = quad_cells s0 b in
    let dy : y ≡ cells_union y0 (placed 0 0 g) = sy ∙ ap (λ (c : Cells). cells_union y0 (placed 0 0 c)) (quad_cells-stay 0 s0 s1 b k.keeps sb) in
    sz ∙ ap (λ (c : Cells). cells_union z0 c)
    (ap (λ (c : Cells). cells_compose n c y) (spilled_alone x0 x f ex sx) ∙ ap (λ (c : Cells). cells_compose n f c) (spilled_alone y0 y g ey dy)
    ∙ fewer_middles m n f g (omega arith) (quad_within s0 a))

-- the product of two quads lies within their square
pub product_within : (m : ℕ) (f g : Cells) → Within m m f → Within m m g → Within m m (cells_compose m f g)
product_within m f g v w = record {
  row = λ i j h. (let p = some_passes m (λ k. f i k && g k j) h in v.row i p.at (and_parts _ _ p.passes).0);
  col = λ i j h. (let p = some_passes m (λ k. f i k && g k j) h in w.col p.at j (and_parts _ _ p.passes).1);
}

-- rows that had nothing and to which the product of two quads was added
pub composed_alone : (s0 : Keeper) (a b : Quad) (z0 z : Cells) → b.height ≡ a.height → z0 ≡ no_cells
    → z ≡ cells_union z0 (cells_compose (side_of a.height) (quad_cells s0 a) (quad_cells s0 b))
    → window 0 0 (side_of a.height) z ≡ cells_compose (side_of a.height) (quad_cells s0 a) (quad_cells s0 b)
composed_alone s0 a b z0 z h ez sz =
    let m : ℕ = side_of a.height in
    let wb : Within m m (quad_cells s0 b) = subst (λ (c : ℕ). Within c c (quad_cells s0 b)) (ap side_of h) (quad_within s0 b) in
    let f : Cells = cells_compose m (quad_cells s0 a) (quad_cells s0 b) in
    let e : z ≡ f = sz ∙ ap (λ (c : Cells). cells_union c f) ez in
    ap (λ (c : Cells). window 0 0 m c) e ∙ window_whole m f (product_within m (quad_cells s0 a) (quad_cells s0 b) (quad_within s0 a) wb)

-- a quad of the same set
pub same_value : {E : Type 0} (w : Keeper) (h : ℕ) (f g : Cells) (r : Result Quad E) → f ≡ g → IfOk r (IsQuad w h f) → IfOk r (IsQuad w h g)
same_value w h f g r e i = subst (λ (c : Cells). IfOk r (IsQuad w h c)) e i
