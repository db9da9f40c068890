-- Products of quads that are added to four squares of rows.
use Rattle.std.proofs.Common.{◌≡◌, ◌≤◌, ◌||◌, ◌&&◌, zero, suc, ℕ, Bool, true, false, refl, sym, ap, ◌∙◌, arith}
use Rattle.rel_model.specs.declared.Quad.{Quad}
use Rattle.rel_model.specs.Cells.{Cells, no_cells, cells_union, cells_compose}
use Rattle.rel_model.specs.Equations.{side_of}
use Rattle.rel_model.specs.Quads.{Keeper, IsKeeper, quad_cells, QuadStands, KeepsQuads}
use Rattle.rel_model.proofs.TreeLaws.{same_cells}
use Rattle.rel_model.proofs.QuadLaws.{quad_cells-stay, empty_quad}
use Rattle.bit_rows.specs.Places.{placed}
use Rattle.row_quads.proofs.Placing.{quad_within}
use Rattle.bit_rows.proofs.Windows.{spilled_alone}
use Rattle.row_quads.proofs.ByRows.{fewer_middles}

-- a product with nothing adds nothing
none_right : (m : ℕ) (f : Cells) (i j : ℕ) → cells_compose m f no_cells i j ≡ false
none_right zero f i j = refl
none_right (suc m) f i j = ap (λ b. b || cells_compose m f no_cells i j) (and_false (f i m)) ∙ none_right m f i j
  where
    and_false : (x : Bool) → (x && false) ≡ false
    and_false true = refl
    and_false false = refl

none_left : (m : ℕ) (g : Cells) (i j : ℕ) → cells_compose m no_cells g i j ≡ false
none_left zero g i j = refl
none_left (suc m) g i j = none_left m g i j

or_none : (a : Bool) {b : Bool} → b ≡ false → (a || b) ≡ a
or_none true p = refl
or_none false p = p

pub none_times : (w : Keeper) (a : Quad) (m : ℕ) (g z : Cells) → IsKeeper w → QuadStands w a → a.name ≡ 0 → z ≡ cells_union z (cells_compose m (quad_cells w a) g)
none_times w a m g z i s e = same_cells _ _ (λ k j. sym (or_none (z k j) (ap (λ (f : Cells). cells_compose m f g k j) (empty_quad w a.height a.name i s.low s.high e).means ∙ none_left m g k j)))

pub times_none : (w : Keeper) (b : Quad) (m : ℕ) (x z : Cells) → IsKeeper w → QuadStands w b → b.name ≡ 0 → z ≡ cells_union z (cells_compose m x (quad_cells w b))
times_none w b m x z i s e = same_cells _ _ (λ k j. sym (or_none (z k j) (ap (λ (g : Cells). cells_compose m x g k j) (empty_quad w b.height b.name i s.low s.high e).means ∙ none_right m x k j)))

-- rows times a quad that was spilled to rows that had nothing
pub times_added : (n m : ℕ) (x y0 y q z0 z : Cells) → n ≡ 256 → m ≡ 256 → y0 ≡ no_cells → y ≡ cells_union y0 (placed 0 0 q) → z ≡ cells_union z0 (cells_compose n x y) → z ≡ cells_union z0 (cells_compose m x q)
times_added n m x y0 y q z0 z e d ey sy sz = sz ∙ ap (λ (c : Cells). cells_union z0 (cells_compose n x c)) (spilled_alone y0 y q ey sy) ∙ ap (λ (k : ℕ). cells_union z0 (cells_compose k x q)) (e ∙ sym d)

-- the same where the rows are those of another quad, both seen from a state before
pub quads_added : (s0 sa sb : Keeper) (a b : Quad) (n : ℕ) (x0 x z0 z : Cells) → side_of a.height ≤ 256 → n ≡ 256 → QuadStands s0 a → QuadStands s0 b → KeepsQuads 0 s0 sa → KeepsQuads 0 s0 sb
    → x0 ≡ no_cells → x ≡ cells_union x0 (placed 0 0 (quad_cells sa a)) → z ≡ cells_union z0 (cells_compose n x (quad_cells sb b))
    → z ≡ cells_union z0 (cells_compose (side_of a.height) (quad_cells s0 a) (quad_cells s0 b))
quads_added s0 sa sb a b n x0 x z0 z l e ta tb ka kb ex sx sz =
    let m : ℕ = side_of a.height in
    let f : Cells = quad_cells s0 a in
    let g : Cells = quad_cells s0 b in
    let dx : x ≡ f = spilled_alone x0 x (quad_cells sa a) ex sx ∙ quad_cells-stay 0 s0 sa a ka ta in
    sz ∙ ap (λ (c : Cells). cells_union z0 c)
    (ap (λ (c : Cells). cells_compose n c (quad_cells sb b)) dx ∙ ap (λ (c : Cells). cells_compose n f c) (quad_cells-stay 0 s0 sb b kb tb)
    ∙ fewer_middles m n f g (omega arith) (quad_within s0 a))
