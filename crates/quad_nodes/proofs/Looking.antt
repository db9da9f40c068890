-- A true equation that is looked up is the operator's result as a quad, also where the operands of a commutative operator are exchanged.
use Rattle.std.proofs.Common.{◌≡◌, ◌||◌, ◌&&◌, ℕ, Bool, true, false, min, max, refl, sym, ap, subst, ◌∙◌, inl, inr, arith}
use Rattle.std.proofs.lemmas.Bool.{true≢false, cases_lt}
use Rattle.rel_model.specs.declared.Quad.{Quad}
use Rattle.rel_model.specs.Cells.{Cells, cells_union, cells_inter}
use Rattle.rel_model.specs.Trees.{cells}
use Rattle.rel_model.specs.Equations.{Operator, Union, Inter, Diff, Transpose, Compose, IsTrueIn, result_of, depth_of, side_of}
use Rattle.rel_model.specs.Quads.{Keeper, quad_cells, QuadStands, IsQuad, ReadsQuads}
use Rattle.rel_model.proofs.TreeLaws.{same_cells}
use Rattle.rel_model.proofs.QuadLaws.{quad_cells-stay}
use Rattle.quad_nodes.specs.Noting.{is_commutative, first_name, second_name}

pub looked_up : (v w : Keeper) (op : Operator) (a b : Quad) (n : ℕ) → ReadsQuads v w → QuadStands v a → QuadStands v b → b.height ≡ a.height → IsTrueIn w.view.words (record { op = op; height = a.height; a = a.name; b = b.name; r = n })
    → IsQuad w a.height (result_of op (side_of a.height) (quad_cells v a) (quad_cells v b)) (record { height = a.height; name = n })
looked_up v w op a b n r s t e h =
    let f : Cells → Cells → Cells = result_of op (side_of a.height) in
    record {
      same_height = refl;
      stands = record { low = s.low; high = s.high; standing = h.r_stands };
      means = h.means
          ∙ ap (λ (c : Cells). f c (cells w.view.words (depth_of a.height) b.name)) (quad_cells-stay 0 v w a r.keeps s)
          ∙ ap (λ (c : Cells). f (quad_cells v a) c) (ap (λ (x : ℕ). cells w.view.words (depth_of x) b.name) (sym e) ∙ quad_cells-stay 0 v w b r.keeps t);
    }

-- ---- the order of the operands
-- what holds at two names holds at names that are equal to them
pub at_names : (P : ℕ → ℕ → Type 0) (x y a b : ℕ) → x ≡ a → y ≡ b → P x y → P a b
at_names P x y a b e f h = subst (λ z. P a z) f (subst (λ z. P z y) e h)

sorted : (P : ℕ → ℕ → Type 0) (m n : ℕ) → P m n → P n m → P (min m n) (max m n)
sorted P m n h k = elim (cases_lt n m) [
  | inl l ↦ at_names P n m (min m n) (max m n) (omega arith) (omega arith) k
  | inr l ↦ at_names P m n (min m n) (max m n) (omega arith) (omega arith) h
]

-- what holds of the operands' names, and of the exchanged ones if the operator is commutative, holds of the names in an equation
pub in_equations : (P : ℕ → ℕ → Type 0) (op : Operator) (a b : Quad) → P a.name b.name → (is_commutative op ≡ true → P b.name a.name) → P (first_name op a b) (second_name op a b)
in_equations P Union a b h k = sorted P a.name b.name h (k refl)
in_equations P Inter a b h k = sorted P a.name b.name h (k refl)
in_equations P Diff a b h k = h
in_equations P Transpose a b h k = h
in_equations P Compose a b h k = h

or_exchanged : (x y : Bool) → (x || y) ≡ (y || x)
or_exchanged true true = refl
or_exchanged true false = refl
or_exchanged false true = refl
or_exchanged false false = refl

and_exchanged : (x y : Bool) → (x && y) ≡ (y && x)
and_exchanged true true = refl
and_exchanged true false = refl
and_exchanged false true = refl
and_exchanged false false = refl

-- a commutative operator's result with the operands exchanged
result_of-exchanged : (op : Operator) (m : ℕ) (f g : Cells) → is_commutative op ≡ true → result_of op m f g ≡ result_of op m g f
result_of-exchanged Union m f g e = same_cells (cells_union f g) (cells_union g f) (λ i j. or_exchanged (f i j) (g i j))
result_of-exchanged Inter m f g e = same_cells (cells_inter f g) (cells_inter g f) (λ i j. and_exchanged (f i j) (g i j))
result_of-exchanged Diff m f g e = absurd (true≢false (sym e))
result_of-exchanged Transpose m f g e = absurd (true≢false (sym e))
result_of-exchanged Compose m f g e = absurd (true≢false (sym e))

-- an equation that was looked up is the result of the operands as they were given
pub looked_up_in_order : (v w : Keeper) (op : Operator) (a b : Quad) (n : ℕ) → ReadsQuads v w → QuadStands v a → QuadStands v b → b.height ≡ a.height → IsTrueIn w.view.words (record { op = op; height = a.height; a = first_name op a b; b = second_name op a b; r = n })
    → IsQuad w a.height (result_of op (side_of a.height) (quad_cells v a) (quad_cells v b)) (record { height = a.height; name = n })
looked_up_in_order v w op a b n r s t e =
    let f : Cells = quad_cells v a in
    let g : Cells = quad_cells v b in
    let q : ℕ → Quad = (λ m. record { height = m; name = n }) in
    in_equations (λ x y. IsTrueIn w.view.words (record { op = op; height = a.height; a = x; b = y; r = n }) → IsQuad w a.height (result_of op (side_of a.height) f g) (q a.height)) op a b
    (λ h. looked_up v w op a b n r s t e h)
    (λ c h.
    let k = subst (λ (m : ℕ). IsTrueIn w.view.words (record { op = op; height = m; a = b.name; b = a.name; r = n })) (sym e) h in
    let x = looked_up v w op b a n r t s (sym e) k in
    let y = subst (λ (m : ℕ). IsQuad w m (result_of op (side_of m) g f) (q m)) e x in
    subst (λ (d : Cells). IsQuad w a.height d (q a.height)) (result_of-exchanged op (side_of a.height) g f c) y)
