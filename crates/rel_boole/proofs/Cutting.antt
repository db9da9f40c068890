-- Operators cell by cell: operands that are one, that are empty, and quarters.
use Rattle.std.proofs.Common.{◌≡◌, ◌≢◌, ◌≤◌, ◌⊎◌, ◌&&◌, ◌||◌, not, ℕ, Bool, true, false, Some, refl, sym, ap, subst, ◌∙◌, inl, inr, arith}
use Rattle.rel_model.specs.declared.Quad.{Quad}
use Rattle.rel_model.specs.declared.Quarters.{Quarters}
use Rattle.rel_model.specs.Cells.{Cells, no_cells}
use Rattle.rel_model.specs.Trees.{bottom_height, top_height, cells, quartered}
use Rattle.rel_model.specs.Equations.{result_of, depth_of, side_of}
use Rattle.rel_model.specs.Quads.{Keeper, IsKeeper, quad_cells, QuadStands, IsQuad, AreQuarters}
use Rattle.rel_model.proofs.TreeLaws.{same_cells}
use Rattle.rel_model.proofs.Squares.{each_cell-quartered}
use Rattle.rel_model.proofs.QuadLaws.{empty_quad}
use Rattle.rel_boole.specs.declared.boole.Boole.{Boole}
use Rattle.rel_boole.specs.declared.boole.Boole.TheVariants.{Union as UNION, Inter as INTER, Diff as DIFF}
use Rattle.rel_boole.specs.Cellwise.{holds_by, cells_by, operator_for, CutsOff}

-- ---- equal and empty operands
-- the operator on equal operands
same_by : (op : Boole) → op ≢ DIFF → (x : Bool) → holds_by op x x ≡ x
same_by UNION h true = refl
same_by UNION h false = refl
same_by INTER h true = refl
same_by INTER h false = refl
same_by DIFF h x = absurd (h refl)

-- a quad named 0 has no cell
pub named_0 : (w : Keeper) (q : Quad) → IsKeeper w → QuadStands w q → q.name ≡ 0 → quad_cells w q ≡ no_cells
named_0 w q i s e = (empty_quad w q.height q.name i s.low s.high e).means

-- the empty quad of a height
pub no_quad : (w : Keeper) (h : ℕ) (q : Quad) → q ≡ record { height = h; name = 0 } → IsKeeper w → bottom_height ≤ h → h ≤ top_height → IsQuad w h no_cells q
no_quad w h q e i l t = subst (λ (x : Quad). IsQuad w h no_cells x) (sym e) (empty_quad w h 0 i l t refl)

-- two quads of one height and one name have one set
one_name : (w : Keeper) (a b : Quad) → b.height ≡ a.height → a.name ≡ b.name → quad_cells w b ≡ quad_cells w a
one_name w a b e f = ap (λ (x : ℕ). cells w.view.words (depth_of x) b.name) e ∙ ap (λ (x : ℕ). cells w.view.words (depth_of a.height) x) (sym f)

itself : (w : Keeper) (a : Quad) (f : Cells) → QuadStands w a → quad_cells w a ≡ f → IsQuad w a.height f a
itself w a f s e = record { same_height = refl; stands = s; means = e }

-- the first operand is the result
pub cut_first : (op : Boole) (a b : Quad) → ((x : Bool) → holds_by op x false ≡ x) → b.name ≡ 0 → CutsOff op a b (Some a)
cut_first op a b z n w i s t e =
    itself w a _ s (sym (ap (λ (c : Cells). cells_by op (quad_cells w a) c) (named_0 w b i t n) ∙ same_cells (cells_by op (quad_cells w a) no_cells) (quad_cells w a) (λ i j. z (quad_cells w a i j))))

pub cut_same : (op : Boole) (a b : Quad) → op ≢ DIFF → a.name ≡ b.name → CutsOff op a b (Some a)
cut_same op a b h n w i s t e =
    itself w a _ s (sym (ap (λ (c : Cells). cells_by op (quad_cells w a) c) (one_name w a b e n) ∙ same_cells (cells_by op (quad_cells w a) (quad_cells w a)) (quad_cells w a) (λ i j. same_by op h (quad_cells w a i j))))

-- the second operand is the result
pub cut_second : (op : Boole) (a b : Quad) → ((x : Bool) → holds_by op false x ≡ x) → a.name ≡ 0 → CutsOff op a b (Some b)
cut_second op a b z n w i s t e =
    let f : quad_cells w b ≡ cells_by op (quad_cells w a) (quad_cells w b) =
    sym (ap (λ (c : Cells). cells_by op c (quad_cells w b)) (named_0 w a i s n) ∙ same_cells (cells_by op no_cells (quad_cells w b)) (quad_cells w b) (λ i j. z (quad_cells w b i j))) in
    record { same_height = e; stands = t; means = f }

-- the result has no cell
pub cut_none : (op : Boole) (a b q : Quad) → q ≡ record { height = a.height; name = 0 } → ((w : Keeper) → IsKeeper w → QuadStands w a → QuadStands w b → b.height ≡ a.height → (i j : ℕ) → holds_by op (quad_cells w a i j) (quad_cells w b i j) ≡ false)
    → CutsOff op a b (Some q)
cut_none op a b q n z w i s t e =
    let x = no_quad w a.height q n i s.low s.high in
    record { same_height = x.same_height; stands = x.stands; means = x.means ∙ sym (same_cells (cells_by op (quad_cells w a) (quad_cells w b)) no_cells (z w i s t e)) }

and_false : (x : Bool) → (x && false) ≡ false
and_false true = refl
and_false false = refl

and_not : (x : Bool) → (x && not x) ≡ false
and_not true = refl
and_not false = refl

or_false : (x : Bool) → (x || false) ≡ x
or_false true = refl
or_false false = refl

and_true : (x : Bool) → (x && true) ≡ x
and_true true = refl
and_true false = refl

union≢diff : UNION ≢ DIFF
union≢diff e = cc

pub union_first : (a b : Quad) → (b.name ≡ 0) ⊎ (a.name ≡ b.name) → CutsOff UNION a b (Some a)
union_first a b h = elim h [ inl e ↦ cut_first UNION a b or_false e | inr e ↦ cut_same UNION a b union≢diff e ]

pub union_second : (a b : Quad) → a.name ≡ 0 → CutsOff UNION a b (Some b)
union_second a b e = cut_second UNION a b (λ x. refl) e

pub inter_none : (a b q : Quad) → q ≡ record { height = a.height; name = 0 } → (a.name ≡ 0) ⊎ (b.name ≡ 0) → CutsOff INTER a b (Some q)
inter_none a b q n h = elim h [
  | inl e ↦ cut_none INTER a b q n (λ w i s t g x y. ap (λ (c : Cells). c x y && quad_cells w b x y) (named_0 w a i s e))
  | inr e ↦ cut_none INTER a b q n (λ w i s t g x y. ap (λ (c : Cells). quad_cells w a x y && c x y) (named_0 w b i t e) ∙ and_false (quad_cells w a x y))
]

pub diff_none : (a b q : Quad) → q ≡ record { height = a.height; name = 0 } → (a.name ≡ 0) ⊎ (a.name ≡ b.name) → CutsOff DIFF a b (Some q)
diff_none a b q n h = elim h [
  | inl e ↦ cut_none DIFF a b q n (λ w i s t g x y. ap (λ (c : Cells). c x y && not (quad_cells w b x y)) (named_0 w a i s e))
  | inr e ↦ cut_none DIFF a b q n (λ w i s t g x y. ap (λ (c : Cells). quad_cells w a x y && not (c x y)) (one_name w a b g e) ∙ and_not (quad_cells w a x y))
]

pub diff_first : (a b : Quad) → b.name ≡ 0 → CutsOff DIFF a b (Some a)
diff_first a b e = cut_first DIFF a b and_true e

-- ---- the operator as equations have it
pub result_of-by : (op : Boole) (m : ℕ) (f g : Cells) → result_of (operator_for op) m f g ≡ cells_by op f g
result_of-by UNION m f g = refl
result_of-by INTER m f g = refl
result_of-by DIFF m f g = refl

-- ---- quarters
pub by_quarters : (op : Boole) (v w : Keeper) (a b : Quad) (fa fb : Quarters) → b.height ≡ a.height → AreQuarters v w a fa → AreQuarters v w b fb
    → quartered (side_of fa.nw.height) (cells_by op (quad_cells w fa.nw) (quad_cells w fb.nw)) (cells_by op (quad_cells w fa.ne) (quad_cells w fb.ne)) (cells_by op (quad_cells w fa.sw) (quad_cells w fb.sw)) (cells_by op (quad_cells w fa.se) (quad_cells w fb.se))
    ≡ cells_by op (quad_cells v a) (quad_cells v b)
by_quarters op v w a b fa fb e p q =
    let h : fb.nw.height ≡ fa.nw.height = (let x = p.nw_height in let y = q.nw_height in omega arith) in
    sym (each_cell-quartered (holds_by op) (side_of fa.nw.height) (quad_cells w fa.nw) (quad_cells w fa.ne) (quad_cells w fa.sw) (quad_cells w fa.se) (quad_cells w fb.nw) (quad_cells w fb.ne) (quad_cells w fb.sw) (quad_cells w fb.se))
    ∙ ap (λ (c : Cells). cells_by op c (quartered (side_of fa.nw.height) (quad_cells w fb.nw) (quad_cells w fb.ne) (quad_cells w fb.sw) (quad_cells w fb.se))) (sym p.means)
    ∙ ap (λ (c : Cells). cells_by op (quad_cells v a) c) (ap (λ (x : ℕ). quartered (side_of x) (quad_cells w fb.nw) (quad_cells w fb.ne) (quad_cells w fb.sw) (quad_cells w fb.se)) (sym h) ∙ sym q.means)
