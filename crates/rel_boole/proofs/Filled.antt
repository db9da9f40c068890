-- Operators with a full operand.
use Rattle.std.proofs.Common.{◌≡◌, ◌<◌, ◌-◌, ◌&&◌, ◌||◌, not, ltb, ℕ, Bool, true, false, Option, Some, IfSome, refl, sym, ap, subst, ◌∙◌}
use Rattle.std.proofs.lemmas.Bool.{false≢true, lt-ltb, and_from}
use Rattle.rel_model.specs.declared.Quad.{Quad}
use Rattle.rel_model.specs.Cells.{Cells, no_cells, cells_rect}
use Rattle.rel_model.specs.Trees.{bottom_height, side}
use Rattle.rel_model.specs.Equations.{Operator, result_of, depth_of, side_of}
use Rattle.rel_model.specs.Quads.{Keeper, quad_cells, QuadStands, IsQuad, ReadsQuads}
use Rattle.rel_model.proofs.TreeLaws.{same_cells, cells_within}
use Rattle.rel_model.proofs.Squares.{rows_at-twice, cols_at-twice}
use Rattle.rel_model.proofs.QuadLaws.{reads_on, quad_stays, quad_cells-stay}
use Rattle.rel_boole.specs.declared.boole.Boole.{Boole}
use Rattle.rel_boole.specs.declared.boole.Boole.TheVariants.{Union as UNION, Inter as INTER, Diff as DIFF}
use Rattle.rel_boole.specs.Cellwise.{cells_by, operator_for, CutsOffFull}
use Rattle.rel_boole.proofs.Cutting.{result_of-by, no_quad}

-- a quad lies within its square
pub square_has : (w : Keeper) (q : Quad) (i j : ℕ) → quad_cells w q i j ≡ true → cells_rect (side_of q.height) (side_of q.height) i j ≡ true
square_has w q i j h =
    let d : ℕ = q.height - bottom_height in
    let v = cells_within w.view.words (depth_of q.height) q.name in
    let r : i < side d = subst (λ (m : ℕ). i < m) (rows_at-twice d) (v.row i j h) in
    let c : j < side d = subst (λ (m : ℕ). j < m) (cols_at-twice d) (v.col i j h) in
    and_from (ltb i (side d)) (ltb j (side d)) (lt-ltb i (side d) r) (lt-ltb j (side d) c)

or_left_full : (r x : Bool) → (x ≡ true → r ≡ true) → (r || x) ≡ r
or_left_full true x h = refl
or_left_full false true h = absurd (false≢true (h refl))
or_left_full false false h = refl

or_right_full : (r x : Bool) → (x ≡ true → r ≡ true) → (x || r) ≡ r
or_right_full true true h = refl
or_right_full true false h = refl
or_right_full false true h = absurd (false≢true (h refl))
or_right_full false false h = refl

and_left_full : (r x : Bool) → (x ≡ true → r ≡ true) → (r && x) ≡ x
and_left_full true x h = refl
and_left_full false true h = absurd (false≢true (h refl))
and_left_full false false h = refl

and_right_full : (r x : Bool) → (x ≡ true → r ≡ true) → (x && r) ≡ x
and_right_full true true h = refl
and_right_full true false h = refl
and_right_full false true h = absurd (false≢true (h refl))
and_right_full false false h = refl

diff_full : (r x : Bool) → (x ≡ true → r ≡ true) → (x && not r) ≡ false
diff_full true true h = refl
diff_full true false h = refl
diff_full false true h = absurd (false≢true (h refl))
diff_full false false h = refl

-- the set of all cells of the square of a quad
abbrev pub all_cells : Quad → Cells
all_cells q = cells_rect (side_of q.height) (side_of q.height)

same_square : (a b : Quad) → b.height ≡ a.height → all_cells b ≡ all_cells a
same_square a b e = ap (λ (x : ℕ). cells_rect (side_of x) (side_of x)) e

-- the square of the other quad has the cells of a quad
other_has : (w : Keeper) (a b : Quad) → b.height ≡ a.height → (i j : ℕ) → quad_cells w b i j ≡ true → all_cells a i j ≡ true
other_has w a b e i j h = ap (λ (c : Cells). c i j) (sym (same_square a b e)) ∙ square_has w b i j h

other_has_back : (w : Keeper) (a b : Quad) → b.height ≡ a.height → (i j : ℕ) → quad_cells w a i j ≡ true → all_cells b i j ≡ true
other_has_back w a b e i j h = ap (λ (c : Cells). c i j) (same_square a b e) ∙ square_has w a i j h

pub union_full_first : (a b : Quad) (s : Bool) → CutsOffFull UNION a b true s (Some a)
union_full_first a b s w i p q e f g =
    record { same_height = refl; stands = p; means = f refl ∙ sym (ap (λ (c : Cells). cells_by UNION c (quad_cells w b)) (f refl) ∙ same_cells _ (all_cells a) (λ x y. or_left_full (all_cells a x y) (quad_cells w b x y) (other_has w a b e x y))) }

pub union_full_second : (a b : Quad) (r : Bool) → CutsOffFull UNION a b r true (Some b)
union_full_second a b r w i p q e f g =
    record { same_height = e; stands = q; means = g refl ∙ sym (ap (λ (c : Cells). cells_by UNION (quad_cells w a) c) (g refl) ∙ same_cells _ (all_cells b) (λ x y. or_right_full (all_cells b x y) (quad_cells w a x y) (other_has_back w a b e x y))) }

pub inter_full_first : (a b : Quad) (s : Bool) → CutsOffFull INTER a b true s (Some b)
inter_full_first a b s w i p q e f g =
    record { same_height = e; stands = q; means = sym (ap (λ (c : Cells). cells_by INTER c (quad_cells w b)) (f refl) ∙ same_cells _ (quad_cells w b) (λ x y. and_left_full (all_cells a x y) (quad_cells w b x y) (other_has w a b e x y))) }

pub inter_full_second : (a b : Quad) (r : Bool) → CutsOffFull INTER a b r true (Some a)
inter_full_second a b r w i p q e f g =
    record { same_height = refl; stands = p; means = sym (ap (λ (c : Cells). cells_by INTER (quad_cells w a) c) (g refl) ∙ same_cells _ (quad_cells w a) (λ x y. and_right_full (all_cells b x y) (quad_cells w a x y) (other_has_back w a b e x y))) }

pub diff_full_second : (a b none : Quad) (r : Bool) → none ≡ record { height = a.height; name = 0 } → CutsOffFull DIFF a b r true (Some none)
diff_full_second a b none r z w i p q e f g =
    let n = no_quad w a.height none z i p.low p.high in
    record { same_height = n.same_height; stands = n.stands; means = n.means ∙ sym (ap (λ (c : Cells). cells_by DIFF (quad_cells w a) c) (g refl) ∙ same_cells _ no_cells (λ x y. diff_full (all_cells b x y) (quad_cells w a x y) (other_has_back w a b e x y))) }

-- ---- seen from before the calls
pub found_full : (s0 s1 s2 : Keeper) (op : Boole) (a b : Quad) (a_full b_full : Bool) (r : Option Quad) → QuadStands s0 a → QuadStands s0 b → b.height ≡ a.height → ReadsQuads s0 s1 → ReadsQuads s1 s2
    → (a_full ≡ true → quad_cells s0 a ≡ all_cells a) → (b_full ≡ true → quad_cells s1 b ≡ all_cells b) → CutsOffFull op a b a_full b_full r
    → IfSome r (IsQuad s2 a.height (cells_by op (quad_cells s0 a) (quad_cells s0 b)))
found_full s0 s1 s2 op a b a_full b_full r sa sb e r0 r1 fa fb c =
    let x02 = reads_on s0 s1 s2 r0 r1 in
    let ea = quad_cells-stay 0 s0 s2 a x02.keeps sa in
    let eb = quad_cells-stay 0 s0 s2 b x02.keeps sb in
    let b1 = quad_stays 0 s0 s1 b r0.keeps sb in
    let d = c s2 r1.keeps.after (quad_stays 0 s0 s2 a x02.keeps sa) (quad_stays 0 s0 s2 b x02.keeps sb) e (λ t. ea ∙ fa t) (λ t. quad_cells-stay 0 s1 s2 b r1.keeps b1 ∙ fb t) in
    subst (λ (f : Cells). IfSome r (IsQuad s2 a.height f)) (ap (λ (f : Cells). cells_by op f (quad_cells s2 b)) ea ∙ ap (λ (f : Cells). cells_by op (quad_cells s0 a) f) eb) d

-- what was looked up, cell by cell
pub looked_by : (w : Keeper) (o : Operator) (op : Boole) (h m : ℕ) (f g : Cells) (r : Quad) → o ≡ operator_for op → IsQuad w h (result_of o m f g) r → IsQuad w h (cells_by op f g) r
looked_by w o op h m f g r e i = subst (λ (c : Cells). IsQuad w h c r) (ap (λ (x : Operator). result_of x m f g) e ∙ result_of-by op m f g) i
