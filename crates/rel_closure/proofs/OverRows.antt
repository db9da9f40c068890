-- The closure by rows of bits, as a worker of quads gives it.
-- 1. A spill adds the cells of a quad to rows: those of its quarters in their places, or those of its block.
-- 2. A gathering makes the quad of a window of rows: the corner of the quads of its quarters, or a block, or the quad named 0.
-- 3. The rows of a quad alone, closed, hold the least transitive set over its cells, which lies within its square and is its closure.
-- 4. One tree has room where a closure has.
use Rattle.std.proofs.Common.{◌≡◌, ◌<◌, ◌≤◌, ◌+◌, ◌-◌, ◌*◌, ◌%◌, ◌^◌, ◌∙◌, suc, ℕ, Some, refl, sym, ap, subst, arith, ◌⊎◌, ◌≢◌, inl, inr}
use Rattle.std.specs.Prelude.{unwrap_or}
use Rattle.std.proofs.Math.Nat.{pow-suc, one-le-pow, pow-le-pow_left, pow-le-pow_right}
use Rattle.rel_model.specs.declared.Quad.{Quad}
use Rattle.rel_model.specs.declared.Quarters.{Quarters}
use Rattle.rel_model.specs.Cells.{Cells, no_cells, cells_union, block_cells, bits_cells}
use Rattle.rel_model.specs.Trees.{top_height, quartered}
use Rattle.rel_model.specs.Quarters.{LiesWithin, GivesQuarters}
use Rattle.rel_model.specs.Roots.{tree_room}
use Rattle.rel_model.specs.Worker.{Worker, HasQuad, quad_set, GivesQuad, Keeps}
use Rattle.rel_model.proofs.TreeLaws.{Within}
use Rattle.rel_model.proofs.Workers.{keeps_trans}
use Rattle.bit_rows.specs.Places.{placed, window}
use Rattle.bit_rows.specs.Closing.{IsClosure}
use Rattle.bit_rows.proofs.Windows.{four_placed, window-quartered, union_none, spilled_alone, window_whole, closure_within}
use Rattle.rel_steps.proofs.Empty.{empty_given}
use Rattle.rel_steps.proofs.Given.{AreParts}
use Rattle.rel_closure.specs.ByQuarters.{cells_closure}
use Rattle.rel_closure.proofs.Quartering.{one_closure, closure_is}
use Rattle.rel_steps.proofs.Given.{kept_set}
use Rattle.rel_closure.proofs.OverQuads.{double_side}

-- ---- sides
pub side_by_8 : (h : ℕ) → 3 ≤ h → 2 ^ h % 8 ≡ 0
side_by_8 h l =
    let a = double_side (h - 1) h (omega (arith, l)) in
    let b = double_side (h - 2) (h - 1) (omega (arith, l)) in
    let c = double_side (h - 3) (h - 2) (omega (arith, l)) in
    omega (arith, a, b, c)

-- half a side over blocks is whole blocks
pub half_on : (least h m : ℕ) → least ≡ 3 → least ≤ h → m ≡ 2 ^ h → m % 8 ≡ 0
half_on least h m e l f = ap (λ (x : ℕ). x % 8) f ∙ side_by_8 h (omega (arith, e, l))

-- a square of a height lies within 256 rows and columns, from a row and a byte's first column on
pub record FitsRows (h row col : ℕ) : Type 0 where
  pub row_in : row + 2 ^ h ≤ 256
  pub col_in : col + 2 ^ h ≤ 256
  pub col_on : col % 8 ≡ 0

-- and so does each of its quarters
pub fits : (h k y half row col r c : ℕ) → 3 ≤ k → k + 1 ≡ h → y + 1 ≡ h → half ≡ 2 ^ k → row + 2 ^ h ≤ 256 → col + 2 ^ h ≤ 256 → col % 8 ≡ 0 → (r ≡ row) ⊎ (r ≡ row + half) → (c ≡ col) ⊎ (c ≡ col + half) → FitsRows y r c
fits h k y half row col r c l e d s ri ci co er ec =
    let first = double_side k h e in
    let here = double_side y h d in
    let by = side_by_8 k l in
    record {
      row_in = elim er [ inl x ↦ omega arith | inr x ↦ omega arith ];
      col_in = elim ec [ inl x ↦ omega arith | inr x ↦ omega arith ];
      col_on = elim ec [ inl x ↦ omega arith | inr x ↦ omega arith ];
    }

-- over the leaves
pub over_leaf : (h b least : ℕ) → h ≢ b → b ≡ least → least ≡ 3 → 3 ≤ h → 3 < h
over_leaf h b least n e d l = omega arith

-- heights of rows
pub below_top : (h : ℕ) → h ≤ 8 → h ≤ top_height
unfolding top_height
below_top h l = omega (arith, l)

pub under_top : (k h : ℕ) → k ≡ h - 1 → 3 ≤ h → h ≤ 8 → k < top_height
unfolding top_height
under_top k h e l m = omega (arith, e, l, m)

within_square : (m : ℕ) (f : Cells) → LiesWithin m m f → Within m m f
within_square m f w = record { row = w.row; col = w.col }

-- ---- the steps of a spill
pub spilled_none : (w : Worker) (q : Quad) (r c : ℕ) (z : Cells) → w.quad (record { height = q.height; name = 0 }) ≡ Some no_cells → q.name ≡ 0 → z ≡ cells_union z (placed r c (quad_set w q))
spilled_none w q r c z e n =
    let m : w.quad q ≡ Some no_cells = ap (λ (k : ℕ). w.quad (record { height = q.height; name = k })) n ∙ e in
    union_none z (quad_set w q) r c (ap (λ o. unwrap_or o no_cells) m)

pub spilled_block : (w : Worker) (q : Quad) (least bits r c : ℕ) (z y : Cells) → least ≡ 3 → bits_cells (2 ^ least) bits ≡ quad_set w q → y ≡ cells_union z (placed r c (block_cells bits)) → y ≡ cells_union z (placed r c (quad_set w q))
spilled_block w q least bits r c z y l e f =
    let same : block_cells bits ≡ quad_set w q = ap (λ (k : ℕ). bits_cells (2 ^ k) bits) (sym l) ∙ e in
    f ∙ ap (λ (g : Cells). cells_union z (placed r c g)) same

-- four quarters that are added to rows one after the other add the square: it is made of them, and each is still the
-- same when its turn comes
pub spilled_four : (w0 w1 w2 w3 w4 : Worker) (q : Quad) (four : Quarters) (r c m : ℕ) (z0 z1 z2 z3 z4 : Cells)
    → GivesQuarters w0 w1 q four → ((p : Quad) → HasQuad w1 p → LiesWithin (2 ^ p.height) (2 ^ p.height) (quad_set w1 p)) → m ≡ 2 ^ four.nw.height
    → Keeps w1 w2 → Keeps w2 w3 → Keeps w3 w4
    → z1 ≡ cells_union z0 (placed r c (quad_set w1 four.nw)) → z2 ≡ cells_union z1 (placed r (c + m) (quad_set w2 four.ne))
    → z3 ≡ cells_union z2 (placed (r + m) c (quad_set w3 four.sw)) → z4 ≡ cells_union z3 (placed (r + m) (c + m) (quad_set w4 four.se))
    → z4 ≡ cells_union z0 (placed r c (quad_set w0 q))
spilled_four w0 w1 w2 w3 w4 q four r c m z0 z1 z2 z3 z4 a square e k12 k23 k34 f0 f1 f2 f3 =
    let k13 = keeps_trans w1 w2 w3 k12 k23 in
    let k14 = keeps_trans w1 w3 w4 k13 k34 in
    let nw : Cells = quad_set w1 four.nw in
    let ne : Cells = quad_set w1 four.ne in
    let sw : Cells = quad_set w1 four.sw in
    let se : Cells = quad_set w1 four.se in
    let p0 = a.nw_height in
    let p1 = a.ne_height in
    let p2 = a.sw_height in
    let p3 = a.se_height in
    let e1 : quad_set w2 four.ne ≡ ne = kept_set w1 w2 four.ne k12 a.ne in
    let e2 : quad_set w3 four.sw ≡ sw = kept_set w1 w3 four.sw k13 a.sw in
    let e3 : quad_set w4 four.se ≡ se = kept_set w1 w4 four.se k14 a.se in
    let v0 : Within m m nw = here four.nw nw (square four.nw a.nw) refl in
    let v1 : Within m m ne = here four.ne ne (square four.ne a.ne) (omega (arith, p0, p1)) in
    let v2 : Within m m sw = here four.sw sw (square four.sw a.sw) (omega (arith, p0, p2)) in
    let v3 : Within m m se = here four.se se (square four.se a.se) (omega (arith, p0, p3)) in
    f3 ∙ ap (λ (g : Cells). cells_union z3 (placed (r + m) (c + m) g)) e3
    ∙ ap (λ (g : Cells). cells_union g (placed (r + m) (c + m) se)) (f2 ∙ ap (λ (g : Cells). cells_union z2 (placed (r + m) c g)) e2
    ∙ ap (λ (g : Cells). cells_union g (placed (r + m) c sw)) (f1 ∙ ap (λ (g : Cells). cells_union z1 (placed r (c + m) g)) e1
    ∙ ap (λ (g : Cells). cells_union g (placed r (c + m) ne)) f0))
    ∙ four_placed m r c z0 nw ne sw se v0 v1 v2 v3
    ∙ ap (λ (n : ℕ). cells_union z0 (placed r c (quartered n nw ne sw se))) e
    ∙ ap (λ (g : Cells). cells_union z0 (placed r c g)) (sym a.means)
  where
    here : (p : Quad) (f : Cells) → LiesWithin (2 ^ p.height) (2 ^ p.height) f → p.height ≡ four.nw.height → Within m m f
    here p f w h = within_square m f (subst (λ (n : ℕ). LiesWithin n n f) (ap (λ (k : ℕ). 2 ^ k) h ∙ sym e) w)

-- ---- the quad of a window
pub gathered_parts : (h r c m : ℕ) (f : Cells) → 3 < h → m ≡ 2 ^ (h - 1) → let n : ℕ = 2 ^ (h - 1) in AreParts h (window r c (2 ^ h) f) (h - 1) (window r c n f) (window r (c + m) n f) (window (r + m) c n f) (window (r + m) (c + m) n f)
gathered_parts h r c m f l e =
    let n : ℕ = 2 ^ (h - 1) in
    let one : h - 1 + 1 ≡ h = omega (arith, l) in
    record {
      next = one;
      means = ap (λ (k : ℕ). quartered n (window r c n f) (window r (c + k) n f) (window (r + k) c n f) (window (r + k) (c + k) n f)) e
          ∙ sym (window-quartered n r c f) ∙ ap (λ (k : ℕ). window r c k f) (sym (double_side (h - 1) h one));
    }

-- a window with no cell
pub clear_value : (w : Worker) (h r c m : ℕ) (f : Cells) (q : Quad) → q ≡ record { height = h; name = 0 } → w.quad (record { height = h; name = 0 }) ≡ Some no_cells → m ≡ 2 ^ h → window r c m f ≡ no_cells → GivesQuad w h (window r c (2 ^ h) f) q
clear_value w h r c m f q i z e n = empty_given w h (window r c (2 ^ h) f) q i z (ap (λ (k : ℕ). window r c k f) (sym e) ∙ n)

-- the word of a block fits in a leaf, and is that of a window
pub word_fits : (least bits : ℕ) → least ≡ 3 → bits < 2 ^ 64 → bits < 2 ^ (2 ^ least * 2 ^ least)
word_fits least bits l b = subst (λ (k : ℕ). bits < 2 ^ (2 ^ k * 2 ^ k)) (sym l) b

pub block_value : (w : Worker) (least h r c bits : ℕ) (f : Cells) (q : Quad) → least ≡ 3 → h ≡ least → block_cells bits ≡ window r c 8 f → GivesQuad w least (bits_cells (2 ^ least) bits) q → GivesQuad w h (window r c (2 ^ h) f) q
block_value w least h r c bits f q l e s g =
    let block : bits_cells (2 ^ least) bits ≡ block_cells bits = ap (λ (k : ℕ). bits_cells (2 ^ k) bits) l in
    let low : window r c 8 f ≡ window r c (2 ^ h) f = ap (λ (k : ℕ). window r c (2 ^ k) f) (sym (e ∙ l)) in
    record { means = g.means ∙ ap (λ (x : Cells). Some x) (block ∙ s ∙ low); same_height = g.same_height ∙ sym e }

-- ---- the closure of a quad
pub closed_value : (w0 w : Worker) (q all : Quad) (x0 x y : Cells) → LiesWithin (2 ^ q.height) (2 ^ q.height) (quad_set w0 q) → x0 ≡ no_cells → x ≡ cells_union x0 (placed 0 0 (quad_set w0 q)) → IsClosure x y
    → GivesQuad w q.height (window 0 0 (2 ^ q.height) y) all → GivesQuad w q.height (cells_closure (2 ^ q.height) (quad_set w0 q)) all
closed_value w0 w q all x0 x y v ex sx c g =
    let n : ℕ = 2 ^ q.height in
    let f : Cells = quad_set w0 q in
    let d : IsClosure f y = subst (λ (e : Cells). IsClosure e y) (spilled_alone x0 x f ex sx) c in
    let same : window 0 0 n y ≡ cells_closure n f = window_whole n y (closure_within n f y (within_square n f v) d) ∙ one_closure f y (cells_closure n f) d (closure_is n f v) in
    subst (λ (e : Cells). GivesQuad w q.height e all) same g

-- ---- rooms
-- a block has room, and so have four trees and their corner
pub tree_some : (h : ℕ) → 1 ≤ tree_room (h - 3)
tree_some h = let a = one-le-pow (h - 3) 4 (omega arith) in omega (arith, a)

pub tree_next : (h : ℕ) → 3 < h → 4 * tree_room (h - 1 - 3) + 3 ≡ tree_room (h - 3)
tree_next h l =
    let d : ℕ = h - 1 - 3 in
    let e : h - 3 ≡ suc d = omega (arith, l) in
    let p : 4 ^ (h - 3) ≡ 4 ^ d * 4 = ap (λ (x : ℕ). 4 ^ x) e ∙ pow-suc 4 d in
    let a : 1 ≤ 4 ^ d = one-le-pow d 4 (omega arith) in
    omega (arith, p, a)

-- one tree has room where a closure has
pub tree_fits : (h : ℕ) → tree_room (h - 3) ≤ 60 * 8 ^ h
tree_fits h =
    let p = pow-le-pow_right {n = 4} (omega arith) {i = h - 3} {j = h} (omega arith) in
    let q = pow-le-pow_left {n = 4} {m = 8} (omega arith) h in
    omega (arith, p, q)
