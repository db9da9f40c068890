-- Quads in their places: the steps of a spill, and squares with no cell.
use Rattle.std.proofs.Common.{◌≡◌, ◌<◌, ◌≤◌, ◌+◌, ◌-◌, ◌%◌, zero, suc, ℕ, refl, sym, ap, subst, ◌∙◌, arith}
use Rattle.rel_model.specs.declared.Quad.{Quad}
use Rattle.rel_model.specs.declared.Quarters.{Quarters}
use Rattle.rel_model.specs.Cells.{Cells, no_cells, cells_union}
use Rattle.rel_model.specs.Trees.{bottom_height, top_height, rows_at, twice, side, quartered}
use Rattle.rel_model.specs.Equations.{side_of}
use Rattle.rel_model.specs.Quads.{Keeper, IsKeeper, quad_cells, QuadStands, IsQuad, ReadsQuads, AreQuarters}
use Rattle.rel_model.proofs.TreeLaws.{Within, cells_within}
use Rattle.rel_model.proofs.Squares.{rows_at-twice, cols_at-twice}
use Rattle.rel_model.proofs.QuadLaws.{side_of-next, empty_quad, quad_cells-stay, keeps_on}
use Rattle.bit_rows.specs.Places.{placed, window}
use Rattle.bit_rows.proofs.Windows.{four_placed, union_none}

-- ---- sides
pub half_side : (h k : ℕ) → bottom_height < h → k + 1 ≡ h → side_of h ≡ side_of k + side_of k
half_side h k l e =
    let f : h - 1 ≡ k = omega arith in
    side_of-next h l ∙ ap (λ (x : ℕ). side_of x + side_of x) f

side_by_8 : (d : ℕ) → side d % 8 ≡ 0
side_by_8 zero = refl
side_by_8 (suc d) = let r = side_by_8 d in omega arith

pub side_of_by_8 : (h : ℕ) → side_of h % 8 ≡ 0
side_of_by_8 h = side_by_8 (h - bottom_height)

-- a square of a height lies within 256 rows and columns, from a row and a byte's first column on
pub record FitsRows (h row col : ℕ) : Type 0 where
  pub row_in : row + side_of h ≤ 256
  pub col_in : col + side_of h ≤ 256
  pub col_on : col % 8 ≡ 0

-- so do its four quarters, each of its height
pub record FourFit (a b c d half row col : ℕ) : Type 0 where
  pub nw : FitsRows a row col
  pub ne : FitsRows b row (col + half)
  pub sw : FitsRows c (row + half) col
  pub se : FitsRows d (row + half) (col + half)

-- a quad's quarters fit the rows where it does: each begins at most half a side further on, and that is a multiple of 8
pub four_fit : (h a b c d half row col : ℕ) → bottom_height < h → a + 1 ≡ h → b + 1 ≡ h → c + 1 ≡ h → d + 1 ≡ h → half ≡ side_of a → row + side_of h ≤ 256 → col + side_of h ≤ 256 → col % 8 ≡ 0 → FourFit a b c d half row col
four_fit h a b c d half row col over ea eb ec ed s ri ci co =
    let first = half_side h a over ea in
    let by = side_of_by_8 a in
    let on : (col + half) % 8 ≡ 0 = omega arith in
    let at : (y i j : ℕ) → y + 1 ≡ h → i ≤ row + half → j ≤ col + half → j % 8 ≡ 0 → FitsRows y i j =
    λ y i j e l m n. (let here = half_side h y over e in record { row_in = omega arith; col_in = omega arith; col_on = n }) in
    record {
      nw = at a row col ea (omega arith) (omega arith) co;
      ne = at b row (col + half) eb (omega arith) (omega arith) on;
      sw = at c (row + half) col ec (omega arith) (omega arith) co;
      se = at d (row + half) (col + half) ed (omega arith) (omega arith) on;
    }

pub quarters_fit : {v w : Keeper} {q : Quad} {four : Quarters} (half row col : ℕ) → AreQuarters v w q four → half ≡ side_of four.nw.height → row + side_of q.height ≤ 256 → col + side_of q.height ≤ 256 → col % 8 ≡ 0
    → FourFit four.nw.height four.ne.height four.sw.height four.se.height half row col
quarters_fit half row col x s ri ci co =
    let e = x.nw_height in
    let l = x.nw.low in
    four_fit _ _ _ _ _ half row col (omega (arith, e, l)) x.nw_height x.ne_height x.sw_height x.se_height s ri ci co

pub side_of-bottom : (h : ℕ) → h ≡ bottom_height → side_of h ≡ 8
side_of-bottom h e = ap side (let z : h - bottom_height ≡ 0 = omega arith in z)

pub quad_within : (w : Keeper) (q : Quad) → Within (side_of q.height) (side_of q.height) (quad_cells w q)
quad_within w q =
    let d : ℕ = q.height - bottom_height in
    subst (λ (m : ℕ). Within m (side d) (quad_cells w q)) (rows_at-twice d) (subst (λ (n : ℕ). Within (rows_at (twice d)) n (quad_cells w q)) (cols_at-twice d) (cells_within w.view.words (twice d) q.name))

-- ---- the steps of a spill
pub spilled_none : (w : Keeper) (q : Quad) (r c : ℕ) (z : Cells) → IsKeeper w → QuadStands w q → q.name ≡ 0 → z ≡ cells_union z (placed r c (quad_cells w q))
spilled_none w q r c z i s e = union_none z (quad_cells w q) r c (empty_quad w q.height q.name i s.low s.high e).means

-- a quad is spilled by its four quarters: reading keeps their sets, and four placed quarters are the placed square
pub spilled_four : (s0 s1 s2 s3 s4 : Keeper) (q : Quad) (four : Quarters) (r c m : ℕ) (z0 z1 z2 z3 z4 : Cells)
    → QuadStands s0 q → ReadsQuads s1 s2 → ReadsQuads s2 s3 → ReadsQuads s3 s4 → AreQuarters s0 s1 q four → m ≡ side_of four.nw.height
    → z1 ≡ cells_union z0 (placed r c (quad_cells s1 four.nw)) → z2 ≡ cells_union z1 (placed r (c + m) (quad_cells s2 four.ne))
    → z3 ≡ cells_union z2 (placed (r + m) c (quad_cells s3 four.sw)) → z4 ≡ cells_union z3 (placed (r + m) (c + m) (quad_cells s4 four.se))
    → z4 ≡ cells_union z0 (placed r c (quad_cells s0 q))
spilled_four s0 s1 s2 s3 s4 q four r c m z0 z1 z2 z3 z4 s k1 k2 k3 a e f0 f1 f2 f3 =
    let k12 = keeps_on 0 0 s1 s2 s3 k1.keeps k2.keeps in
    let k14 = keeps_on (0 + 0) 0 s1 s3 s4 k12 k3.keeps in
    let e1 : quad_cells s2 four.ne ≡ quad_cells s1 four.ne = quad_cells-stay 0 s1 s2 four.ne k1.keeps a.ne in
    let e2 : quad_cells s3 four.sw ≡ quad_cells s1 four.sw = quad_cells-stay (0 + 0) s1 s3 four.sw k12 a.sw in
    let e3 : quad_cells s4 four.se ≡ quad_cells s1 four.se = quad_cells-stay (0 + 0 + 0) s1 s4 four.se k14 a.se in
    let w0 : Within m m (quad_cells s1 four.nw) = subst (λ (n : ℕ). Within n n (quad_cells s1 four.nw)) (sym e) (quad_within s1 four.nw) in
    let w1 : Within m m (quad_cells s1 four.ne) = subst (λ (n : ℕ). Within n n (quad_cells s1 four.ne)) (same_side four.ne.height (let x = a.nw_height in let y = a.ne_height in omega arith)) (quad_within s1 four.ne) in
    let w2 : Within m m (quad_cells s1 four.sw) = subst (λ (n : ℕ). Within n n (quad_cells s1 four.sw)) (same_side four.sw.height (let x = a.nw_height in let y = a.sw_height in omega arith)) (quad_within s1 four.sw) in
    let w3 : Within m m (quad_cells s1 four.se) = subst (λ (n : ℕ). Within n n (quad_cells s1 four.se)) (same_side four.se.height (let x = a.nw_height in let y = a.se_height in omega arith)) (quad_within s1 four.se) in
    f3 ∙ ap (λ (g : Cells). cells_union z3 (placed (r + m) (c + m) g)) e3
    ∙ ap (λ (g : Cells). cells_union g (placed (r + m) (c + m) (quad_cells s1 four.se))) (f2 ∙ ap (λ (g : Cells). cells_union z2 (placed (r + m) c g)) e2
    ∙ ap (λ (g : Cells). cells_union g (placed (r + m) c (quad_cells s1 four.sw))) (f1 ∙ ap (λ (g : Cells). cells_union z1 (placed r (c + m) g)) e1
    ∙ ap (λ (g : Cells). cells_union g (placed r (c + m) (quad_cells s1 four.ne))) f0))
    ∙ four_placed m r c z0 (quad_cells s1 four.nw) (quad_cells s1 four.ne) (quad_cells s1 four.sw) (quad_cells s1 four.se) w0 w1 w2 w3
    ∙ ap (λ (n : ℕ). cells_union z0 (placed r c (quartered n (quad_cells s1 four.nw) (quad_cells s1 four.ne) (quad_cells s1 four.sw) (quad_cells s1 four.se)))) e
    ∙ ap (λ (g : Cells). cells_union z0 (placed r c g)) (sym a.means)
  where
    same_side : (h : ℕ) → h ≡ four.nw.height → side_of h ≡ m
    same_side h p = ap side_of p ∙ sym e

-- ---- the quad of a window with no cell
pub clear_value : (w : Keeper) (h r c m : ℕ) (f : Cells) (q : Quad) → IsKeeper w → bottom_height ≤ h → h ≤ top_height → m ≡ side_of h → window r c m f ≡ no_cells → q ≡ record { height = h; name = 0 }
    → IsQuad w h (window r c (side_of h) f) q
clear_value w h r c m f q i l t e n p =
    subst (λ (x : Quad). IsQuad w h (window r c (side_of h) f) x) (sym p)
    (subst (λ (g : Cells). IsQuad w h g (record { height = h; name = 0 })) (sym n ∙ ap (λ (k : ℕ). window r c k f) e) (empty_quad w h 0 i l t refl))
