-- Four windows of a product at once.
-- 1. Four windows that lie two by two from a multiple of 512 rows and columns on go down by the same halves, each by the law of one.
-- 2. In a square of 512 rows they are the products of its quarters.
use Rattle.std.proofs.Common.{◌≡◌, ◌<◌, ◌≤◌, ◌+◌, ◌-◌, ◌%◌, ◌≢◌, zero, suc, ℕ, refl, sym, ap, ◌∙◌, inl, inr, arith}
use Rattle.rel_model.specs.declared.Quad.{Quad}
use Rattle.rel_model.specs.declared.Quarters.{Quarters}
use Rattle.rel_model.specs.Cells.{Cells, cells_union, cells_compose}
use Rattle.rel_model.specs.Trees.{bottom_height, side}
use Rattle.rel_model.specs.Equations.{side_of}
use Rattle.rel_model.specs.Quads.{Keeper, IsKeeper, quad_cells, QuadStands, ReadsQuads, AreQuarters}
use Rattle.bit_rows.specs.Places.{window}
use Rattle.row_quads.specs.Adding.{AddsProducts}
use Rattle.row_quads.specs.declared.squares.Squares.{Squares}
use Rattle.bit_rows.specs.Rows.{rows_cells}
use Rattle.rel_compose.specs.Products.{IsHalf, AddsWindows}
use Rattle.rel_compose.proofs.Summing.{Crossing, crossing_of, none_left_added, none_right_added, side_of_8, sums_added, whole_added}

by_512 : (d : ℕ) → side (suc (suc (suc (suc (suc (suc d)))))) % 512 ≡ 0
by_512 zero = refl
by_512 (suc d) = let r = by_512 d in omega arith

side_of_by_512 : (h : ℕ) → 9 ≤ h → side_of h % 512 ≡ 0
unfolding bottom_height
side_of_by_512 h l =
    let e : h - 3 ≡ suc (suc (suc (suc (suc (suc (h - 9)))))) = omega arith in
    ap (λ (x : ℕ). side x % 512) e ∙ by_512 (h - 9)

-- the place of the second windows is in the same half
half_shifted : (first second pair : Quad × Quad) (place half rest : ℕ) → IsHalf first second place half pair rest → place % 512 ≡ 0 → half % 512 ≡ 0 → IsHalf first second (place + 256) half pair (rest + 256)
half_shifted first second pair place half rest s o h = elim s.which [
  | inl x ↦ (let a = x.0 in let e = x.2 in record { which = inl (omega arith, x.1, omega arith) })
  | inr x ↦ (let a = x.0 in let e = x.2 in record { which = inr (omega arith, x.1, omega arith) })
]

half_by_512 : (first second pair : Quad × Quad) (place half rest : ℕ) → IsHalf first second place half pair rest → place % 512 ≡ 0 → half % 512 ≡ 0 → rest % 512 ≡ 0
half_by_512 first second pair place half rest s o h = elim s.which [
  | inl x ↦ (let e = x.2 in omega arith)
  | inr x ↦ (let e = x.2 in let a = x.0 in omega arith)
]

by_256_of : (n : ℕ) → n % 512 ≡ 0 → n % 256 ≡ 0
by_256_of n e = omega arith

shifted_by_256 : (n : ℕ) → n % 512 ≡ 0 → (n + 256) % 256 ≡ 0
shifted_by_256 n e = omega arith

-- two rows of squares and two columns of them
pub record FourCrossing (w : Keeper) (h m : ℕ) (left right : Quad × Quad) (r c : ℕ) : Type 0 where
  pub one : Crossing w h m left right r c
  pub row_on : r % 512 ≡ 0
  pub col_on : c % 512 ≡ 0
  pub half_on : m % 512 ≡ 0

-- in a square of more than 512 rows half the side is a multiple of 512, so places that are such multiples remain so
-- within their halves, and all four windows meet the same quarters
pub four_crossing_of : (s0 s1 : Keeper) (a b : Quad) (fa fb : Quarters) (left right : Quad × Quad) (m row col r c : ℕ)
    → 9 ≤ a.height → a.height ≢ 9 → b.height ≡ a.height → AreQuarters s0 s1 a fa → AreQuarters s0 s1 b fb → m ≡ side_of (a.height - 1)
    → IsHalf (fa.nw, fa.ne) (fa.sw, fa.se) row m left r → IsHalf (fb.nw, fb.sw) (fb.ne, fb.se) col m right c
    → row % 512 ≡ 0 → col % 512 ≡ 0 → row < side_of a.height → col < side_of a.height → FourCrossing s1 a.height m left right r c
four_crossing_of s0 s1 a b fa fb left right m row col r c l n eh pa pb em hl hr ro co ri ci =
    let mo : m % 512 ≡ 0 = ap (λ (x : ℕ). x % 512) em ∙ side_of_by_512 (a.height - 1) (omega arith) in
    let l8 : 8 ≤ a.height = omega arith in
    record {
      one = crossing_of s0 s1 a b fa fb left right m row col r c l8 (λ e. absurd (omega (arith, l, e))) eh pa pb em hl hr (by_256_of row ro) (by_256_of col co) ri ci;
      row_on = half_by_512 (fa.nw, fa.ne) (fa.sw, fa.se) left row m r hl ro mo;
      col_on = half_by_512 (fb.nw, fb.sw) (fb.ne, fb.se) right col m c hr co mo;
      half_on = mo;
    }

-- two products of half the side were added to four squares
pub four_sums_added : (s0 s1 s2 : Keeper) (a b : Quad) (fa fb : Quarters) (left right : Quad × Quad) (m row col r c : ℕ) (z0 z1 z2 : Squares)
    → b.height ≡ a.height → AreQuarters s0 s1 a fa → AreQuarters s0 s1 b fb → m ≡ side_of (a.height - 1)
    → IsHalf (fa.nw, fa.ne) (fa.sw, fa.se) row m left r → IsHalf (fb.nw, fb.sw) (fb.ne, fb.se) col m right c
    → row % 512 ≡ 0 → col % 512 ≡ 0 → ReadsQuads s1 s2 → FourCrossing s1 a.height m left right r c
    → AddsWindows z0 z1 r c (cells_compose (side_of left.0.height) (quad_cells s1 left.0) (quad_cells s1 right.0))
    → AddsWindows z1 z2 r c (cells_compose (side_of left.1.height) (quad_cells s2 left.1) (quad_cells s2 right.1))
    → AddsWindows z0 z2 row col (cells_compose (side_of a.height) (quad_cells s0 a) (quad_cells s0 b))
four_sums_added s0 s1 s2 a b fa fb left right m row col r c z0 z1 z2 eh pa pb em hl hr ro co k x e1 e2 =
    let y = x.one in
    let hl2 = half_shifted (fa.nw, fa.ne) (fa.sw, fa.se) left row m r hl ro x.half_on in
    let hr2 = half_shifted (fb.nw, fb.sw) (fb.ne, fb.se) right col m c hr co x.half_on in
    let r1 = by_256_of row ro in
    let c1 = by_256_of col co in
    let r2 = shifted_by_256 row ro in
    let c2 = shifted_by_256 col co in
    record {
      nw = sums_added s0 s1 s2 a b fa fb left right m row col r c (rows_cells z0.nw) (rows_cells z1.nw) (rows_cells z2.nw) y.over eh pa pb em hl hr r1 c1 y.half_on k y.left_stands y.right_stands e1.nw e2.nw;
      ne = sums_added s0 s1 s2 a b fa fb left right m row (col + 256) r (c + 256) (rows_cells z0.ne) (rows_cells z1.ne) (rows_cells z2.ne) y.over eh pa pb em hl hr2 r1 c2 y.half_on k y.left_stands y.right_stands e1.ne e2.ne;
      sw = sums_added s0 s1 s2 a b fa fb left right m (row + 256) col (r + 256) c (rows_cells z0.sw) (rows_cells z1.sw) (rows_cells z2.sw) y.over eh pa pb em hl2 hr r2 c1 y.half_on k y.left_stands y.right_stands e1.sw e2.sw;
      se = sums_added s0 s1 s2 a b fa fb left right m (row + 256) (col + 256) (r + 256) (c + 256) (rows_cells z0.se) (rows_cells z1.se) (rows_cells z2.se) y.over eh pa pb em hl2 hr2 r2 c2 y.half_on k y.left_stands y.right_stands e1.se e2.se;
    }

-- both middles of a square of 512 rows were added to one of the four
one_added : (s0 s1 s2 : Keeper) (a b : Quad) (fa fb : Quarters) (left right : Quad × Quad) (m row col r c : ℕ) (z0 z1 z2 : Cells)
    → a.height ≡ 9 → b.height ≡ a.height → AreQuarters s0 s1 a fa → AreQuarters s0 s1 b fb → m ≡ side_of (a.height - 1)
    → IsHalf (fa.nw, fa.ne) (fa.sw, fa.se) row m left r → IsHalf (fb.nw, fb.sw) (fb.ne, fb.se) col m right c
    → row % 256 ≡ 0 → col % 256 ≡ 0 → row < side_of a.height → col < side_of a.height → ReadsQuads s1 s2
    → z1 ≡ cells_union z0 (cells_compose (side_of left.0.height) (quad_cells s1 left.0) (quad_cells s1 right.0))
    → z2 ≡ cells_union z1 (cells_compose (side_of left.1.height) (quad_cells s2 left.1) (quad_cells s2 right.1))
    → z2 ≡ cells_union z0 (window row col 256 (cells_compose (side_of a.height) (quad_cells s0 a) (quad_cells s0 b)))
one_added s0 s1 s2 a b fa fb left right m row col r c z0 z1 z2 e9 eh pa pb em hl hr ro co ri ci k e1 e2 =
    let l : 8 ≤ a.height = omega arith in
    let n : a.height ≢ 8 = (λ e. absurd (omega (arith, e9, e))) in
    let x = crossing_of s0 s1 a b fa fb left right m row col r c l n eh pa pb em hl hr ro co ri ci in
    let a0 = x.left_stands.first_height in
    let a1 = x.left_stands.second_height in
    let b0 = x.right_stands.first_height in
    let b1 = x.right_stands.second_height in
    sums_added s0 s1 s2 a b fa fb left right m row col r c z0 z1 z2 x.over eh pa pb em hl hr ro co x.half_on k x.left_stands x.right_stands
    (whole_added s1 left.0 right.0 r c z0 z1 (omega arith) (b0 ∙ sym a0) x.row.on x.col.on x.row_first x.col_first e1)
    (whole_added s2 left.1 right.1 r c z1 z2 (omega arith) (b1 ∙ sym a1) x.row.on x.col.on x.row_second x.col_second e2)

side_of_9 : side_of 9 ≡ 512
unfolding bottom_height
side_of_9 = refl

-- both products of two rows of quarters were added to four squares
pub four_products_added : (s0 s1 s2 : Keeper) (a b : Quad) (fa fb : Quarters) (row col : ℕ) (z0 z1 z2 : Squares)
    → a.height ≡ 9 → b.height ≡ a.height → AreQuarters s0 s1 a fa → AreQuarters s0 s1 b fb → row % 512 ≡ 0 → col % 512 ≡ 0 → row < side_of a.height → col < side_of a.height → ReadsQuads s1 s2
    → AddsProducts s1 (fa.nw, fa.sw) (fb.nw, fb.ne) z0 z1 → AddsProducts s2 (fa.ne, fa.se) (fb.sw, fb.se) z1 z2
    → AddsWindows z0 z2 row col (cells_compose (side_of a.height) (quad_cells s0 a) (quad_cells s0 b))
four_products_added s0 s1 s2 a b fa fb row col z0 z1 z2 e9 eh pa pb ro co ri ci k x y =
    let m : ℕ = side_of (a.height - 1) in
    let em : m ≡ 256 = (let e8 : a.height - 1 ≡ 8 = omega arith in ap side_of e8 ∙ side_of_8) in
    let es : side_of a.height ≡ 512 = ap side_of e9 ∙ side_of_9 in
    let n = half_first (fa.nw, fa.ne) (fa.sw, fa.se) row m (omega arith) in
    let s = half_second (fa.nw, fa.ne) (fa.sw, fa.se) (row + 256) m (omega arith) in
    let w = half_first (fb.nw, fb.sw) (fb.ne, fb.se) col m (omega arith) in
    let e = half_second (fb.nw, fb.sw) (fb.ne, fb.se) (col + 256) m (omega arith) in
    let r1 = by_256_of row ro in
    let c1 = by_256_of col co in
    let r2 = shifted_by_256 row ro in
    let c2 = shifted_by_256 col co in
    let ri2 : row + 256 < side_of a.height = omega arith in
    let ci2 : col + 256 < side_of a.height = omega arith in
    record {
      nw = one_added s0 s1 s2 a b fa fb (fa.nw, fa.ne) (fb.nw, fb.sw) m row col row col (rows_cells z0.nw) (rows_cells z1.nw) (rows_cells z2.nw) e9 eh pa pb refl n w r1 c1 ri ci k x.nw y.nw;
      ne = one_added s0 s1 s2 a b fa fb (fa.nw, fa.ne) (fb.ne, fb.se) m row (col + 256) row (col + 256 - m) (rows_cells z0.ne) (rows_cells z1.ne) (rows_cells z2.ne) e9 eh pa pb refl n e r1 c2 ri ci2 k x.ne y.ne;
      sw = one_added s0 s1 s2 a b fa fb (fa.sw, fa.se) (fb.nw, fb.sw) m (row + 256) col (row + 256 - m) col (rows_cells z0.sw) (rows_cells z1.sw) (rows_cells z2.sw) e9 eh pa pb refl s w r2 c1 ri2 ci k x.sw y.sw;
      se = one_added s0 s1 s2 a b fa fb (fa.sw, fa.se) (fb.ne, fb.se) m (row + 256) (col + 256) (row + 256 - m) (col + 256 - m) (rows_cells z0.se) (rows_cells z1.se) (rows_cells z2.se) e9 eh pa pb refl s e r2 c2 ri2 ci2 k x.se y.se;
    }
  where
    half_first : (p q : Quad × Quad) (place half : ℕ) → place < half → IsHalf p q place half p place
    half_first p q place half l = record { which = inl (l, refl, refl) }

    half_second : (p q : Quad × Quad) (place half : ℕ) → half ≤ place → IsHalf p q place half q (place - half)
    half_second p q place half l = record { which = inr (l, refl, refl) }

-- where nothing is added
pub four_none_left : (w : Keeper) (a b : Quad) (row col : ℕ) (z : Squares) → IsKeeper w → QuadStands w a → a.name ≡ 0 → AddsWindows z z row col (cells_compose (side_of a.height) (quad_cells w a) (quad_cells w b))
four_none_left w a b row col z i s e = record {
  nw = none_left_added w a b row col (rows_cells z.nw) i s e;
  ne = none_left_added w a b row (col + 256) (rows_cells z.ne) i s e;
  sw = none_left_added w a b (row + 256) col (rows_cells z.sw) i s e;
  se = none_left_added w a b (row + 256) (col + 256) (rows_cells z.se) i s e;
}

pub four_none_right : (w : Keeper) (a b : Quad) (row col : ℕ) (z : Squares) → IsKeeper w → QuadStands w b → b.height ≡ a.height → b.name ≡ 0 → AddsWindows z z row col (cells_compose (side_of a.height) (quad_cells w a) (quad_cells w b))
four_none_right w a b row col z i s h e = record {
  nw = none_right_added w a b row col (rows_cells z.nw) i s h e;
  ne = none_right_added w a b row (col + 256) (rows_cells z.ne) i s h e;
  sw = none_right_added w a b (row + 256) col (rows_cells z.sw) i s h e;
  se = none_right_added w a b (row + 256) (col + 256) (rows_cells z.se) i s h e;
}

pub nine_low : (h : ℕ) → 9 ≤ h → bottom_height < h
unfolding bottom_height
nine_low h l = omega arith

pub nine_in : (h place side : ℕ) → h ≡ 9 → place + side_of h ≤ side → place < side
nine_in h place side e l = let s = ap side_of e in let t = side_of_9 in omega arith
