-- The squares of a composition by their first rows and columns.
-- 1. A quarter of a window is a window, so a square of a number is a window from its first row and column on.
-- 2. These lie within the square, and where the squares have 256 rows and columns or more, they are multiples of 256.
use Rattle.std.proofs.Common.{◌≡◌, ◌≢◌, ◌<◌, ◌≤◌, ◌+◌, ◌-◌, ◌*◌, ◌%◌, ◌^◌, ◌&&◌, ltb, zero, suc, ℕ, Bool, Result, IfOk, refl, sym, ap, subst, ◌∙◌, inl, inr, arith}
use Rattle.std.proofs.Math.Nat.{pow-suc}
use Rattle.std.proofs.lemmas.Bool.{cases_lt, lt-ltb, le-ltb, and_left, and_right}
use Rattle.rel_model.specs.declared.Quad.{Quad}
use Rattle.rel_model.specs.Relation.{size_limit}
use Rattle.rel_model.specs.Cells.{Cells, cells_compose}
use Rattle.rel_model.specs.Trees.{bottom_height, top_height}
use Rattle.rel_model.specs.Equations.{side_of}
use Rattle.rel_model.specs.Quads.{Keeper, IsQuad, quad_cells, KeepsQuads, quad_room}
use Rattle.rel_model.proofs.TreeLaws.{Within, same_cells}
use Rattle.rel_model.proofs.QuadLaws.{side_of-next, keeps_most}
use Rattle.bit_rows.specs.Places.{window}
use Rattle.row_quads.proofs.Placing.{quad_within}
use Rattle.bit_rows.proofs.Windows.{window_whole}
use Rattle.row_quads.proofs.ByRows.{product_within, same_value}
use Rattle.rel_compose.proofs.Summing.{side_of_by_256, side_most}
use Rattle.fork_quads.specs.Middle.{whole_words}
use Rattle.fork_quads.proofs.Parts.{nth-all}
use Rattle.fork_quads.specs.Forks.{place_at_cut, quarter, part, south, east, first_at, product_of, product_words}

-- ---- windows
-- a cell of a quarter, as one of a window
cell_at : (m i j i2 j2 r c r2 c2 : ℕ) (f : Cells) → (i < m → j < m → (i2 < m + m) × (j2 < m + m) × (r + i2 ≡ r2 + i) × (c + j2 ≡ c2 + j))
    → (ltb i m && (ltb j m && window r c (m + m) f i2 j2)) ≡ window r2 c2 m f i j
cell_at m i j i2 j2 r c r2 c2 f h = elim (cases_lt i m) [
  | inr p ↦ and_left (ltb i m) _ (le-ltb i m p) ∙ sym (and_left (ltb i m) _ (le-ltb i m p))
  | inl p ↦ elim (cases_lt j m) [
    | inr q ↦ and_right (ltb i m) _ (and_left (ltb j m) _ (le-ltb j m q)) ∙ sym (and_right (ltb i m) _ (and_left (ltb j m) _ (le-ltb j m q)))
    | inl q ↦ (let t = h p q in ap (λ (b : Bool). ltb i m && (ltb j m && b))
        (ap (λ (b : Bool). b && (ltb j2 (m + m) && f (r + i2) (c + j2))) (lt-ltb i2 (m + m) t.0) ∙ ap (λ (b : Bool). b && f (r + i2) (c + j2)) (lt-ltb j2 (m + m) t.1)
        ∙ ap (λ (n : ℕ). f n (c + j2)) t.2 ∙ ap (λ (n : ℕ). f (r2 + i) n) t.3))
  ]
]

-- a quarter of a window is a window
quarter_window : (m r c k : ℕ) (f : Cells) → quarter m k (window r c (m + m) f) ≡ window (r + south k m) (c + east k m) m f
quarter_window m r c zero f = same_cells _ _ (λ i j. cell_at m i j i j r c (r + 0) (c + 0) f (λ p q. (omega (arith, p), omega (arith, q), omega arith, omega arith)))
quarter_window m r c (suc zero) f = same_cells _ _ (λ i j. cell_at m i j i (m + j) r c (r + 0) (c + m) f (λ p q. (omega (arith, p), omega (arith, q), omega arith, omega arith)))
quarter_window m r c (suc (suc zero)) f = same_cells _ _ (λ i j. cell_at m i j (m + i) j r c (r + m) (c + 0) f (λ p q. (omega (arith, p), omega (arith, q), omega arith, omega arith)))
quarter_window m r c (suc (suc (suc k))) f = same_cells _ _ (λ i j. cell_at m i j (m + i) (m + j) r c (r + m) (c + m) f (λ p q. (omega (arith, p), omega (arith, q), omega arith, omega arith)))

-- a window at places that are sums
placed_on : (r x y k u v h c : ℕ) (f : Cells) → window (r + x + y) (k + u + v) (side_of (h - 1 - c)) f ≡ window (r + (x + y)) (k + (u + v)) (side_of (h - suc c)) f
placed_on r x y k u v h c f =
    let a : r + x + y ≡ r + (x + y) = omega arith in
    let b : k + u + v ≡ k + (u + v) = omega arith in
    let d : h - 1 - c ≡ h - suc c = omega arith in
    ap (λ (n : ℕ). window n (k + u + v) (side_of (h - 1 - c)) f) a ∙ ap (λ (n : ℕ). window (r + (x + y)) n (side_of (h - 1 - c)) f) b ∙ ap (λ (n : ℕ). window (r + (x + y)) (k + (u + v)) (side_of n) f) d

-- the square of a number of a window
part_window : (h c n r k : ℕ) (f : Cells) → bottom_height + c ≤ h → part h c n (window r k (side_of h) f) ≡ window (r + first_at south h c n) (k + first_at east h c n) (side_of (h - c)) f
part_window h zero n r k f l =
    let a : r ≡ r + 0 = omega arith in
    let b : k ≡ k + 0 = omega arith in
    let d : h ≡ h - 0 = omega arith in
    ap (λ (x : ℕ). window x k (side_of h) f) a ∙ ap (λ (x : ℕ). window (r + 0) x (side_of h) f) b ∙ ap (λ (x : ℕ). window (r + 0) (k + 0) (side_of x) f) d
part_window h (suc c) n r k f l =
    let m : ℕ = side_of (h - 1) in
    let p : ℕ = place_at_cut c n in
    let up : side_of h ≡ m + m = side_of-next h (omega arith) in
    ap (λ (x : ℕ). part (h - 1) c n (quarter m p (window r k x f))) up
    ∙ ap (λ (g : Cells). part (h - 1) c n g) (quarter_window m r k p f)
    ∙ part_window (h - 1) c n (r + south p m) (k + east p m) f (omega arith)
    ∙ placed_on r (south p m) (first_at south (h - 1) c n) k (east p m) (first_at east (h - 1) c n) h c f

-- the square of a number of a composition is a window of it
pub windowed_value : {E : Type 0} (v w : Keeper) (a b : Quad) (c n row col : ℕ) (r : Result Quad E) → b.height ≡ a.height → bottom_height + c ≤ a.height → row ≡ first_at south a.height c n → col ≡ first_at east a.height c n
    → IfOk r (IsQuad w (a.height - c) (window row col (side_of (a.height - c)) (cells_compose (side_of a.height) (quad_cells v a) (quad_cells v b))))
    → IfOk r (IsQuad w (a.height - c) (product_of v a b c n))
windowed_value v w a b c n row col r h l er ec i =
    let m : ℕ = side_of a.height in
    let s : ℕ = side_of (a.height - c) in
    let f : Cells = cells_compose m (quad_cells v a) (quad_cells v b) in
    let wb : Within m m (quad_cells v b) = subst (λ (x : ℕ). Within x x (quad_cells v b)) (ap side_of h) (quad_within v b) in
    let whole : window 0 0 m f ≡ f = window_whole m f (product_within m (quad_cells v a) (quad_cells v b) (quad_within v a) wb) in
    let er2 : row ≡ 0 + first_at south a.height c n = omega (arith, er) in
    let ec2 : col ≡ 0 + first_at east a.height c n = omega (arith, ec) in
    let e : window row col s f ≡ part a.height c n f =
    ap (λ (x : ℕ). window x col s f) er2 ∙ ap (λ (x : ℕ). window (0 + first_at south a.height c n) x s f) ec2
    ∙ sym (part_window a.height c n 0 0 f l) ∙ ap (λ (g : Cells). part a.height c n g) whole in
    same_value w (a.height - c) (window row col s f) (product_of v a b c n) r e i

-- ---- first rows and columns
pub south_most : (k m : ℕ) → south k m ≤ m
south_most k m = nth-all (λ (x : ℕ). x ≤ m) k 0 0 m m (omega arith) (omega arith) (omega arith) (omega arith)

pub east_most : (k m : ℕ) → east k m ≤ m
east_most k m = nth-all (λ (x : ℕ). x ≤ m) k 0 m 0 m (omega arith) (omega arith) (omega arith) (omega arith)

south_on : (k m : ℕ) → m % 256 ≡ 0 → south k m % 256 ≡ 0
south_on k m h = nth-all (λ (x : ℕ). x % 256 ≡ 0) k 0 0 m m refl refl h h

east_on : (k m : ℕ) → m % 256 ≡ 0 → east k m % 256 ≡ 0
east_on k m h = nth-all (λ (x : ℕ). x % 256 ≡ 0) k 0 m 0 m refl h refl h

first_fits : (by : ℕ → ℕ → ℕ) → ((k m : ℕ) → by k m ≤ m) → (h c n : ℕ) → bottom_height + c ≤ h → first_at by h c n + side_of (h - c) ≤ side_of h
first_fits by q h zero n l = let d : h - 0 ≡ h = omega arith in let e = ap side_of d in omega (arith, e)
first_fits by q h (suc c) n l =
    let up = side_of-next h (omega arith) in
    let i = first_fits by q (h - 1) c n (omega arith) in
    let t = q (place_at_cut c n) (side_of (h - 1)) in
    let d : h - 1 - c ≡ h - suc c = omega arith in
    let e = ap side_of d in
    omega (arith, up, i, t, e)

first_on : (by : ℕ → ℕ → ℕ) → ((k m : ℕ) → m % 256 ≡ 0 → by k m % 256 ≡ 0) → (h c n : ℕ) → 8 + c ≤ h → first_at by h c n % 256 ≡ 0
first_on by q h zero n l = refl
first_on by q h (suc c) n l =
    let i = first_on by q (h - 1) c n (omega arith) in
    let t = q (place_at_cut c n) (side_of (h - 1)) (side_of_by_256 (h - 1) (omega arith)) in
    omega (arith, i, t)

pub row_fits : (h c n row : ℕ) → row ≡ first_at south h c n → bottom_height + c ≤ h → row + side_of (h - c) ≤ side_of h
row_fits h c n row e l = let f = first_fits south south_most h c n l in omega (arith, e, f)

pub col_fits : (h c n col : ℕ) → col ≡ first_at east h c n → bottom_height + c ≤ h → col + side_of (h - c) ≤ side_of h
col_fits h c n col e l = let f = first_fits east east_most h c n l in omega (arith, e, f)

pub row_on : (h c n row : ℕ) → row ≡ first_at south h c n → 8 + c ≤ h → row % 256 ≡ 0
row_on h c n row e l = ap (λ (x : ℕ). x % 256) e ∙ first_on south south_on h c n l

pub col_on : (h c n col : ℕ) → col ≡ first_at east h c n → 8 + c ≤ h → col % 256 ≡ 0
col_on h c n col e l = ap (λ (x : ℕ). x % 256) e ∙ first_on east east_on h c n l

-- ---- one cut before
pub first_none : (by : ℕ → ℕ → ℕ) (h c n : ℕ) → c ≡ 0 → 0 ≡ first_at by h c n
first_none by h c n e = ap (λ (x : ℕ). first_at by h x n) (sym e)

-- ---- room
whole_most : (t d : ℕ) → 2 * 4 ^ d - 1 ≤ whole_words t d
whole_most zero zero = omega arith
whole_most zero (suc d) = let p : 4 ^ suc d ≡ 4 ^ d * 4 = pow-suc 4 d in omega (arith, p)
whole_most (suc t) zero = omega arith
whole_most (suc t) (suc d) = omega arith

window_room : (t h c : ℕ) → quad_room (h - c) ≤ product_words t h c
window_room t h zero =
    let w = whole_most t (h - bottom_height) in
    let d : h - 0 ≡ h = omega arith in
    let e = ap quad_room d in
    omega (arith, w, e)
window_room t h (suc c) =
    let d : h - 1 - c ≡ h - suc c = omega arith in
    let e = ap quad_room d in
    omega (arith, e)

pub windowed_keeps : (v w : Keeper) (t h c : ℕ) → KeepsQuads (quad_room (h - c)) v w → KeepsQuads (product_words t h c) v w
windowed_keeps v w t h c k = keeps_most _ _ v w (window_room t h c) k

-- ---- heights
pub deep_over : (h c : ℕ) → 8 + c ≤ h → bottom_height + c ≤ h
unfolding bottom_height
deep_over h c l = omega (arith, l)

-- ---- sums of places
sum_small : (h half x y : ℕ) → bottom_height < h → h ≤ top_height → half ≡ side_of (h - 1) → x ≤ half → y ≤ half → x + y ≤ size_limit
sum_small h half x y l t e p q =
    let up = side_of-next h l in
    let m = side_most h (omega (arith, l)) t in
    omega (arith, up, m, e, p, q)

rest_small : (by : ℕ → ℕ → ℕ) → ((k m : ℕ) → by k m ≤ m) → (h c n half rest : ℕ) → c ≢ 0 → bottom_height + c ≤ h → half ≡ side_of (h - 1) → rest ≡ first_at by (h - 1) (c - 1) n → rest ≤ half
rest_small by q h c n half rest s l e r = let f = first_fits by q (h - 1) (c - 1) n (omega (arith, s, l)) in omega (arith, e, r, f)

pub row_sum : (h c n k half x y : ℕ) → c ≢ 0 → bottom_height + c ≤ h → h ≤ top_height → half ≡ side_of (h - 1) → x ≡ south k half → y ≡ first_at south (h - 1) (c - 1) n → x + y ≤ size_limit
row_sum h c n k half x y s l t e ex ey = sum_small h half x y (omega (arith, s, l)) t e (let m = south_most k half in omega (arith, m, ex)) (rest_small south south_most h c n half y s l e ey)

pub col_sum : (h c n k half x y : ℕ) → c ≢ 0 → bottom_height + c ≤ h → h ≤ top_height → half ≡ side_of (h - 1) → x ≡ east k half → y ≡ first_at east (h - 1) (c - 1) n → x + y ≤ size_limit
col_sum h c n k half x y s l t e ex ey = sum_small h half x y (omega (arith, s, l)) t e (let m = east_most k half in omega (arith, m, ex)) (rest_small east east_most h c n half y s l e ey)
