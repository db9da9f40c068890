-- Partial products summed within a window.
-- 1. A window that lies within a quarter of a square is a window of that quarter, and the window of a union is the union of the windows.
-- 2. A quarter of a product is the union of two products of quarters, so a window of a product is the union of windows of two products of half the side.
-- 3. Down to squares of 256 rows and columns these are added to rows; the quad of a product is gathered from such sums.
use Rattle.std.proofs.Common.{◌≡◌, ◌<◌, ◌≤◌, ◌+◌, ◌-◌, ◌%◌, ◌^◌, ◌&&◌, ◌||◌, ◌⊎◌, ◌≢◌, ltb, zero, suc, ℕ, Bool, true, false, refl, sym, ap, subst, ◌∙◌, inl, inr, arith}
use Rattle.std.proofs.lemmas.Bool.{cases_lt, le-ltb, and_left, and_right}
use Rattle.std.proofs.Math.Nat.{pow-le-pow_right}
use Rattle.rel_model.specs.declared.Quad.{Quad}
use Rattle.rel_model.specs.declared.Quarters.{Quarters}
use Rattle.rel_model.specs.Cells.{Cells, no_cells, cells_union, cells_compose}
use Rattle.rel_model.specs.Trees.{bottom_height, top_height, quartered, side}
use Rattle.rel_model.specs.Equations.{side_of}
use Rattle.rel_model.specs.Quads.{Keeper, IsKeeper, quad_cells, QuadStands, IsQuad, KeepsQuads, ReadsQuads, AreQuarters}
use Rattle.rel_model.proofs.TreeLaws.{Within, same_cells}
use Rattle.rel_model.proofs.Composing.{cells_compose-quartered}
use Rattle.rel_model.proofs.QuadLaws.{quad_cells-stay, empty_quad, side_of-next, side_of-power}
use Rattle.bit_rows.specs.Places.{window}
use Rattle.bit_rows.proofs.Windows.{quartered_nw, quartered_ne, quartered_sw, quartered_se, window_whole}
use Rattle.row_quads.proofs.Placing.{quad_within}
use Rattle.row_quads.proofs.ByRows.{product_within}
use Rattle.rel_compose.specs.Products.{BothStand, row_by_column, IsHalf}
use Rattle.rel_compose.proofs.Multiplying.{squares, both_at, composed_none-left, composed_none-right}

-- ---- windows
window_same : (w r c r2 c2 : ℕ) (f g : Cells) → ((i j : ℕ) → i < w → j < w → f (r + i) (c + j) ≡ g (r2 + i) (c2 + j)) → window r c w f ≡ window r2 c2 w g
window_same w r c r2 c2 f g h = same_cells _ _ (λ i j. elim (cases_lt i w) [
  | inr x ↦ and_left (ltb i w) _ (le-ltb i w x) ∙ sym (and_left (ltb i w) _ (le-ltb i w x))
  | inl x ↦ elim (cases_lt j w) [
    | inr y ↦ and_right (ltb i w) _ (and_left (ltb j w) _ (le-ltb j w y)) ∙ sym (and_right (ltb i w) _ (and_left (ltb j w) _ (le-ltb j w y)))
    | inl y ↦ ap (λ (b : Bool). ltb i w && (ltb j w && b)) (h i j x y)
  ]
])

pub window_union : (w r c : ℕ) (f g : Cells) → window r c w (cells_union f g) ≡ cells_union (window r c w f) (window r c w g)
window_union w r c f g = same_cells _ _ (λ i j. spread (ltb i w) (ltb j w) (f (r + i) (c + j)) (g (r + i) (c + j)))
  where
    spread : (a b x y : Bool) → (a && (b && (x || y))) ≡ ((a && (b && x)) || (a && (b && y)))
    spread true true x y = refl
    spread true false x y = refl
    spread false b x y = refl

-- the window of a window that begins where it does
pub window_again : (w r c : ℕ) (f : Cells) → window 0 0 w (window r c w f) ≡ window r c w f
window_again w r c f = same_cells _ _ (λ i j.
    let a : 0 + i ≡ i = omega arith in
    let b : 0 + j ≡ j = omega arith in
    ap (λ (k : ℕ). ltb i w && (ltb j w && window r c w f k (0 + j))) a ∙ ap (λ (k : ℕ). ltb i w && (ltb j w && window r c w f i k)) b
    ∙ twice_alike (ltb i w) (ltb j w) (f (r + i) (c + j)))
  where
    twice_alike : (a b x : Bool) → (a && (b && (a && (b && x)))) ≡ (a && (b && x))
    twice_alike true true x = refl
    twice_alike true false x = refl
    twice_alike false b x = refl

-- a window within each quarter
part_nw : (m r c : ℕ) (p q s t : Cells) → r + 256 ≤ m → c + 256 ≤ m → window r c 256 (quartered m p q s t) ≡ window r c 256 p
part_nw m r c p q s t k l = window_same 256 r c r c (quartered m p q s t) p (λ i j x y. quartered_nw m p q s t (r + i) (c + j) (omega arith) (omega arith))

part_ne : (m r c : ℕ) (p q s t : Cells) → r + 256 ≤ m → m ≤ c → window r c 256 (quartered m p q s t) ≡ window r (c - m) 256 q
part_ne m r c p q s t k l = window_same 256 r c r (c - m) (quartered m p q s t) q (λ i j x y.
    let e : c + j - m ≡ c - m + j = omega arith in
    quartered_ne m p q s t (r + i) (c + j) (omega arith) (omega arith) ∙ ap (λ (n : ℕ). q (r + i) n) e)

part_sw : (m r c : ℕ) (p q s t : Cells) → m ≤ r → c + 256 ≤ m → window r c 256 (quartered m p q s t) ≡ window (r - m) c 256 s
part_sw m r c p q s t k l = window_same 256 r c (r - m) c (quartered m p q s t) s (λ i j x y.
    let e : r + i - m ≡ r - m + i = omega arith in
    quartered_sw m p q s t (r + i) (c + j) (omega arith) (omega arith) ∙ ap (λ (n : ℕ). s n (c + j)) e)

part_se : (m r c : ℕ) (p q s t : Cells) → m ≤ r → m ≤ c → window r c 256 (quartered m p q s t) ≡ window (r - m) (c - m) 256 t
part_se m r c p q s t k l = window_same 256 r c (r - m) (c - m) (quartered m p q s t) t (λ i j x y.
    let e : r + i - m ≡ r - m + i = omega arith in
    let f : c + j - m ≡ c - m + j = omega arith in
    quartered_se m p q s t (r + i) (c + j) (omega arith) (omega arith) ∙ ap (λ (n : ℕ). t n (c + j - m)) e ∙ ap (λ (n : ℕ). t (r - m + i) n) f)

-- ---- places by 256
by_256 : (d : ℕ) → side (suc (suc (suc (suc (suc d))))) % 256 ≡ 0
by_256 zero = refl
by_256 (suc d) = let r = by_256 d in omega arith

pub side_of_by_256 : (h : ℕ) → 8 ≤ h → side_of h % 256 ≡ 0
unfolding bottom_height
side_of_by_256 h l =
    let e : h - 3 ≡ suc (suc (suc (suc (suc (h - 8))))) = omega arith in
    ap (λ (x : ℕ). side x % 256) e ∙ by_256 (h - 8)

-- a place in a half
pub record IsIn (half rest : ℕ) : Type 0 where
  pub on : rest % 256 ≡ 0
  pub within : rest < half

pub place_in : (first second pair : Quad × Quad) (place half rest : ℕ) → IsHalf first second place half pair rest → place % 256 ≡ 0 → half % 256 ≡ 0 → place < half + half → IsIn half rest
place_in first second pair place half rest s o h l = elim s.which [
  | inl x ↦ (let e = x.2 in let a = x.0 in record { on = omega arith; within = omega arith })
  | inr x ↦ (let e = x.2 in let a = x.0 in record { on = omega arith; within = omega arith })
]

-- the pair is one of both
pub half_stands : (w : Keeper) (k : ℕ) (first second pair : Quad × Quad) (place half rest : ℕ) → IsHalf first second place half pair rest → BothStand w k first → BothStand w k second → BothStand w k pair
half_stands w k first second pair place half rest s a b = elim s.which [
  | inl x ↦ subst (λ (p : Quad × Quad). BothStand w k p) (sym x.1) a
  | inr x ↦ subst (λ (p : Quad × Quad). BothStand w k p) (sym x.1) b
]

-- ---- a window of a product
-- the product of a row and a column, by their quads
abbrev pub crossing : Keeper → ℕ → Quad × Quad → Quad × Quad → Cells
crossing w m row column = row_by_column m (quad_cells w row.0) (quad_cells w row.1) (quad_cells w column.0) (quad_cells w column.1)

-- a window of a square of four products lies in one of them, that of the row of its half and the column of its half,
-- and is the window there
crossed : (w : Keeper) (m row col r c : ℕ) (n s e t left right : Quad × Quad) → IsHalf n s row m left r → IsHalf e t col m right c
    → row % 256 ≡ 0 → col % 256 ≡ 0 → m % 256 ≡ 0
    → window row col 256 (quartered m (crossing w m n e) (crossing w m n t) (crossing w m s e) (crossing w m s t)) ≡ window r c 256 (crossing w m left right)
crossed w m row col r c n s e t left right p q a b d = here p.which q.which
  where
    rest : (x y : ℕ) (u v : Quad × Quad) → r ≡ x → c ≡ y → left ≡ u → right ≡ v → window x y 256 (crossing w m u v) ≡ window r c 256 (crossing w m left right)
    rest x y u v f g h i =
        ap (λ (k : ℕ). window k y 256 (crossing w m u v)) (sym f) ∙ ap (λ (k : ℕ). window r k 256 (crossing w m u v)) (sym g)
        ∙ ap (λ (k : Quad × Quad). window r c 256 (crossing w m k v)) (sym h) ∙ ap (λ (k : Quad × Quad). window r c 256 (crossing w m left k)) (sym i)

    here : ((row < m) × (left ≡ n) × (r ≡ row)) ⊎ ((m ≤ row) × (left ≡ s) × (r ≡ row - m)) → ((col < m) × (right ≡ e) × (c ≡ col)) ⊎ ((m ≤ col) × (right ≡ t) × (c ≡ col - m))
        → window row col 256 (quartered m (crossing w m n e) (crossing w m n t) (crossing w m s e) (crossing w m s t)) ≡ window r c 256 (crossing w m left right)
    here (inl x) (inl y) = let k = x.0 in let l = y.0 in part_nw m row col (crossing w m n e) (crossing w m n t) (crossing w m s e) (crossing w m s t) (omega arith) (omega arith) ∙ rest row col n e x.2 y.2 x.1 y.1
    here (inl x) (inr y) = let k = x.0 in let l = y.0 in part_ne m row col (crossing w m n e) (crossing w m n t) (crossing w m s e) (crossing w m s t) (omega arith) l ∙ rest row (col - m) n t x.2 y.2 x.1 y.1
    here (inr x) (inl y) = let k = x.0 in let l = y.0 in part_sw m row col (crossing w m n e) (crossing w m n t) (crossing w m s e) (crossing w m s t) k (omega arith) ∙ rest (row - m) col s e x.2 y.2 x.1 y.1
    here (inr x) (inr y) = let k = x.0 in let l = y.0 in part_se m row col (crossing w m n e) (crossing w m n t) (crossing w m s e) (crossing w m s t) k l ∙ rest (row - m) (col - m) s t x.2 y.2 x.1 y.1

-- the product of two squares by their quarters
product_quartered : (s0 s1 : Keeper) (a b : Quad) (fa fb : Quarters) (m : ℕ) → bottom_height < a.height → b.height ≡ a.height → AreQuarters s0 s1 a fa → AreQuarters s0 s1 b fb → m ≡ side_of (a.height - 1)
    → cells_compose (side_of a.height) (quad_cells s0 a) (quad_cells s0 b)
    ≡ quartered m (crossing s1 m (fa.nw, fa.ne) (fb.nw, fb.sw)) (crossing s1 m (fa.nw, fa.ne) (fb.ne, fb.se)) (crossing s1 m (fa.sw, fa.se) (fb.nw, fb.sw)) (crossing s1 m (fa.sw, fa.se) (fb.ne, fb.se))
product_quartered s0 s1 a b fa fb m l eh pa pb em =
    let f : Quad → Cells = quad_cells s1 in
    let ea : side_of fa.nw.height ≡ m = (let x = pa.nw_height in let g : fa.nw.height ≡ a.height - 1 = omega arith in ap side_of g ∙ sym em) in
    let eb : side_of fb.nw.height ≡ m = (let x = pb.nw_height in let g : fb.nw.height ≡ a.height - 1 = omega arith in ap side_of g ∙ sym em) in
    let up : side_of a.height ≡ m + m = side_of-next a.height l ∙ ap (λ (x : ℕ). x + x) (sym em) in
    let ma : quad_cells s0 a ≡ quartered m (f fa.nw) (f fa.ne) (f fa.sw) (f fa.se) = pa.means ∙ ap (λ (x : ℕ). quartered x (f fa.nw) (f fa.ne) (f fa.sw) (f fa.se)) ea in
    let mb : quad_cells s0 b ≡ quartered m (f fb.nw) (f fb.ne) (f fb.sw) (f fb.se) = pb.means ∙ ap (λ (x : ℕ). quartered x (f fb.nw) (f fb.ne) (f fb.sw) (f fb.se)) eb in
    ap (λ (x : ℕ). cells_compose x (quad_cells s0 a) (quad_cells s0 b)) up
    ∙ ap (λ (c : Cells). cells_compose (m + m) c (quad_cells s0 b)) ma
    ∙ ap (λ (c : Cells). cells_compose (m + m) (quartered m (f fa.nw) (f fa.ne) (f fa.sw) (f fa.se)) c) mb
    ∙ cells_compose-quartered m (f fa.nw) (f fa.ne) (f fa.sw) (f fa.se) (f fb.nw) (f fb.ne) (f fb.sw) (f fb.se)

union_on : (f g h : Cells) → cells_union (cells_union f g) h ≡ cells_union f (cells_union g h)
union_on f g h = same_cells _ _ (λ i j. or_on (f i j) (g i j) (h i j))
  where
    or_on : (a b c : Bool) → ((a || b) || c) ≡ (a || (b || c))
    or_on true b c = refl
    or_on false b c = refl

-- two products of half the side were added to rows
pub sums_added : (s0 s1 s2 : Keeper) (a b : Quad) (fa fb : Quarters) (left right : Quad × Quad) (m row col r c : ℕ) (z0 z1 z2 : Cells)
    → bottom_height < a.height → b.height ≡ a.height → AreQuarters s0 s1 a fa → AreQuarters s0 s1 b fb → m ≡ side_of (a.height - 1)
    → IsHalf (fa.nw, fa.ne) (fa.sw, fa.se) row m left r → IsHalf (fb.nw, fb.sw) (fb.ne, fb.se) col m right c
    → row % 256 ≡ 0 → col % 256 ≡ 0 → m % 256 ≡ 0 → ReadsQuads s1 s2 → BothStand s1 (a.height - 1) left → BothStand s1 (a.height - 1) right
    → z1 ≡ cells_union z0 (window r c 256 (cells_compose (side_of left.0.height) (quad_cells s1 left.0) (quad_cells s1 right.0)))
    → z2 ≡ cells_union z1 (window r c 256 (cells_compose (side_of left.1.height) (quad_cells s2 left.1) (quad_cells s2 right.1)))
    → z2 ≡ cells_union z0 (window row col 256 (cells_compose (side_of a.height) (quad_cells s0 a) (quad_cells s0 b)))
sums_added s0 s1 s2 a b fa fb left right m row col r c z0 z1 z2 l eh pa pb em hl hr a0 b0 m0 k sl sr e1 e2 =
    let f : Quad → Cells = quad_cells s1 in
    let n0 : side_of left.0.height ≡ m = ap side_of sl.first_height ∙ sym em in
    let n1 : side_of left.1.height ≡ m = ap side_of sl.second_height ∙ sym em in
    let x : Cells = cells_compose m (f left.0) (f right.0) in
    let y : Cells = cells_compose m (f left.1) (f right.1) in
    let d1 : z1 ≡ cells_union z0 (window r c 256 x) = e1 ∙ ap (λ (n : ℕ). cells_union z0 (window r c 256 (cells_compose n (f left.0) (f right.0)))) n0 in
    let d2 : z2 ≡ cells_union z1 (window r c 256 y) =
    e2 ∙ ap (λ (n : ℕ). cells_union z1 (window r c 256 (cells_compose n (quad_cells s2 left.1) (quad_cells s2 right.1)))) n1
    ∙ ap (λ (g : Cells). cells_union z1 (window r c 256 (cells_compose m g (quad_cells s2 right.1)))) (quad_cells-stay 0 s1 s2 left.1 k.keeps sl.second)
    ∙ ap (λ (g : Cells). cells_union z1 (window r c 256 (cells_compose m (f left.1) g))) (quad_cells-stay 0 s1 s2 right.1 k.keeps sr.second) in
    d2 ∙ ap (λ (g : Cells). cells_union g (window r c 256 y)) d1 ∙ union_on z0 (window r c 256 x) (window r c 256 y)
    ∙ ap (λ (g : Cells). cells_union z0 g) (sym (window_union 256 r c x y)
    ∙ sym (crossed s1 m row col r c (fa.nw, fa.ne) (fa.sw, fa.se) (fb.nw, fb.sw) (fb.ne, fb.se) left right hl hr a0 b0 m0)
    ∙ ap (λ (g : Cells). window row col 256 g) (sym (product_quartered s0 s1 a b fa fb m l eh pa pb em)))

-- ---- where nothing is added
none_more : (z : Cells) (r c : ℕ) (f : Cells) → f ≡ no_cells → z ≡ cells_union z (window r c 256 f)
none_more z r c f e = same_cells _ _ (λ i j. sym (ap (λ (g : Cells). z i j || window r c 256 g i j) e ∙ or_none (z i j) (ltb i 256) (ltb j 256)))
  where
    or_none : (x a b : Bool) → (x || (a && (b && false))) ≡ x
    or_none true a b = refl
    or_none false true true = refl
    or_none false true false = refl
    or_none false false b = refl

pub none_left_added : (w : Keeper) (a b : Quad) (r c : ℕ) (z : Cells) → IsKeeper w → QuadStands w a → a.name ≡ 0 → z ≡ cells_union z (window r c 256 (cells_compose (side_of a.height) (quad_cells w a) (quad_cells w b)))
none_left_added w a b r c z i s e = none_more z r c _ (sym (composed_none-left w a b i s e).means ∙ (empty_quad w a.height a.name i s.low s.high e).means)

pub none_right_added : (w : Keeper) (a b : Quad) (r c : ℕ) (z : Cells) → IsKeeper w → QuadStands w b → b.height ≡ a.height → b.name ≡ 0 → z ≡ cells_union z (window r c 256 (cells_compose (side_of a.height) (quad_cells w a) (quad_cells w b)))
none_right_added w a b r c z i s h e = none_more z r c _ (sym (composed_none-right w a b i s h e).means ∙ (empty_quad w b.height b.name i s.low s.high e).means)

-- ---- a product within a window
pub side_of_8 : side_of 8 ≡ 256
unfolding bottom_height
side_of_8 = refl

-- the cells of a product, in a later state
pub product_later : (m : ℕ) (v w : Keeper) (a b : Quad) → KeepsQuads m v w → QuadStands v a → QuadStands v b
    → cells_compose (side_of a.height) (quad_cells w a) (quad_cells w b) ≡ cells_compose (side_of a.height) (quad_cells v a) (quad_cells v b)
product_later m v w a b k s t =
    ap (λ (c : Cells). cells_compose (side_of a.height) c (quad_cells w b)) (quad_cells-stay m v w a k s) ∙ ap (λ (c : Cells). cells_compose (side_of a.height) (quad_cells v a) c) (quad_cells-stay m v w b k t)

-- ---- heights
pub low_at : (h : ℕ) → 8 ≤ h → h ≢ 8 → bottom_height < h
unfolding bottom_height
low_at h l n = omega arith

pub low_8 : bottom_height < 8
unfolding bottom_height
low_8 = omega arith

pub over_8 : (h : ℕ) → 8 < h → bottom_height < h
unfolding bottom_height
over_8 h l = omega arith

pub side_small_8 : (h : ℕ) → h ≡ 8 → side_of h ≤ 256
side_small_8 h e = let s = ap side_of e in let t = side_of_8 in omega arith

pub eight_low : bottom_height ≤ 8
unfolding bottom_height
eight_low = omega arith

pub eight_high : 8 ≤ top_height
unfolding top_height
eight_high = omega arith

pub eight_small : 0 + side_of 8 ≤ 256
eight_small = let t = side_of_8 in omega arith

-- ---- the whole product
-- the window of a whole product is the product
pub product_whole : (w : Keeper) (a b : Quad) → b.height ≡ a.height
    → window 0 0 (side_of a.height) (cells_compose (side_of a.height) (quad_cells w a) (quad_cells w b)) ≡ cells_compose (side_of a.height) (quad_cells w a) (quad_cells w b)
product_whole w a b h =
    let m : ℕ = side_of a.height in
    let wb : Within m m (quad_cells w b) = subst (λ (c : ℕ). Within c c (quad_cells w b)) (ap side_of h) (quad_within w b) in
    window_whole m _ (product_within m (quad_cells w a) (quad_cells w b) (quad_within w a) wb)

pub whole_sum : (v w : Keeper) (a b q : Quad) → b.height ≡ a.height
    → IsQuad w a.height (window 0 0 (side_of a.height) (cells_compose (side_of a.height) (quad_cells v a) (quad_cells v b))) q → IsQuad w a.height (cells_compose (side_of a.height) (quad_cells v a) (quad_cells v b)) q
whole_sum v w a b q h i = subst (λ (c : Cells). IsQuad w a.height c q) (product_whole v a b h) i

-- the product of two squares of 256 rows was added to rows
pub whole_added : (w : Keeper) (a b : Quad) (r c : ℕ) (z0 z : Cells) → a.height ≡ 8 → b.height ≡ a.height → r % 256 ≡ 0 → c % 256 ≡ 0 → r < side_of a.height → c < side_of a.height
    → z ≡ cells_union z0 (cells_compose (side_of a.height) (quad_cells w a) (quad_cells w b))
    → z ≡ cells_union z0 (window r c 256 (cells_compose (side_of a.height) (quad_cells w a) (quad_cells w b)))
whole_added w a b r c z0 z e h ro co ri ci s =
    let n : side_of a.height ≡ 256 = ap side_of e ∙ side_of_8 in
    let r0 : r ≡ 0 = omega arith in
    let c0 : c ≡ 0 = omega arith in
    let f : Cells = cells_compose (side_of a.height) (quad_cells w a) (quad_cells w b) in
    s ∙ ap (λ (g : Cells). cells_union z0 g) (sym (product_whole w a b h) ∙ ap (λ (k : ℕ). window 0 0 k f) n ∙ ap (λ (k : ℕ). window k 0 256 f) (sym r0) ∙ ap (λ (k : ℕ). window r k 256 f) (sym c0))

-- ---- a row of one square and a column of the other
pub record Crossing (w : Keeper) (h m : ℕ) (left right : Quad × Quad) (r c : ℕ) : Type 0 where
  pub over : bottom_height < h
  pub half_on : m % 256 ≡ 0
  pub left_stands : BothStand w (h - 1) left
  pub right_stands : BothStand w (h - 1) right
  pub row : IsIn m r
  pub col : IsIn m c
  pub row_first : r < side_of left.0.height
  pub col_first : c < side_of left.0.height
  pub row_second : r < side_of left.1.height
  pub col_second : c < side_of left.1.height

-- a window of a product meets one row of quarters of the first square and one column of the second: half the side is a
-- multiple of 256, so the window lies wholly in one half each way
pub crossing_of : (s0 s1 : Keeper) (a b : Quad) (fa fb : Quarters) (left right : Quad × Quad) (m row col r c : ℕ)
    → 8 ≤ a.height → a.height ≢ 8 → b.height ≡ a.height → AreQuarters s0 s1 a fa → AreQuarters s0 s1 b fb → m ≡ side_of (a.height - 1)
    → IsHalf (fa.nw, fa.ne) (fa.sw, fa.se) row m left r → IsHalf (fb.nw, fb.sw) (fb.ne, fb.se) col m right c
    → row % 256 ≡ 0 → col % 256 ≡ 0 → row < side_of a.height → col < side_of a.height → Crossing s1 a.height m left right r c
crossing_of s0 s1 a b fa fb left right m row col r c l n eh pa pb em hl hr ro co ri ci =
    let o : bottom_height < a.height = low_at a.height l n in
    let k : ℕ = a.height - 1 in
    let ek : k ≡ fa.nw.height = (let x = pa.nw_height in omega arith) in
    let sq = squares s0 s1 a b fa fb eh pa pb in
    let sl = half_stands s1 k (fa.nw, fa.ne) (fa.sw, fa.se) left row m r hl (both_at s1 fa.nw.height k (fa.nw, fa.ne) ek sq.north) (both_at s1 fa.nw.height k (fa.sw, fa.se) ek sq.south) in
    let sr = half_stands s1 k (fb.nw, fb.sw) (fb.ne, fb.se) right col m c hr (both_at s1 fa.nw.height k (fb.nw, fb.sw) ek sq.west) (both_at s1 fa.nw.height k (fb.ne, fb.se) ek sq.east) in
    let up : side_of a.height ≡ m + m = side_of-next a.height o ∙ ap (λ (x : ℕ). x + x) (sym em) in
    let mo : m % 256 ≡ 0 = ap (λ (x : ℕ). x % 256) em ∙ side_of_by_256 k (omega arith) in
    let x = place_in (fa.nw, fa.ne) (fa.sw, fa.se) left row m r hl ro mo (omega arith) in
    let y = place_in (fb.nw, fb.sw) (fb.ne, fb.se) right col m c hr co mo (omega arith) in
    let n0 : side_of left.0.height ≡ m = ap side_of sl.first_height ∙ sym em in
    let n1 : side_of left.1.height ≡ m = ap side_of sl.second_height ∙ sym em in
    let xw = x.within in
    let yw = y.within in
    record {
      over = o;
      half_on = mo;
      left_stands = sl;
      right_stands = sr;
      row = x;
      col = y;
      row_first = omega arith;
      col_first = omega arith;
      row_second = omega arith;
      col_second = omega arith;
    }

-- ---- a height that is 8
pub eight_in : (h place side : ℕ) → h ≡ 8 → place + side_of h ≤ side → place < side
eight_in h place side e l = let s = ap side_of e in let t = side_of_8 in omega arith

-- the side of the greatest square
pub side_most : (h : ℕ) → bottom_height ≤ h → h ≤ top_height → side_of h ≤ 2 ^ 24
unfolding top_height
side_most h l m = subst (λ (x : ℕ). x ≤ 2 ^ 24) (sym (side_of-power h l)) (pow-le-pow_right {n = 2} (omega arith) {i = h} {j = 24} m)

-- a place in the second half of a square within another
pub place_fits : (k h place half : ℕ) → bottom_height < k → bottom_height ≤ h → h ≤ top_height → half ≡ side_of (k - 1) → place + side_of k ≤ side_of h → place + half < 2 ^ 32
place_fits k h place half o l m e i =
    let s = side_of-next k o in
    let b = side_most h l m in
    omega arith
