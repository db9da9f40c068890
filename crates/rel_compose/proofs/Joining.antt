-- An addend and a product, as one.
-- 1. Rows that had nothing, to which the cells of a quad were added and then a window of a product, have the union of both.
-- 2. The union of two squares goes by quarters, so four such unions are the quarters of that of the addend and a larger window.
-- 3. The window of each quarter lies within the product, at multiples of 256 rows and columns.
-- 4. In the square of one product, the window is all of it.
use Rattle.std.proofs.Common.{◌≡◌, ◌<◌, ◌≤◌, ◌+◌, ◌-◌, ◌%◌, ◌||◌, ◌⊎◌, ◌≢◌, ℕ, Bool, List, Result, refl, sym, ap, subst, ◌∙◌, inl, inr, arith}
use Rattle.std.proofs.lemmas.Bool.{cases_lt, or_cases, and_parts, ltb-true}
use Rattle.rel_model.specs.declared.Quad.{Quad}
use Rattle.rel_model.specs.declared.Quarters.{Quarters}
use Rattle.rel_model.specs.Cells.{Cells, no_cells, cells_union, cells_compose}
use Rattle.rel_model.specs.Trees.{bottom_height, top_height, quartered}
use Rattle.rel_model.specs.Equations.{side_of}
use Rattle.rel_model.specs.Quads.{Keeper, IsKeeper, quad_cells, QuadStands, KeepsQuads, ReadsQuads, AreQuarters, quad_room}
use Rattle.rel_model.proofs.TreeLaws.{Within, same_cells}
use Rattle.rel_model.proofs.QuadLaws.{reads_on, quad_stays, quad_cells-stay, empty_quad, side_of-next}
use Rattle.bit_rows.specs.Places.{placed, window}
use Rattle.bit_rows.proofs.Windows.{quartered_nw, quartered_ne, quartered_sw, quartered_se, window-quartered, window_whole, spilled_alone}
use Rattle.row_quads.proofs.Placing.{quad_within}
use Rattle.row_quads.proofs.ByRows.{product_within}
use Rattle.quad_nodes.specs.Making.{MakesQuad}
use Rattle.quad_nodes.proofs.Finding.{within_at}
use Rattle.quad_nodes.proofs.Making.{AreParts, made_at}
use Rattle.bit_rows.specs.declared.Row.{Row}
use Rattle.bit_rows.specs.Rows.{rows_cells}
use Rattle.row_quads.specs.declared.squares.Squares.{Squares}
use Rattle.rel_compose.specs.Products.{composition, summed, FourAreSmall, AddsQuads, AddsWindows}
use Rattle.rel_compose.proofs.FourParts.{Aim, Plan, Stays, Four}
use Rattle.rel_compose.proofs.Transposing.{HasQuarters}
use Rattle.rel_compose.proofs.Summing.{window_union, window_again, side_of_8, low_at, side_of_by_256, product_later, product_whole}

-- ---- rows to which both were added
pub sum_rows : (r c : ℕ) (z0 z1 z x f g : Cells) → Within (side_of 8) (side_of 8) x → z0 ≡ no_cells → z1 ≡ cells_union z0 (placed 0 0 x) → z ≡ cells_union z1 (window r c 256 g) → g ≡ f
    → window 0 0 (side_of 8) z ≡ cells_union x (window r c (side_of 8) f)
sum_rows r c z0 z1 z x f g v e0 e1 e2 eg =
    let m : ℕ = side_of 8 in
    let d : z ≡ cells_union x (window r c 256 f) =
    e2 ∙ ap (λ (y : Cells). cells_union y (window r c 256 g)) (spilled_alone z0 z1 x e0 e1) ∙ ap (λ (y : Cells). cells_union x (window r c 256 y)) eg in
    ap (λ (y : Cells). window 0 0 m y) d ∙ window_union m 0 0 x (window r c 256 f)
    ∙ ap (λ (y : Cells). cells_union y (window 0 0 m (window r c 256 f))) (window_whole m x v)
    ∙ ap (λ (y : Cells). cells_union x y) (ap (λ (k : ℕ). window 0 0 k (window r c 256 f)) side_of_8 ∙ window_again 256 r c f ∙ ap (λ (k : ℕ). window r c k f) (sym side_of_8))

-- a quad of height 8 lies within its side
pub eight_within : (w : Keeper) (q : Quad) → q.height ≡ 8 → Within (side_of 8) (side_of 8) (quad_cells w q)
eight_within w q e = subst (λ (h : ℕ). Within (side_of h) (side_of h) (quad_cells w q)) e (quad_within w q)

-- the quarters of a square of 512 rows
pub quarters_small : (s0 s1 : Keeper) (x : Quad) (four : Quarters) → x.height ≡ 9 → AreQuarters s0 s1 x four → FourAreSmall s1 four
quarters_small s0 s1 x four e p =
    let a = p.nw_height in
    let b = p.ne_height in
    let c = p.sw_height in
    let d = p.se_height in
    record { nw = p.nw; ne = p.ne; sw = p.sw; se = p.se; nw_height = omega arith; ne_height = omega arith; sw_height = omega arith; se_height = omega arith }

-- ---- the corner of four unions
quartered-union : (n : ℕ) (a b d e p q s t : Cells)
    → quartered n (cells_union a p) (cells_union b q) (cells_union d s) (cells_union e t) ≡ cells_union (quartered n a b d e) (quartered n p q s t)
quartered-union n a b d e p q s t = same_cells _ _ (λ i j. here i j (cases_lt i n) (cases_lt j n))
  where
    both : {x y u v : Bool} → x ≡ u → y ≡ v → (u || v) ≡ (x || y)
    both g h = cc

    here : (i j : ℕ) → ((i < n) ⊎ (n ≤ i)) → ((j < n) ⊎ (n ≤ j))
        → quartered n (cells_union a p) (cells_union b q) (cells_union d s) (cells_union e t) i j ≡ (quartered n a b d e i j || quartered n p q s t i j)
    here i j (inl x) (inl y) = quartered_nw n (cells_union a p) (cells_union b q) (cells_union d s) (cells_union e t) i j x y ∙ both (quartered_nw n a b d e i j x y) (quartered_nw n p q s t i j x y)
    here i j (inl x) (inr y) = quartered_ne n (cells_union a p) (cells_union b q) (cells_union d s) (cells_union e t) i j x y ∙ both (quartered_ne n a b d e i j x y) (quartered_ne n p q s t i j x y)
    here i j (inr x) (inl y) = quartered_sw n (cells_union a p) (cells_union b q) (cells_union d s) (cells_union e t) i j x y ∙ both (quartered_sw n a b d e i j x y) (quartered_sw n p q s t i j x y)
    here i j (inr x) (inr y) = quartered_se n (cells_union a p) (cells_union b q) (cells_union d s) (cells_union e t) i j x y ∙ both (quartered_se n a b d e i j x y) (quartered_se n p q s t i j x y)

summed_within : (w : Keeper) (h : ℕ) (x : Quad) (r c : ℕ) (f : Cells) → x.height ≡ h → Within (side_of h) (side_of h) (summed w x h r c f)
summed_within w h x r c f e =
    let v = within_at w h x e in
    let m : ℕ = side_of h in
    record {
      row = λ i j i_has. elim (or_cases _ _ i_has) [ inl y ↦ v.row i j y | inr y ↦ ltb-true i m (and_parts _ _ y).0 ];
      col = λ i j i_has. elim (or_cases _ _ i_has) [ inl y ↦ v.col i j y | inr y ↦ ltb-true j m (and_parts _ _ (and_parts _ _ y).1).0 ];
    }

-- a sum goes by quarters: the quad is made of its quarters, the window of four windows of half the side, and the union
-- of two squares is the union quarter by quarter
pub sum_parts : {s0 sq : Keeper} {x : Quad} {four : Quarters} (k h m r c : ℕ) (f : Cells) → h + 1 ≡ k → x.height ≡ k → m ≡ side_of h → HasQuarters s0 sq x four
    → AreParts sq k (summed s0 x k r c f) h (summed sq four.nw h r c f) (summed sq four.ne h r (c + m) f) (summed sq four.sw h (r + m) c f) (summed sq four.se h (r + m) (c + m) f)
sum_parts {s0} {sq} {x} {four} k h m r c f one eh e q =
    let p = q.four in
    let l = q.over in
    let low = p.nw.low in
    let h0 = p.nw_height in
    let h1 = p.ne_height in
    let h2 = p.sw_height in
    let h3 = p.se_height in
    let n : ℕ = side_of h in
    let e0 : four.nw.height ≡ h = omega arith in
    let over : bottom_height < k = omega arith in
    let below : k - 1 ≡ h = omega arith in
    let up : side_of k ≡ n + n = side_of-next k over ∙ ap (λ (z : ℕ). side_of z + side_of z) below in
    let a : Cells = quad_cells sq four.nw in
    let b : Cells = quad_cells sq four.ne in
    let d : Cells = quad_cells sq four.sw in
    let g : Cells = quad_cells sq four.se in
    let whole : quartered n (window r c n f) (window r (c + m) n f) (window (r + m) c n f) (window (r + m) (c + m) n f) ≡ window r c (side_of k) f =
    ap (λ (z : ℕ). quartered n (window r c n f) (window r (c + z) n f) (window (r + z) c n f) (window (r + z) (c + z) n f)) e
    ∙ sym (window-quartered n r c f)
    ∙ ap (λ (z : ℕ). window r c z f) (sym up) in
    let addend : quad_cells s0 x ≡ quartered n a b d g = p.means ∙ ap (λ (z : ℕ). quartered (side_of z) a b d g) e0 in
    record {
      work = q.reads.keeps.after;
      low = omega arith;
      next = one;
      within = record {
        nw = summed_within sq h four.nw r c f (omega arith);
        ne = summed_within sq h four.ne r (c + m) f (omega arith);
        sw = summed_within sq h four.sw (r + m) c f (omega arith);
        se = summed_within sq h four.se (r + m) (c + m) f (omega arith);
      };
      means = quartered-union n a b d g (window r c n f) (window r (c + m) n f) (window (r + m) c n f) (window (r + m) (c + m) n f)
          ∙ ap (λ (z : Cells). cells_union (quartered n a b d g) z) whole
          ∙ ap (λ (z : Cells). cells_union z (window r c (side_of k) f)) (sym addend);
    }

-- the same sum under an equal height
pub made_at_height : {E : Type 0} {h k : ℕ} (r c : ℕ) (x f : Cells) {v w : Keeper} {res : Result Quad E} → h ≡ k
    → MakesQuad (quad_room h) h (cells_union x (window r c (side_of h) f)) v w res → MakesQuad (quad_room k) k (cells_union x (window r c (side_of k) f)) v w res
made_at_height r c x f e s = made_at e (ap (λ (n : ℕ). cells_union x (window r c (side_of n) f)) e) s

-- ---- the window of a quarter
pub record QuarterWindow (h side : ℕ) (q : Quad) (row col : ℕ) : Type 0 where
  pub tall : 8 ≤ q.height
  pub within : q.height ≤ h
  pub row_on : row % 256 ≡ 0
  pub col_on : col % 256 ≡ 0
  pub row_in : row + side_of q.height ≤ side
  pub col_in : col + side_of q.height ≤ side

quarter_place : (m n d place side r : ℕ) → d ≡ m → n ≡ m + m → m % 256 ≡ 0 → place % 256 ≡ 0 → place + n ≤ side → (r ≡ place) ⊎ (r ≡ place + d) → (r % 256 ≡ 0) × (r + m ≤ side)
quarter_place m n d place side r ed en mo po pi e = elim e [
  | inl x ↦ (omega arith, omega arith)
  | inr x ↦ (omega arith, omega arith)
]

-- the window of a quarter begins where that of the square does or half a side further: half the side is a multiple of
-- 256, and from either place it does not pass the end of the square
pub quarter_window : (k h side d row col : ℕ) (q : Quad) (r c : ℕ) → 8 ≤ k → k ≢ 8 → k ≤ h → q.height + 1 ≡ k → d ≡ side_of (k - 1) → row % 256 ≡ 0 → col % 256 ≡ 0
    → row + side_of k ≤ side → col + side_of k ≤ side → (r ≡ row) ⊎ (r ≡ row + d) → (c ≡ col) ⊎ (c ≡ col + d) → QuarterWindow h side q r c
quarter_window k h side d row col q r c l n w e ed ro co ri ci er ec =
    let up = side_of-next k (low_at k l n) in
    let by = side_of_by_256 (k - 1) (omega (arith, l, n)) in
    let eq : q.height ≡ k - 1 = omega arith in
    let es : side_of q.height ≡ side_of (k - 1) = ap side_of eq in
    let x = quarter_place (side_of (k - 1)) (side_of k) d row side r ed up by ro ri er in
    let y = quarter_place (side_of (k - 1)) (side_of k) d col side c ed up by co ci ec in
    let x1 = x.1 in
    let y1 = y.1 in
    record {
      tall = omega (arith, l, n, e);
      within = omega (arith, w, e);
      row_on = x.0;
      col_on = y.0;
      row_in = omega (arith, x1, es);
      col_in = omega (arith, y1, es);
    }

-- ---- a sum by quarters
-- a quad, to which the window of a product is to be added, and its quarters, which were read first
pub record IsSum (s0 sq : Keeper) (x a b : Quad) (four : Quarters) (m row col : ℕ) : Type 0 where
  pub quarters : HasQuarters s0 sq x four
  pub a_stands : QuadStands s0 a
  pub b_stands : QuadStands s0 b
  pub one_height : b.height ≡ a.height
  pub tall : 8 ≤ x.height
  pub taller : x.height ≢ 8
  pub within : x.height ≤ a.height
  pub half : m ≡ side_of (x.height - 1)
  pub row_on : row % 256 ≡ 0
  pub col_on : col % 256 ≡ 0
  pub row_in : row + side_of x.height ≤ side_of a.height
  pub col_in : col + side_of x.height ≤ side_of a.height

-- what the sum of a quarter asks for, after calls that keep all
pub quarter_asked : {n m row col : ℕ} {s0 sq v : Keeper} {x a b : Quad} {four : Quarters} → IsSum s0 sq x a b four m row col → (y : Quad) → QuadStands sq y → y.height + 1 ≡ x.height
    → (r c : ℕ) → (r ≡ row) ⊎ (r ≡ row + m) → (c ≡ col) ⊎ (c ≡ col + m) → KeepsQuads n sq v
    → QuadStands v y × (QuadStands v a × (QuadStands v b × ((b.height ≡ a.height) × ((8 ≤ y.height) × ((y.height ≤ a.height) × ((r % 256 ≡ 0) × ((c % 256 ≡ 0) × ((r + side_of y.height ≤ side_of a.height) × (c + side_of y.height ≤ side_of a.height)))))))))
quarter_asked {n} {m} {row} {col} {s0} {sq} {v} {x} {a} {b} s y i e r c er ec k =
    let z = quarter_window x.height a.height (side_of a.height) m row col y r c s.tall s.taller s.within e s.half s.row_on s.col_on s.row_in s.col_in er ec in
    let kq = s.quarters.reads.keeps in
    (quad_stays n sq v y k i, (quad_stays n sq v a k (quad_stays 0 s0 sq a kq s.a_stands), (quad_stays n sq v b k (quad_stays 0 s0 sq b kq s.b_stands), (s.one_height, (z.tall, (z.within, (z.row_on, (z.col_on, (z.row_in, z.col_in)))))))))

-- the same of equal parts
parts_as : {w : Keeper} {k h : ℕ} {f f0 f1 f2 f3 g0 g1 g2 g3 : Cells} → f0 ≡ g0 → f1 ≡ g1 → f2 ≡ g2 → f3 ≡ g3 → AreParts w k f h f0 f1 f2 f3 → AreParts w k f h g0 g1 g2 g3
parts_as {w} {k} {h} {f} {f0} {f1} {f2} {f3} {g0} {g1} {g2} {g3} e0 e1 e2 e3 p =
    subst (λ (c : Cells). AreParts w k f h g0 g1 g2 c) e3 (subst (λ (c : Cells). AreParts w k f h g0 g1 c f3) e2 (subst (λ (c : Cells). AreParts w k f h g0 c f2 f3) e1 (subst (λ (c : Cells). AreParts w k f h c f1 f2 f3) e0 p)))

-- the parts of a sum
parts_of : {s0 sq : Keeper} {x a b : Quad} {four : Quarters} {m row col : ℕ} → IsSum s0 sq x a b four m row col → let f : Cells = composition sq a b in
    AreParts sq x.height (summed s0 x x.height row col (composition s0 a b)) (x.height - 1) (summed sq four.nw four.nw.height row col f) (summed sq four.ne four.ne.height row (col + m) f)
    (summed sq four.sw four.sw.height (row + m) col f) (summed sq four.se four.se.height (row + m) (col + m) f)
parts_of {s0} {sq} {x} {a} {b} {four} {m} {row} {col} s =
    let l = s.tall in
    let q = s.quarters.four in
    let e0 = q.nw_height in
    let e1 = q.ne_height in
    let e2 = q.sw_height in
    let e3 = q.se_height in
    let f : Cells = composition s0 a b in
    let same = product_later 0 s0 sq a b s.quarters.reads.keeps s.a_stands s.b_stands in
    let h : ℕ = x.height - 1 in
    let at : (y : Quad) (r c : ℕ) → h ≡ y.height → summed sq y h r c f ≡ summed sq y y.height r c (composition sq a b) =
    λ y r c e. ap (λ (z : ℕ). summed sq y z r c f) e ∙ ap (λ (g : Cells). summed sq y y.height r c g) (sym same) in
    parts_as (at four.nw row col (omega arith)) (at four.ne row (col + m) (omega arith)) (at four.sw (row + m) col (omega arith)) (at four.se (row + m) (col + m) (omega arith))
    (sum_parts x.height h m row col f (omega arith) refl s.half s.quarters)

-- the sums of the quarters
abbrev sum_of : Quad → Quad → Quad → ℕ → ℕ → Aim
sum_of y a b r c = record { height = y.height; after = λ (w : Keeper). summed w y y.height r c (composition w a b) }

abbrev pub sums : Keeper → Quad → Quad → Quad → Quarters → ℕ → ℕ → ℕ → Plan
sums s0 x a b four m row col = record {
  height = x.height;
  set = summed s0 x x.height row col (composition s0 a b);
  nw = sum_of four.nw a b row col;
  ne = sum_of four.ne a b row (col + m);
  sw = sum_of four.sw a b (row + m) col;
  se = sum_of four.se a b (row + m) (col + m);
}

sum_stays : {m row col : ℕ} {s0 sq : Keeper} {x a b : Quad} {four : Quarters} → IsSum s0 sq x a b four m row col → (y : Quad) → QuadStands sq y → y.height + 1 ≡ x.height → (r c : ℕ) → Stays sq (x.height - 1) (sum_of y a b r c)
sum_stays {s0 = s0} {sq = sq} {a = a} {b = b} s y i e r c =
    let k0 = s.quarters.reads.keeps in
    record {
      height = omega arith;
      same = λ n v k.
          ap (λ (z : Cells). cells_union z (window r c (side_of y.height) (composition v a b))) (quad_cells-stay n sq v y k i)
          ∙ ap (λ (z : Cells). summed sq y y.height r c z) (product_later n sq v a b k (quad_stays 0 s0 sq a k0 s.a_stands) (quad_stays 0 s0 sq b k0 s.b_stands));
    }

-- the sums of the quarters are the quarters of the sum, and calls that keep the quads change none of them
pub four_sums : {m row col : ℕ} {s0 sq : Keeper} {x a b : Quad} {four : Quarters} → IsSum s0 sq x a b four m row col → Four sq (sums s0 x a b four m row col)
four_sums {m} {row} {col} {four = four} s =
    let q = s.quarters.four in
    record {
      parts = parts_of s;
      nw = sum_stays s four.nw q.nw q.nw_height row col;
      ne = sum_stays s four.ne q.ne q.ne_height row (col + m);
      sw = sum_stays s four.sw q.sw q.sw_height (row + m) col;
      se = sum_stays s four.se q.se q.se_height (row + m) (col + m);
    }

-- ---- the sum of a square of 512 rows
-- a square of 256 rows of the sum
abbrev pub square_cells : List Row → Cells
square_cells z = window 0 0 (side_of 8) (rows_cells z)

-- the quarters of an addend were added to squares with no cell, and then the windows of a product
pub four_sum_parts : {s0 sq sp sa : Keeper} {x a b : Quad} {four : Quarters} (row col : ℕ) (z0 z1 z : Squares) → x.height ≡ 9 → HasQuarters s0 sq x four → ReadsQuads sq sp → ReadsQuads sp sa → QuadStands s0 a → QuadStands s0 b
    → rows_cells z0.nw ≡ no_cells → rows_cells z0.ne ≡ no_cells → rows_cells z0.sw ≡ no_cells → rows_cells z0.se ≡ no_cells → AddsQuads sq four z0 z1 → AddsWindows z1 z row col (composition sp a b)
    → AreParts sa 9 (summed s0 x 9 row col (composition s0 a b)) 8 (square_cells z.nw) (square_cells z.ne) (square_cells z.sw) (square_cells z.se)
four_sum_parts {s0} {sq} {sp} {sa} {x} {a} {b} {four} row col z0 z1 z e q rp ra sa_ sb n0 n1 n2 n3 y t =
    let kp = reads_on s0 sq sp q.reads rp in
    let same = product_later 0 s0 sp a b kp.keeps sa_ sb in
    let v = quarters_small s0 sq x four e q.four in
    let f : Cells = composition s0 a b in
    let g : Cells = composition sp a b in
    let p = sum_parts 9 8 256 row col f (omega arith) e (sym side_of_8) q in
    parts_as
    (sym (sum_rows row col (rows_cells z0.nw) (rows_cells z1.nw) (rows_cells z.nw) _ f g (eight_within sq four.nw v.nw_height) n0 y.nw t.nw same))
    (sym (sum_rows row (col + 256) (rows_cells z0.ne) (rows_cells z1.ne) (rows_cells z.ne) _ f g (eight_within sq four.ne v.ne_height) n1 y.ne t.ne same))
    (sym (sum_rows (row + 256) col (rows_cells z0.sw) (rows_cells z1.sw) (rows_cells z.sw) _ f g (eight_within sq four.sw v.sw_height) n2 y.sw t.sw same))
    (sym (sum_rows (row + 256) (col + 256) (rows_cells z0.se) (rows_cells z1.se) (rows_cells z.se) _ f g (eight_within sq four.se v.se_height) n3 y.se t.se same))
    (record { work = ra.keeps.after; low = p.low; next = p.next; within = p.within; means = p.means })

-- the squares are gathered
abbrev gather_of : List Row → Aim
gather_of z = record { height = 8; after = λ (w : Keeper). square_cells z }

abbrev pub gathered : Cells → Squares → Plan
gathered f z = record { height = 9; set = f; nw = gather_of z.nw; ne = gather_of z.ne; sw = gather_of z.sw; se = gather_of z.se }

gather_stays : (u : Keeper) (z : List Row) → Stays u 8 (gather_of z)
gather_stays u z = record { height = refl; same = λ n v k. refl }

pub four_gathered : {u : Keeper} {f : Cells} (z : Squares) → AreParts u 9 f 8 (square_cells z.nw) (square_cells z.ne) (square_cells z.sw) (square_cells z.se) → Four u (gathered f z)
four_gathered {u} z p = record { parts = p; nw = gather_stays u z.nw; ne = gather_stays u z.ne; sw = gather_stays u z.sw; se = gather_stays u z.se }

-- ---- no addend
none-union : (f : Cells) → cells_union no_cells f ≡ f
none-union f = same_cells _ _ (λ i j. refl)

pub without_addend : (v : Keeper) (h : ℕ) (none : Quad) (f : Cells) → none ≡ record { height = h; name = 0 } → IsKeeper v → bottom_height ≤ h → h ≤ top_height → cells_union (quad_cells v none) f ≡ f
without_addend v h none f e i l t = ap (λ (q : Quad). cells_union (quad_cells v q) f) e ∙ ap (λ (z : Cells). cells_union z f) (empty_quad v h 0 i l t refl).means ∙ none-union f

pub eight_over : (h : ℕ) → 8 ≤ h → bottom_height ≤ h
unfolding bottom_height
eight_over h l = omega arith

-- ---- all of a product
pub whole_joined : (v : Keeper) (x y z : Quad) → y.height ≡ x.height → z.height ≡ x.height
    → cells_union (quad_cells v x) (window 0 0 (side_of x.height) (composition v y z)) ≡ cells_union (quad_cells v x) (cells_compose (side_of x.height) (quad_cells v y) (quad_cells v z))
whole_joined v x y z ey ez =
    let s : side_of y.height ≡ side_of x.height = ap side_of ey in
    ap (λ (g : Cells). cells_union (quad_cells v x) g)
    (ap (λ (n : ℕ). window 0 0 n (composition v y z)) (sym s) ∙ product_whole v y z (ez ∙ sym ey) ∙ ap (λ (n : ℕ). cells_compose n (quad_cells v y) (quad_cells v z)) s)

-- rows that had nothing, to which a quad and a product of its height were added
pub joined_rows : (s0 s1 : Keeper) (x y z : Quad) (z0 z1 z2 : Cells) → y.height ≡ x.height → z.height ≡ x.height → ReadsQuads s0 s1 → QuadStands s0 y → QuadStands s0 z
    → z0 ≡ no_cells → z1 ≡ cells_union z0 (placed 0 0 (quad_cells s0 x)) → z2 ≡ cells_union z1 (cells_compose (side_of y.height) (quad_cells s1 y) (quad_cells s1 z))
    → window 0 0 (side_of x.height) z2 ≡ cells_union (quad_cells s0 x) (cells_compose (side_of x.height) (quad_cells s0 y) (quad_cells s0 z))
joined_rows s0 s1 x y z z0 z1 z2 ey ez k sy sz e0 e1 e2 =
    let m : ℕ = side_of x.height in
    let a : Cells = quad_cells s0 x in
    let f : Cells = cells_compose m (quad_cells s0 y) (quad_cells s0 z) in
    let p : cells_compose (side_of y.height) (quad_cells s1 y) (quad_cells s1 z) ≡ f =
    product_later 0 s0 s1 y z k.keeps sy sz ∙ ap (λ (n : ℕ). cells_compose n (quad_cells s0 y) (quad_cells s0 z)) (ap side_of ey) in
    let d : z2 ≡ cells_union a f = e2 ∙ ap (λ (g : Cells). cells_union z1 g) p ∙ ap (λ (g : Cells). cells_union g f) (spilled_alone z0 z1 a e0 e1) in
    let wy : Within m m (quad_cells s0 y) = subst (λ (n : ℕ). Within n n (quad_cells s0 y)) (ap side_of ey) (quad_within s0 y) in
    let wz : Within m m (quad_cells s0 z) = subst (λ (n : ℕ). Within n n (quad_cells s0 z)) (ap side_of ez) (quad_within s0 z) in
    ap (λ (g : Cells). window 0 0 m g) d ∙ window_union m 0 0 a f
    ∙ ap (λ (g : Cells). cells_union g (window 0 0 m f)) (window_whole m a (quad_within s0 x))
    ∙ ap (λ (g : Cells). cells_union a g) (window_whole m f (product_within m (quad_cells s0 y) (quad_cells s0 z) wy wz))
