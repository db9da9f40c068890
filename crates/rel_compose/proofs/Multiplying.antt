-- One step of the composition.
-- 1. A product is two compositions of quads and their union, of which the second is seen from the state before the first.
-- 2. A row of the result is two products, and the result is the corner of two rows.
-- 3. By quarters this is the composition: each quarter is a row of quarters times a column, as matrices are multiplied by blocks.
use Rattle.std.proofs.Common.{◌≡◌, ◌<◌, ◌+◌, ◌-◌, ◌&&◌, ◌||◌, ltb, zero, suc, ℕ, Bool, true, false, Result, Ok, Err, IfOk, refl, sym, ap, subst, ◌∙◌, arith}
use Rattle.std.proofs.lemmas.Bool.{lt-ltb}
use Rattle.rel_model.specs.declared.Quad.{Quad}
use Rattle.rel_model.specs.declared.Quarters.{Quarters}
use Rattle.rel_model.specs.Cells.{Cells, no_cells, cells_rect, cells_union, cells_compose, some_below}
use Rattle.rel_model.specs.Trees.{bottom_height, quartered, side}
use Rattle.rel_model.specs.Equations.{side_of}
use Rattle.rel_model.specs.Quads.{Keeper, IsKeeper, quad_cells, QuadStands, IsQuad, KeepsQuads, ReadsQuads, AreQuarters}
use Rattle.rel_model.proofs.TreeLaws.{same_cells}
use Rattle.rel_model.proofs.Composing.{cells_compose-quartered}
use Rattle.rel_model.proofs.QuadLaws.{keeps_on, keeps_itself, quad_stays, quad_cells-stay, is_quad-stays, reads_on, side_of-next, empty_quad, quarters-stay, quarters-before, result_later, corner_value}
use Rattle.rel_compose.specs.Products.{BothStand, row_by_column, IsProduct, AreProducts, quarter_room}

-- ---- without recursion
none_left : (m : ℕ) (g : Cells) (i j : ℕ) → cells_compose m no_cells g i j ≡ false
none_left zero g i j = refl
none_left (suc m) g i j = none_left m g i j

and_false : (x : Bool) → (x && false) ≡ false
and_false true = refl
and_false false = refl

none_right : (m : ℕ) (f : Cells) (i j : ℕ) → cells_compose m f no_cells i j ≡ false
none_right zero f i j = refl
none_right (suc m) f i j = ap (λ b. b || cells_compose m f no_cells i j) (and_false (f i m)) ∙ none_right m f i j

-- a quad named 0 composed with another
pub composed_none-left : (w : Keeper) (a b : Quad) → IsKeeper w → QuadStands w a → a.name ≡ 0 → IsQuad w a.height (cells_compose (side_of a.height) (quad_cells w a) (quad_cells w b)) a
composed_none-left w a b i s e =
    let z : quad_cells w a ≡ no_cells = (empty_quad w a.height a.name i s.low s.high e).means in
    record { same_height = refl; stands = s; means = z ∙ sym (ap (λ (c : Cells). cells_compose (side_of a.height) c (quad_cells w b)) z ∙ same_cells _ no_cells (none_left (side_of a.height) (quad_cells w b))) }

pub composed_none-right : (w : Keeper) (a b : Quad) → IsKeeper w → QuadStands w b → b.height ≡ a.height → b.name ≡ 0 → IsQuad w a.height (cells_compose (side_of a.height) (quad_cells w a) (quad_cells w b)) b
composed_none-right w a b i s h e =
    let z : quad_cells w b ≡ no_cells = (empty_quad w b.height b.name i s.low s.high e).means in
    record { same_height = h; stands = s; means = z ∙ sym (ap (λ (c : Cells). cells_compose (side_of a.height) (quad_cells w a) c) z ∙ same_cells _ no_cells (none_right (side_of a.height) (quad_cells w a))) }

-- a full square times a full square
or_false : (x : Bool) → (x || false) ≡ x
or_false true = refl
or_false false = refl

or_same : (x : Bool) → (x || x) ≡ x
or_same true = refl
or_same false = refl

and_true : (x : Bool) → (x && true) ≡ x
and_true true = refl
and_true false = refl

some_alike : (n : ℕ) (t : ℕ → Bool) (b : Bool) → 0 < n → ((k : ℕ) → k < n → t k ≡ b) → some_below n t ≡ b
some_alike zero t b l h = absurd (omega (arith, l))
some_alike (suc zero) t b l h = ap (λ x. x || false) (h 0 (omega arith)) ∙ or_false b
some_alike (suc (suc n)) t b l h =
    ap (λ x. x || some_below (suc n) t) (h (suc n) (omega arith)) ∙ ap (λ x. b || x) (some_alike (suc n) t b (omega arith) (λ k d. h k (omega arith))) ∙ or_same b

square_times_itself : (m : ℕ) → 0 < m → cells_compose m (cells_rect m m) (cells_rect m m) ≡ cells_rect m m
square_times_itself m l = same_cells _ _ (λ i j. some_alike m _ (ltb i m && ltb j m) l (λ k h. let e : ltb k m ≡ true = lt-ltb k m h in rw e (ap (λ x. x && ltb j m) (and_true (ltb i m)))))

some_side : (d : ℕ) → 0 < side d
some_side zero = omega arith
some_side (suc d) = let i = some_side d in omega (arith, i)

-- two full squares compose to a full square, so the first of them is the result: any element leads from any row to any
-- column
pub composed_full : (s0 s1 s2 : Keeper) (a b : Quad) → ReadsQuads s0 s1 → ReadsQuads s1 s2 → QuadStands s0 a → b.height ≡ a.height → QuadStands s0 b
    → quad_cells s0 a ≡ cells_rect (side_of a.height) (side_of a.height) → quad_cells s1 b ≡ cells_rect (side_of b.height) (side_of b.height)
    → IsQuad s2 a.height (cells_compose (side_of a.height) (quad_cells s0 a) (quad_cells s0 b)) a
composed_full s0 s1 s2 a b r0 r1 sa e sb fa fb =
    let m : ℕ = side_of a.height in
    let k = keeps_on 0 0 s0 s1 s2 r0.keeps r1.keeps in
    let eb : quad_cells s0 b ≡ cells_rect m m = sym (quad_cells-stay 0 s0 s1 b r0.keeps sb) ∙ fb ∙ ap (λ (x : ℕ). cells_rect (side_of x) (side_of x)) e in
    record {
      same_height = refl;
      stands = quad_stays 0 s0 s2 a k sa;
      means = quad_cells-stay 0 s0 s2 a k sa ∙ fa
          ∙ sym (ap (λ (c : Cells). cells_compose m c (quad_cells s0 b)) fa ∙ ap (λ (c : Cells). cells_compose m (cells_rect m m) c) eb ∙ square_times_itself m (some_side (a.height - bottom_height)));
    }

-- ---- rows and columns
pub both_stay : (m : ℕ) (v w : Keeper) (h : ℕ) (p : Quad × Quad) → KeepsQuads m v w → BothStand v h p → BothStand w h p
both_stay m v w h p k b = record { first = quad_stays m v w p.0 k b.first; second = quad_stays m v w p.1 k b.second; first_height = b.first_height; second_height = b.second_height }

-- two compositions and their union
pub product_value : {E : Type 0} (m0 m1 : ℕ) (s0 s1 s2 s3 : Keeper) (row column : Quad × Quad) (first second : Quad) (r : Result Quad E)
    → BothStand s0 row.0.height row → BothStand s0 row.0.height column → KeepsQuads m0 s0 s1 → KeepsQuads m1 s1 s2
    → IsQuad s1 row.0.height (cells_compose (side_of row.0.height) (quad_cells s0 row.0) (quad_cells s0 column.0)) first
    → IsQuad s2 row.1.height (cells_compose (side_of row.1.height) (quad_cells s1 row.1) (quad_cells s1 column.1)) second
    → IfOk r (IsQuad s3 first.height (cells_union (quad_cells s2 first) (quad_cells s2 second)))
    → IfOk r (IsProduct s0 s3 row column)
product_value m0 m1 s0 s1 s2 s3 row column first second (Err e) sr sc k0 k1 f0 f1 v = tt
product_value m0 m1 s0 s1 s2 s3 row column first second (Ok q) sr sc k0 k1 f0 f1 v =
    let h : ℕ = row.0.height in
    let x0 = is_quad-stays m1 s1 s2 h (cells_compose (side_of h) (quad_cells s0 row.0) (quad_cells s0 column.0)) first k1 f0 in
    let x1 = result_later m0 0 s0 s1 s2 s2 (cells_compose (side_of row.1.height)) row.1.height row.1 column.1 second k0 (keeps_itself s2 0 k1.after) sr.second sc.second f1 in
    record {
      same_height = v.same_height ∙ x0.same_height;
      stands = v.stands;
      means = v.means ∙ ap (λ (c : Cells). cells_union c (quad_cells s2 second)) x0.means
          ∙ ap (λ (c : Cells). cells_union (cells_compose (side_of h) (quad_cells s0 row.0) (quad_cells s0 column.0)) c) (x1.means ∙ ap (λ (x : ℕ). cells_compose (side_of x) (quad_cells s0 row.1) (quad_cells s0 column.1)) sr.second_height);
    }

-- a product seen from a state before the call
pub product_before : (m : ℕ) (u v w : Keeper) (row column : Quad × Quad) (q : Quad) → KeepsQuads m u v → BothStand u row.0.height row → BothStand u row.0.height column → IsProduct v w row column q → IsProduct u w row column q
product_before m u v w row column q k sr sc i =
    let n : ℕ = side_of row.0.height in
    record {
      same_height = i.same_height;
      stands = i.stands;
      means = i.means
          ∙ ap (λ (c : Cells). row_by_column n c (quad_cells v row.1) (quad_cells v column.0) (quad_cells v column.1)) (quad_cells-stay m u v row.0 k sr.first)
          ∙ ap (λ (c : Cells). row_by_column n (quad_cells u row.0) c (quad_cells v column.0) (quad_cells v column.1)) (quad_cells-stay m u v row.1 k sr.second)
          ∙ ap (λ (c : Cells). row_by_column n (quad_cells u row.0) (quad_cells u row.1) c (quad_cells v column.1)) (quad_cells-stay m u v column.0 k sc.first)
          ∙ ap (λ (c : Cells). row_by_column n (quad_cells u row.0) (quad_cells u row.1) (quad_cells u column.0) c) (quad_cells-stay m u v column.1 k sc.second);
    }

-- a product in a state after the call
product_after : (m : ℕ) (u w z : Keeper) (row column : Quad × Quad) (q : Quad) → KeepsQuads m w z → IsProduct u w row column q → IsProduct u z row column q
product_after m u w z row column q k i = is_quad-stays m w z row.0.height (row_by_column (side_of row.0.height) (quad_cells u row.0) (quad_cells u row.1) (quad_cells u column.0) (quad_cells u column.1)) q k i

-- two products, one after the other
pub products_value : (m0 m1 : ℕ) (s0 s1 s2 : Keeper) (row west east : Quad × Quad) (p q : Quad) → BothStand s0 row.0.height row → BothStand s0 row.0.height east → KeepsQuads m0 s0 s1 → KeepsQuads m1 s1 s2
    → IsProduct s0 s1 row west p → IsProduct s1 s2 row east q → AreProducts s0 s2 row west east (p, q)
products_value m0 m1 s0 s1 s2 row west east p q sr se k0 k1 a b = record { first = product_after m1 s0 s1 s2 row west p k1 a; second = product_before m0 s0 s1 s2 row east q k0 sr se b }

-- ---- the square
-- the quarters of two quads, which were read one after the other
pub record BothQuarters (v w : Keeper) (a b : Quad) (fa fb : Quarters) : Type 0 where
  pub first : AreQuarters v w a fa
  pub second : AreQuarters v w b fb
  pub reads : ReadsQuads v w

pub read_both : {u v w : Keeper} {a b : Quad} {fa fb : Quarters} → ReadsQuads u v → ReadsQuads v w → QuadStands u b → AreQuarters u v a fa → AreQuarters v w b fb → BothQuarters u w a b fa fb
read_both {u} {v} {w} {a} {b} {fa} {fb} r s i p q = record { first = quarters-stay 0 u v w a fa s.keeps p; second = quarters-before 0 u v w b fb r.keeps i q; reads = reads_on u v w r s }

-- the rows and columns of two squares by their quarters
pub record Squares (w : Keeper) (height : ℕ) (fa fb : Quarters) : Type 0 where
  pub north : BothStand w height (fa.nw, fa.ne)
  pub south : BothStand w height (fa.sw, fa.se)
  pub west : BothStand w height (fb.nw, fb.sw)
  pub east : BothStand w height (fb.ne, fb.se)

-- the quarters of two squares of one height stand at one height, and so do the rows of the one and the columns of the
-- other
pub squares : (t w : Keeper) (a b : Quad) (fa fb : Quarters) → b.height ≡ a.height → AreQuarters t w a fa → AreQuarters t w b fb → Squares w fa.nw.height fa fb
squares t w a b fa fb e p q =
    let a0 = p.nw_height in
    let a1 = p.ne_height in
    let a2 = p.sw_height in
    let a3 = p.se_height in
    let b0 = q.nw_height in
    let b1 = q.ne_height in
    let b2 = q.sw_height in
    let b3 = q.se_height in
    record {
      north = record { first = p.nw; second = p.ne; first_height = refl; second_height = omega arith };
      south = record { first = p.sw; second = p.se; first_height = omega arith; second_height = omega arith };
      west = record { first = q.nw; second = q.sw; first_height = omega arith; second_height = omega arith };
      east = record { first = q.ne; second = q.se; first_height = omega arith; second_height = omega arith };
    }

pub squares-stay : (m : ℕ) (v w : Keeper) (h : ℕ) (fa fb : Quarters) → KeepsQuads m v w → Squares v h fa fb → Squares w h fa fb
squares-stay m v w h fa fb k s = record {
  north = both_stay m v w h (fa.nw, fa.ne) k s.north;
  south = both_stay m v w h (fa.sw, fa.se) k s.south;
  west = both_stay m v w h (fb.nw, fb.sw) k s.west;
  east = both_stay m v w h (fb.ne, fb.se) k s.east;
}

-- a pair that stands at a height stands at that of another quad
pub both_at : (w : Keeper) (h k : ℕ) (p : Quad × Quad) → k ≡ h → BothStand w h p → BothStand w k p
both_at w h k p e b = subst (λ (x : ℕ). BothStand w x p) (sym e) b

-- the corner of the four products is the composition of the squares, as matrices are multiplied by blocks; since quads
-- stay, each product is the same before and after the calls of the others
pub composed_value : {E : Type 0} (m0 m1 : ℕ) (s0 s1 s2 s3 s4 s5 : Keeper) (a b : Quad) (fa fb : Quarters) (nw ne sw se : Quad) (r : Result Quad E)
    → bottom_height < a.height → QuadStands s0 a → QuadStands s0 b → b.height ≡ a.height → KeepsQuads 0 s0 s1 → AreQuarters s1 s2 a fa → AreQuarters s1 s2 b fb → KeepsQuads m0 s2 s3 → KeepsQuads m1 s3 s4
    → AreProducts s2 s3 (fa.nw, fa.ne) (fb.nw, fb.sw) (fb.ne, fb.se) (nw, ne) → AreProducts s3 s4 (fa.sw, fa.se) (fb.nw, fb.sw) (fb.ne, fb.se) (sw, se)
    → IfOk r (IsQuad s5 (nw.height + 1) (quartered (side_of nw.height) (quad_cells s4 nw) (quad_cells s4 ne) (quad_cells s4 sw) (quad_cells s4 se)))
    → IfOk r (IsQuad s5 a.height (cells_compose (side_of a.height) (quad_cells s0 a) (quad_cells s0 b)))
composed_value m0 m1 s0 s1 s2 s3 s4 s5 a b fa fb nw ne sw se (Err e) l sa sb eh k01 qa qb k0 k1 north south v = tt
composed_value {E} m0 m1 s0 s1 s2 s3 s4 s5 a b fa fb nw ne sw se (Ok q) l sa sb eh k01 qa qb k0 k1 north south v =
    let pa = quarters-before 0 s0 s1 s2 a fa k01 sa qa in
    let pb = quarters-before 0 s0 s1 s2 b fb k01 sb qb in
    let sq = squares s1 s2 a b fa fb eh qa qb in
    let h : ℕ = fa.nw.height in
    let f : Quad → Cells = quad_cells s2 in
    let R : Cells → Cells → Cells → Cells → Cells = row_by_column (side_of h) in
    let es : fa.sw.height ≡ h = sq.south.first_height in
    let eb : fb.nw.height ≡ h = sq.west.first_height in
    let up : side_of h + side_of h ≡ side_of a.height = (let x = pa.nw_height in let g : h ≡ a.height - 1 = omega arith in ap (λ (x : ℕ). side_of x + side_of x) g ∙ sym (side_of-next a.height l)) in
    let n0 = product_after m1 s2 s3 s4 (fa.nw, fa.ne) (fb.nw, fb.sw) nw k1 north.first in
    let n1 = product_after m1 s2 s3 s4 (fa.nw, fa.ne) (fb.ne, fb.se) ne k1 north.second in
    let rs = both_at s2 h fa.sw.height (fa.sw, fa.se) es sq.south in
    let n2 = product_before m0 s2 s3 s4 (fa.sw, fa.se) (fb.nw, fb.sw) sw k0 rs (both_at s2 h fa.sw.height (fb.nw, fb.sw) es sq.west) south.first in
    let n3 = product_before m0 s2 s3 s4 (fa.sw, fa.se) (fb.ne, fb.se) se k0 rs (both_at s2 h fa.sw.height (fb.ne, fb.se) es sq.east) south.second in
    let x2 = subst (λ (x : ℕ). IsQuad s4 x (row_by_column (side_of x) (f fa.sw) (f fa.se) (f fb.nw) (f fb.sw)) sw) es n2 in
    let x3 = subst (λ (x : ℕ). IsQuad s4 x (row_by_column (side_of x) (f fa.sw) (f fa.se) (f fb.ne) (f fb.se)) se) es n3 in
    let y = corner_value {E = E} s4 s5 h (R (f fa.nw) (f fa.ne) (f fb.nw) (f fb.sw)) (R (f fa.nw) (f fa.ne) (f fb.ne) (f fb.se)) (R (f fa.sw) (f fa.se) (f fb.nw) (f fb.sw)) (R (f fa.sw) (f fa.se) (f fb.ne) (f fb.se)) nw ne sw se (Ok q) n0 n1 x2 x3 v in
    let mb : quad_cells s0 b ≡ quartered (side_of h) (f fb.nw) (f fb.ne) (f fb.sw) (f fb.se) = pb.means ∙ ap (λ (x : ℕ). quartered (side_of x) (f fb.nw) (f fb.ne) (f fb.sw) (f fb.se)) eb in
    record {
      same_height = y.same_height ∙ pa.nw_height;
      stands = y.stands;
      means = y.means
          ∙ sym (cells_compose-quartered (side_of h) (f fa.nw) (f fa.ne) (f fa.sw) (f fa.se) (f fb.nw) (f fb.ne) (f fb.sw) (f fb.se))
          ∙ ap (λ (x : ℕ). cells_compose x (quartered (side_of h) (f fa.nw) (f fa.ne) (f fa.sw) (f fa.se)) (quartered (side_of h) (f fb.nw) (f fb.ne) (f fb.sw) (f fb.se))) up
          ∙ ap (λ (c : Cells). cells_compose (side_of a.height) c (quartered (side_of h) (f fb.nw) (f fb.ne) (f fb.sw) (f fb.se))) (sym pa.means)
          ∙ ap (λ (c : Cells). cells_compose (side_of a.height) (quad_cells s0 a) c) (sym mb);
    }

-- the result as an equation says it
pub composed_now : (m : ℕ) (v w : Keeper) (a b r : Quad) → KeepsQuads m v w → QuadStands v a → QuadStands v b → IsQuad w a.height (cells_compose (side_of a.height) (quad_cells v a) (quad_cells v b)) r
    → IsQuad w a.height (cells_compose (side_of a.height) (quad_cells w a) (quad_cells w b)) r
composed_now m v w a b r k s t i = record {
  same_height = i.same_height;
  stands = i.stands;
  means = i.means ∙ ap (λ (c : Cells). cells_compose (side_of a.height) c (quad_cells v b)) (sym (quad_cells-stay m v w a k s)) ∙ ap (λ (c : Cells). cells_compose (side_of a.height) (quad_cells w a) c) (sym (quad_cells-stay m v w b k t));
}

-- seen from before a call that reads
pub composed_after : {E : Type 0} (v w z : Keeper) (a b : Quad) (r : Result Quad E) → ReadsQuads v w → QuadStands v a → QuadStands v b → IfOk r (IsQuad z a.height (cells_compose (side_of a.height) (quad_cells w a) (quad_cells w b)))
    → IfOk r (IsQuad z a.height (cells_compose (side_of a.height) (quad_cells v a) (quad_cells v b)))
composed_after v w z a b r k s t i =
    subst (λ (c : Cells). IfOk r (IsQuad z a.height c)) (ap (λ (c : Cells). cells_compose (side_of a.height) c (quad_cells w b)) (quad_cells-stay 0 v w a k.keeps s) ∙ ap (λ (c : Cells). cells_compose (side_of a.height) (quad_cells v a) c) (quad_cells-stay 0 v w b k.keeps t)) i

-- the room of a row of products of the height below
pub row_below : (h k : ℕ) (v w : Keeper) → k + 1 ≡ h → KeepsQuads (quarter_room k + quarter_room k) v w → KeepsQuads (quarter_room (h - 1) + quarter_room (h - 1)) v w
row_below h k v w e x = subst (λ (n : ℕ). KeepsQuads (quarter_room n + quarter_room n) v w) (let g : k ≡ h - 1 = omega arith in g) x
