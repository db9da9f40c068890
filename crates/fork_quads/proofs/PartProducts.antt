-- Pieces of a product: what each is, and how it is put together.
use Rattle.std.proofs.Common.{◌≡◌, ◌≢◌, ◌<◌, ◌≤◌, ◌+◌, ◌-◌, zero, suc, ℕ, Result, IfOk, refl, sym, ap, subst, ◌∙◌, arith}
use Rattle.rel_model.specs.declared.Quad.{Quad}
use Rattle.rel_model.specs.declared.Quarters.{Quarters}
use Rattle.rel_model.specs.Cells.{Cells, no_cells, cells_union, cells_compose}
use Rattle.rel_model.specs.Trees.{bottom_height, quartered}
use Rattle.rel_model.specs.Equations.{Operator, Union, result_of, side_of}
use Rattle.rel_model.specs.Quads.{Keeper, IsKeeper, quad_cells, QuadStands, IsQuad, KeepsQuads, ReadsQuads, Counts, AreQuarters, quad_room}
use Rattle.rel_model.proofs.TreeLaws.{Within}
use Rattle.rel_model.proofs.Composing.{cells_compose-quartered}
use Rattle.rel_model.proofs.QuadLaws.{side_of-next, is_quad-stays, quad_cells-stay, empty_quad}
use Rattle.row_quads.proofs.ByRows.{product_within}
use Rattle.quad_nodes.specs.Finding.{FindsQuad}
use Rattle.quad_nodes.specs.Making.{MakesQuad}
use Rattle.quad_nodes.proofs.Making.{made_after, made_at}
use Rattle.rel_compose.specs.Products.{BothStand, row_by_column}
use Rattle.rel_compose.proofs.Multiplying.{composed_none-left, composed_none-right}
use Rattle.fork_quads.specs.Forks.{nth, quarter, place_at_cut, part, product_of}
use Rattle.fork_quads.proofs.Parts.{FourAt, SquareStep, StandsAt, four-within, four_at, nth-all, nth-cells, part-next, part-no_cells, part-same, part-union, quarter-quartered, quarters_at, result-within}

-- ---- products
quarter-products : (m k : ℕ) (a0 a1 a2 a3 b0 b1 b2 b3 : Cells) → nth k (row_by_column m a0 a1 b0 b2) (row_by_column m a0 a1 b1 b3) (row_by_column m a2 a3 b0 b2) (row_by_column m a2 a3 b1 b3)
    ≡ row_by_column m (nth k a0 a0 a2 a2) (nth k a1 a1 a3 a3) (nth k b0 b1 b0 b1) (nth k b2 b3 b2 b3)
quarter-products m zero a0 a1 a2 a3 b0 b1 b2 b3 = refl
quarter-products m (suc zero) a0 a1 a2 a3 b0 b1 b2 b3 = refl
quarter-products m (suc (suc zero)) a0 a1 a2 a3 b0 b1 b2 b3 = refl
quarter-products m (suc (suc (suc k))) a0 a1 a2 a3 b0 b1 b2 b3 = refl

row-within : (m : ℕ) (a b e g : Cells) → Within m m a → Within m m b → Within m m e → Within m m g → Within m m (row_by_column m a b e g)
row-within m a b e g wa wb we wg = result-within Union m _ _ (product_within m a e wa we) (product_within m b g wb wg)

-- a quarter of a composition is the product of a row and a column
pub quarter-product : (v w : Keeper) (a b : Quad) (fa fb : Quarters) (k : ℕ) → bottom_height < a.height → b.height ≡ a.height → AreQuarters v w a fa → AreQuarters v w b fb
    → quarter (side_of (a.height - 1)) k (cells_compose (side_of a.height) (quad_cells v a) (quad_cells v b))
    ≡ row_by_column (side_of (a.height - 1)) (quad_cells w (nth k fa.nw fa.nw fa.sw fa.sw)) (quad_cells w (nth k fa.ne fa.ne fa.se fa.se)) (quad_cells w (nth k fb.nw fb.ne fb.nw fb.ne)) (quad_cells w (nth k fb.sw fb.se fb.sw fb.se))
quarter-product v w a b fa fb k over e pa pb =
    let m : ℕ = side_of (a.height - 1) in
    let f : Quad → Cells = quad_cells w in
    let ha : FourAt w (a.height - 1) fa = four_at v w a fa pa in
    let hb : FourAt w (a.height - 1) fb = subst (λ (h : ℕ). FourAt w (h - 1) fb) e (four_at v w b fb pb) in
    let ea : quad_cells v a ≡ quartered m (f fa.nw) (f fa.ne) (f fa.sw) (f fa.se) = quarters_at v w a fa pa in
    let eb : quad_cells v b ≡ quartered m (f fb.nw) (f fb.ne) (f fb.sw) (f fb.se) =
    quarters_at v w b fb pb ∙ ap (λ (h : ℕ). quartered (side_of (h - 1)) (f fb.nw) (f fb.ne) (f fb.sw) (f fb.se)) e in
    let wa = four-within w (a.height - 1) fa ha in
    let wb = four-within w (a.height - 1) fb hb in
    ap (λ (n : ℕ). quarter m k (cells_compose n (quad_cells v a) (quad_cells v b))) (side_of-next a.height over)
    ∙ ap (λ (c : Cells). quarter m k (cells_compose (m + m) c (quad_cells v b))) ea
    ∙ ap (λ (c : Cells). quarter m k (cells_compose (m + m) (quartered m (f fa.nw) (f fa.ne) (f fa.sw) (f fa.se)) c)) eb
    ∙ ap (quarter m k) (cells_compose-quartered m (f fa.nw) (f fa.ne) (f fa.sw) (f fa.se) (f fb.nw) (f fb.ne) (f fb.sw) (f fb.se))
    ∙ quarter-quartered m k _ _ _ _ (record {
      nw = row-within m (f fa.nw) (f fa.ne) (f fb.nw) (f fb.sw) wa.nw wa.ne wb.nw wb.sw;
      ne = row-within m (f fa.nw) (f fa.ne) (f fb.ne) (f fb.se) wa.nw wa.ne wb.ne wb.se;
      sw = row-within m (f fa.sw) (f fa.se) (f fb.nw) (f fb.sw) wa.sw wa.se wb.nw wb.sw;
      se = row-within m (f fa.sw) (f fa.se) (f fb.ne) (f fb.se) wa.sw wa.se wb.ne wb.se;
    })
    ∙ quarter-products m k (f fa.nw) (f fa.ne) (f fa.sw) (f fa.se) (f fb.nw) (f fb.ne) (f fb.sw) (f fb.se)
    ∙ ap (λ (c : Cells). row_by_column m c (nth k (f fa.ne) (f fa.ne) (f fa.se) (f fa.se)) (nth k (f fb.nw) (f fb.ne) (f fb.nw) (f fb.ne)) (nth k (f fb.sw) (f fb.se) (f fb.sw) (f fb.se))) (sym (nth-cells w k fa.nw fa.nw fa.sw fa.sw))
    ∙ ap (λ (c : Cells). row_by_column m (f (nth k fa.nw fa.nw fa.sw fa.sw)) c (nth k (f fb.nw) (f fb.ne) (f fb.nw) (f fb.ne)) (nth k (f fb.sw) (f fb.se) (f fb.sw) (f fb.se))) (sym (nth-cells w k fa.ne fa.ne fa.se fa.se))
    ∙ ap (λ (c : Cells). row_by_column m (f (nth k fa.nw fa.nw fa.sw fa.sw)) (f (nth k fa.ne fa.ne fa.se fa.se)) c (nth k (f fb.sw) (f fb.se) (f fb.sw) (f fb.se))) (sym (nth-cells w k fb.nw fb.ne fb.nw fb.ne))
    ∙ ap (λ (c : Cells). row_by_column m (f (nth k fa.nw fa.nw fa.sw fa.sw)) (f (nth k fa.ne fa.ne fa.se fa.se)) (f (nth k fb.nw fb.ne fb.nw fb.ne)) c) (sym (nth-cells w k fb.sw fb.se fb.sw fb.se))

-- one step down to a square of a composition
pub record ProductStep (v w : Keeper) (a b : Quad) (row column : Quad × Quad) (c n : ℕ) : Type 0 where
  pub row_stands : BothStand w row.0.height row
  pub column_stands : BothStand w row.0.height column
  pub row_height : row.0.height + 1 ≡ a.height
  pub deep : bottom_height + (c - 1) ≤ row.0.height
  pub height : row.0.height - (c - 1) ≡ a.height - c
  pub same : cells_union (product_of w row.0 column.0 (c - 1) n) (product_of w row.1 column.1 (c - 1) n) ≡ product_of v a b c n

-- one cut down, a square of a composition is the sum of two products, of a row of the first operand's quarters with a
-- column of the second's: that is the quarter of a composition, and cutting goes on within it
pub product_step : (v w : Keeper) (a b : Quad) (row column : Quad × Quad) (fa fb : Quarters) (c n k : ℕ) → b.height ≡ a.height → c ≢ 0 → bottom_height + c ≤ a.height → AreQuarters v w a fa → AreQuarters v w b fb
    → k ≡ place_at_cut (c - 1) n → row.0 ≡ nth k fa.nw fa.nw fa.sw fa.sw → row.1 ≡ nth k fa.ne fa.ne fa.se fa.se → column.0 ≡ nth k fb.nw fb.ne fb.nw fb.ne → column.1 ≡ nth k fb.sw fb.se fb.sw fb.se → ProductStep v w a b row column c n
product_step v w a b row column fa fb c n k e some deep pa pb ek r0 r1 c0 c1 =
    let h : ℕ = a.height - 1 in
    let j : ℕ = place_at_cut (c - 1) n in
    let f : Quad → Cells = quad_cells w in
    let ha : FourAt w h fa = four_at v w a fa pa in
    let hb : FourAt w h fb = subst (λ (x : ℕ). FourAt w (x - 1) fb) e (four_at v w b fb pb) in
    let at : (p q r s : Quad) → StandsAt w h p → StandsAt w h q → StandsAt w h r → StandsAt w h s → StandsAt w h (nth k p q r s) = λ p q r s. nth-all (StandsAt w h) k p q r s in
    let a0 : StandsAt w h fa.nw = record { stands = ha.nw; height = ha.nw_height } in
    let a1 : StandsAt w h fa.ne = record { stands = ha.ne; height = ha.ne_height } in
    let a2 : StandsAt w h fa.sw = record { stands = ha.sw; height = ha.sw_height } in
    let a3 : StandsAt w h fa.se = record { stands = ha.se; height = ha.se_height } in
    let b0 : StandsAt w h fb.nw = record { stands = hb.nw; height = hb.nw_height } in
    let b1 : StandsAt w h fb.ne = record { stands = hb.ne; height = hb.ne_height } in
    let b2 : StandsAt w h fb.sw = record { stands = hb.sw; height = hb.sw_height } in
    let b3 : StandsAt w h fb.se = record { stands = hb.se; height = hb.se_height } in
    let x0 : StandsAt w h row.0 = subst (StandsAt w h) (sym r0) (at _ _ _ _ a0 a0 a2 a2) in
    let x1 : StandsAt w h row.1 = subst (StandsAt w h) (sym r1) (at _ _ _ _ a1 a1 a3 a3) in
    let y0 : StandsAt w h column.0 = subst (StandsAt w h) (sym c0) (at _ _ _ _ b0 b1 b0 b1) in
    let y1 : StandsAt w h column.1 = subst (StandsAt w h) (sym c1) (at _ _ _ _ b2 b3 b2 b3) in
    let g0 = x0.height in
    let g1 = x1.height in
    let g2 = y0.height in
    let g3 = y1.height in
    let pos : 0 < c = omega arith in
    let over : bottom_height < a.height = omega arith in
    record {
      row_stands = record { first = x0.stands; second = x1.stands; first_height = refl; second_height = omega arith };
      column_stands = record { first = y0.stands; second = y1.stands; first_height = omega arith; second_height = omega arith };
      row_height = omega arith;
      deep = omega arith;
      height = omega arith;
      same = ap (λ (x : ℕ). cells_union (part x (c - 1) n (cells_compose (side_of x) (f row.0) (f column.0))) (product_of w row.1 column.1 (c - 1) n)) g0
          ∙ ap (λ (x : ℕ). cells_union (part h (c - 1) n (cells_compose (side_of h) (f row.0) (f column.0))) (part x (c - 1) n (cells_compose (side_of x) (f row.1) (f column.1)))) g1
          ∙ sym (part-union h (c - 1) n _ _)
          ∙ ap (part h (c - 1) n) (by_names h (side_of h) k j ek r0 r1 c0 c1 ∙ sym (quarter-product v w a b fa fb j over e pa pb))
          ∙ sym (part-next a.height c n _ pos);
    }
  where
    by_names : (h m k j : ℕ) → k ≡ j → row.0 ≡ nth k fa.nw fa.nw fa.sw fa.sw → row.1 ≡ nth k fa.ne fa.ne fa.se fa.se → column.0 ≡ nth k fb.nw fb.ne fb.nw fb.ne → column.1 ≡ nth k fb.sw fb.se fb.sw fb.se
        → row_by_column m (quad_cells w row.0) (quad_cells w row.1) (quad_cells w column.0) (quad_cells w column.1)
        ≡ row_by_column m (quad_cells w (nth j fa.nw fa.nw fa.sw fa.sw)) (quad_cells w (nth j fa.ne fa.ne fa.se fa.se)) (quad_cells w (nth j fb.nw fb.ne fb.nw fb.ne)) (quad_cells w (nth j fb.sw fb.se fb.sw fb.se))
    by_names h m k j ek r0 r1 c0 c1 =
        ap (λ (x : Quad). row_by_column m (quad_cells w x) (quad_cells w row.1) (quad_cells w column.0) (quad_cells w column.1)) (r0 ∙ ap (λ (i : ℕ). nth i fa.nw fa.nw fa.sw fa.sw) ek)
        ∙ ap (λ (x : Quad). row_by_column m (quad_cells w (nth j fa.nw fa.nw fa.sw fa.sw)) (quad_cells w x) (quad_cells w column.0) (quad_cells w column.1)) (r1 ∙ ap (λ (i : ℕ). nth i fa.ne fa.ne fa.se fa.se) ek)
        ∙ ap (λ (x : Quad). row_by_column m (quad_cells w (nth j fa.nw fa.nw fa.sw fa.sw)) (quad_cells w (nth j fa.ne fa.ne fa.se fa.se)) (quad_cells w x) (quad_cells w column.1)) (c0 ∙ ap (λ (i : ℕ). nth i fb.nw fb.ne fb.nw fb.ne) ek)
        ∙ ap (λ (x : Quad). row_by_column m (quad_cells w (nth j fa.nw fa.nw fa.sw fa.sw)) (quad_cells w (nth j fa.ne fa.ne fa.se fa.se)) (quad_cells w (nth j fb.nw fb.ne fb.nw fb.ne)) (quad_cells w x)) (c1 ∙ ap (λ (i : ℕ). nth i fb.sw fb.se fb.sw fb.se) ek)

-- a result under an equal height and set
pub value_as : {E : Type 0} (w : Keeper) (h k : ℕ) (f g : Cells) (r : Result Quad E) → h ≡ k → f ≡ g → IfOk r (IsQuad w h f) → IfOk r (IsQuad w k g)
value_as w h k f g r e d v = subst (λ (c : Cells). IfOk r (IsQuad w k c)) d (subst (λ (x : ℕ). IfOk r (IsQuad w x f)) e v)

-- without cuts the height is that of the whole
pub no_cuts : (h c : ℕ) → c ≡ 0 → h ≡ h - c
no_cuts h c e = omega arith

-- a square by one step down
pub square_made : {E : Type 0} {op : Operator} {v w z : Keeper} {a b left right : Quad} {c n : ℕ} {r : Result Quad E} → ReadsQuads v w → SquareStep op v w a b left right c n
    → IfOk r (IsQuad z (left.height - (c - 1)) (part left.height (c - 1) n (result_of op (side_of left.height) (quad_cells w left) (quad_cells w right))))
    → FindsQuad w z (left.height - (c - 1)) (part left.height (c - 1) n (result_of op (side_of left.height) (quad_cells w left) (quad_cells w right))) r
    → KeepsQuads (quad_room (left.height - (c - 1))) w z → Counts w z r
    → MakesQuad (quad_room (a.height - c)) (a.height - c) (part a.height c n (result_of op (side_of a.height) (quad_cells v a) (quad_cells v b))) v z r
square_made {E} {op} {v} {w} {z} {a} {b} {left} {right} {c} {n} {r} k s value stood keeps counts = made_after k (made_at s.height s.same
    (record { value = value; stood = stood; keeps = keeps; counts = counts }))

-- ---- products, step by step
pub product_value : {E : Type 0} (v w z : Keeper) (a b : Quad) (row column : Quad × Quad) (c n : ℕ) (r : Result Quad E) → ProductStep v w a b row column c n
    → IfOk r (IsQuad z (row.0.height - (c - 1)) (cells_union (product_of w row.0 column.0 (c - 1) n) (product_of w row.1 column.1 (c - 1) n)))
    → IfOk r (IsQuad z (a.height - c) (product_of v a b c n))
product_value v w z a b row column c n r s i = value_as z _ _ _ _ r s.height s.same i

-- with an empty operand no part has a cell
none_product : (w : Keeper) (a b : Quad) (c n : ℕ) → cells_compose (side_of a.height) (quad_cells w a) (quad_cells w b) ≡ no_cells → product_of w a b c n ≡ no_cells
none_product w a b c n e = part-same a.height c n _ _ e ∙ part-no_cells a.height c n

none_quad : (w : Keeper) (a b : Quad) (c n : ℕ) → IsKeeper w → QuadStands w a → bottom_height + c ≤ a.height → cells_compose (side_of a.height) (quad_cells w a) (quad_cells w b) ≡ no_cells
    → IsQuad w (a.height - c) (product_of w a b c n) (record { height = a.height - c; name = 0 })
none_quad w a b c n i s deep e =
    let t = s.high in
    subst (λ (f : Cells). IsQuad w (a.height - c) f (record { height = a.height - c; name = 0 })) (sym (none_product w a b c n e))
    (empty_quad w (a.height - c) 0 i (omega arith) (omega arith) refl)

pub none_left : (w : Keeper) (a b : Quad) (c n : ℕ) → IsKeeper w → QuadStands w a → bottom_height + c ≤ a.height → a.name ≡ 0
    → IsQuad w (a.height - c) (product_of w a b c n) (record { height = a.height - c; name = 0 })
none_left w a b c n i s deep z =
    none_quad w a b c n i s deep (sym (composed_none-left w a b i s z).means ∙ (empty_quad w a.height a.name i s.low s.high z).means)

pub none_right : (w : Keeper) (a b : Quad) (c n : ℕ) → IsKeeper w → QuadStands w a → QuadStands w b → b.height ≡ a.height → bottom_height + c ≤ a.height → b.name ≡ 0
    → IsQuad w (a.height - c) (product_of w a b c n) (record { height = a.height - c; name = 0 })
none_right w a b c n i s t e deep z =
    none_quad w a b c n i s deep (sym (composed_none-right w a b i t e z).means ∙ (empty_quad w b.height b.name i t.low t.high z).means)

-- the sum of two products, seen from before both
pub sum_value : {E : Type 0} (m0 m1 : ℕ) (s0 s1 s2 s3 : Keeper) (row column : Quad × Quad) (c n : ℕ) (first second : Quad) (r : Result Quad E) → BothStand s0 row.0.height row → BothStand s0 row.0.height column
    → KeepsQuads m0 s0 s1 → KeepsQuads m1 s1 s2 → IsQuad s1 (row.0.height - c) (product_of s0 row.0 column.0 c n) first → IsQuad s2 (row.1.height - c) (product_of s1 row.1 column.1 c n) second
    → IfOk r (IsQuad s3 first.height (cells_union (quad_cells s2 first) (quad_cells s2 second)))
    → IfOk r (IsQuad s3 (row.0.height - c) (cells_union (product_of s0 row.0 column.0 c n) (product_of s0 row.1 column.1 c n)))
sum_value m0 m1 s0 s1 s2 s3 row column c n first second r sr sc k l f g v =
    let x = is_quad-stays m1 s1 s2 _ _ first l f in
    let y : product_of s1 row.1 column.1 c n ≡ product_of s0 row.1 column.1 c n =
    ap (λ (p : Cells). part row.1.height c n (cells_compose (side_of row.1.height) p (quad_cells s1 column.1))) (quad_cells-stay m0 s0 s1 row.1 k sr.second)
    ∙ ap (λ (p : Cells). part row.1.height c n (cells_compose (side_of row.1.height) (quad_cells s0 row.1) p)) (quad_cells-stay m0 s0 s1 column.1 k sc.second) in
    value_as s3 _ _ _ _ r x.same_height (ap (λ (p : Cells). cells_union p (quad_cells s2 second)) x.means ∙ ap (λ (p : Cells). cells_union (product_of s0 row.0 column.0 c n) p) (g.means ∙ y)) v
