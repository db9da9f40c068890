-- The squares of a result, and how they are made.
-- 1. A square that is cut in four is put together of its quarters, and a quarter of four sets is one of them.
-- 2. A quarter of an operator's result is the operator's result on quarters; of a composition it is the sum of two products.
-- 3. So each square is made by the same steps down from the whole, and the whole is put together of all squares.
use Rattle.std.proofs.Common.{◌≡◌, ◌≢◌, ◌<◌, ◌≤◌, ◌+◌, ◌-◌, ◌/◌, ◌%◌, ◌&&◌, ◌||◌, ◌⊎◌, not, ltb, zero, suc, ℕ, Bool, true, false, refl, sym, ap, subst, ◌∙◌, inl, inr, arith}
use Rattle.std.proofs.lemmas.Bool.{cases_lt, ltb-true, lt-ltb, le-ltb, and_left, and_right, and_parts, or_cases}
use Rattle.rel_model.specs.declared.Quad.{Quad}
use Rattle.rel_model.specs.declared.Quarters.{Quarters}
use Rattle.rel_model.specs.Cells.{Cells, no_cells, cells_union}
use Rattle.rel_model.specs.Trees.{bottom_height, quartered}
use Rattle.rel_model.specs.Equations.{Operator, Union, Inter, Diff, Transpose, Compose, result_of, side_of}
use Rattle.rel_model.specs.Quads.{Keeper, quad_cells, QuadStands, AreQuarters}
use Rattle.rel_model.proofs.TreeLaws.{same_cells, Within, out_of}
use Rattle.rel_model.proofs.Squares.{each_cell-quartered}
use Rattle.rel_model.proofs.Composing.{cells_transpose-quartered}
use Rattle.bit_rows.proofs.Windows.{quartered_nw, quartered_ne, quartered_sw, quartered_se}
use Rattle.row_quads.proofs.ByRows.{product_within}
use Rattle.quad_nodes.proofs.Finding.{AreWithin, within_at}
use Rattle.fork_quads.specs.Forks.{nth, quarter, place_at_cut, part, source}

-- ---- one of four
pub nth-cells : (w : Keeper) (k : ℕ) (p q r s : Quad) → quad_cells w (nth k p q r s) ≡ nth k (quad_cells w p) (quad_cells w q) (quad_cells w r) (quad_cells w s)
nth-cells w zero p q r s = refl
nth-cells w (suc zero) p q r s = refl
nth-cells w (suc (suc zero)) p q r s = refl
nth-cells w (suc (suc (suc k))) p q r s = refl

pub nth-all : {A : Type 0} (P : A → Type 0) (k : ℕ) (a b c d : A) → P a → P b → P c → P d → P (nth k a b c d)
nth-all P zero a b c d p q r s = p
nth-all P (suc zero) a b c d p q r s = q
nth-all P (suc (suc zero)) a b c d p q r s = r
nth-all P (suc (suc (suc k))) a b c d p q r s = s

-- ---- quarters
-- a cell of a square, and none outside of it
cell_in : (m i j : ℕ) (x y : Bool) → (i < m → j < m → x ≡ y) → ((m ≤ i) ⊎ (m ≤ j) → y ≡ false) → (ltb i m && (ltb j m && x)) ≡ y
cell_in m i j x y h o = elim (cases_lt i m) [
  | inr p ↦ and_left (ltb i m) _ (le-ltb i m p) ∙ sym (o (inl p))
  | inl p ↦ elim (cases_lt j m) [
    | inr q ↦ and_right (ltb i m) _ (and_left (ltb j m) _ (le-ltb j m q)) ∙ sym (o (inr q))
    | inl q ↦ (let a = lt-ltb i m p in let b = lt-ltb j m q in rw (a, b) (h p q))
  ]
]

-- a quarter of four sets
pub quarter-quartered : (m k : ℕ) (f0 f1 f2 f3 : Cells) → AreWithin m f0 f1 f2 f3 → quarter m k (quartered m f0 f1 f2 f3) ≡ nth k f0 f1 f2 f3
quarter-quartered m zero f0 f1 f2 f3 a = same_cells _ _ (λ i j. cell_in m i j _ (f0 i j) (λ p q. quartered_nw m f0 f1 f2 f3 i j p q) (λ o. out_of m m f0 a.nw i j o))
quarter-quartered m (suc zero) f0 f1 f2 f3 a = same_cells _ _ (λ i j. cell_in m i j _ (f1 i j)
    (λ p q. let e : m + j - m ≡ j = omega arith in quartered_ne m f0 f1 f2 f3 i (m + j) p (omega arith) ∙ ap (λ (n : ℕ). f1 i n) e) (λ o. out_of m m f1 a.ne i j o))
quarter-quartered m (suc (suc zero)) f0 f1 f2 f3 a = same_cells _ _ (λ i j. cell_in m i j _ (f2 i j)
    (λ p q. let e : m + i - m ≡ i = omega arith in quartered_sw m f0 f1 f2 f3 (m + i) j (omega arith) q ∙ ap (λ (n : ℕ). f2 n j) e) (λ o. out_of m m f2 a.sw i j o))
quarter-quartered m (suc (suc (suc k))) f0 f1 f2 f3 a = same_cells _ _ (λ i j. cell_in m i j _ (f3 i j)
    (λ p q. let e : m + i - m ≡ i = omega arith in let g : m + j - m ≡ j = omega arith in
    quartered_se m f0 f1 f2 f3 (m + i) (m + j) (omega arith) (omega arith) ∙ ap (λ (n : ℕ). f3 n (m + j - m)) e ∙ ap (λ (n : ℕ). f3 i n) g)
    (λ o. out_of m m f3 a.se i j o))

in_square : (m : ℕ) (f : Cells) → Within m m (λ i j. ltb i m && (ltb j m && f i j))
in_square m f = record {
  row = λ i j h. ltb-true i m (and_parts _ _ h).0;
  col = λ i j h. ltb-true j m (and_parts _ _ (and_parts _ _ h).1).0;
}

pub quarter-within : (m k : ℕ) (f : Cells) → Within m m (quarter m k f)
quarter-within m zero f = in_square m (λ i j. f i j)
quarter-within m (suc zero) f = in_square m (λ i j. f i (m + j))
quarter-within m (suc (suc zero)) f = in_square m (λ i j. f (m + i) j)
quarter-within m (suc (suc (suc k))) f = in_square m (λ i j. f (m + i) (m + j))

pub quarters-within : (m : ℕ) (f : Cells) → AreWithin m (quarter m 0 f) (quarter m 1 f) (quarter m 2 f) (quarter m 3 f)
quarters-within m f = record { nw = quarter-within m 0 f; ne = quarter-within m 1 f; sw = quarter-within m 2 f; se = quarter-within m 3 f }

-- a set is put together of its quarters
pub quartered-quarters : (m : ℕ) (f : Cells) → Within (m + m) (m + m) f → quartered m (quarter m 0 f) (quarter m 1 f) (quarter m 2 f) (quarter m 3 f) ≡ f
quartered-quarters m f w = same_cells _ _ (λ i j. elim (cases_lt i m) [
  | inl p ↦ elim (cases_lt j m) [
    | inl q ↦ quartered_nw m f0 f1 f2 f3 i j p q ∙ cell_in m i j _ (f i j) (λ x y. refl) (λ o. absurd (elim o [ inl x ↦ (omega (arith, x, p)) | inr x ↦ (omega (arith, x, q)) ]))
    | inr q ↦ quartered_ne m f0 f1 f2 f3 i j p q
        ∙ cell_in m i (j - m) _ (f i j) (λ x y. let e : m + (j - m) ≡ j = omega arith in ap (λ (n : ℕ). f i n) e)
        (λ o. elim o [ inl x ↦ absurd (omega (arith, x, p)) | inr x ↦ out_of (m + m) (m + m) f w i j (inr (omega arith)) ])
  ]
  | inr p ↦ elim (cases_lt j m) [
    | inl q ↦ quartered_sw m f0 f1 f2 f3 i j p q
        ∙ cell_in m (i - m) j _ (f i j) (λ x y. let e : m + (i - m) ≡ i = omega arith in ap (λ (n : ℕ). f n j) e)
        (λ o. elim o [ inl x ↦ out_of (m + m) (m + m) f w i j (inl (omega arith)) | inr x ↦ absurd (omega (arith, x, q)) ])
    | inr q ↦ quartered_se m f0 f1 f2 f3 i j p q
        ∙ cell_in m (i - m) (j - m) _ (f i j)
        (λ x y. let e : m + (i - m) ≡ i = omega arith in let g : m + (j - m) ≡ j = omega arith in ap (λ (n : ℕ). f n (m + (j - m))) e ∙ ap (λ (n : ℕ). f i n) g)
        (λ o. elim o [ inl x ↦ out_of (m + m) (m + m) f w i j (inl (omega arith)) | inr x ↦ out_of (m + m) (m + m) f w i j (inr (omega arith)) ])
  ]
])
  where
    f0 : Cells
    f0 = quarter m 0 f

    f1 : Cells
    f1 = quarter m 1 f

    f2 : Cells
    f2 = quarter m 2 f

    f3 : Cells
    f3 = quarter m 3 f

-- ---- quarters of results
-- the result on quarters of the operands
abbrev pub made : Operator → ℕ → ℕ → Cells → Cells → Cells → Cells → Cells → Cells → Cells → Cells → Cells
made op n k a0 a1 a2 a3 b0 b1 b2 b3 = result_of op n (nth (source op k) a0 a1 a2 a3) (nth k b0 b1 b2 b3)

result-quartered : (op : Operator) → op ≢ Compose → (n m : ℕ) (a0 a1 a2 a3 b0 b1 b2 b3 : Cells) → result_of op n (quartered m a0 a1 a2 a3) (quartered m b0 b1 b2 b3)
    ≡ quartered m (made op m 0 a0 a1 a2 a3 b0 b1 b2 b3) (made op m 1 a0 a1 a2 a3 b0 b1 b2 b3) (made op m 2 a0 a1 a2 a3 b0 b1 b2 b3) (made op m 3 a0 a1 a2 a3 b0 b1 b2 b3)
result-quartered Union h n m a0 a1 a2 a3 b0 b1 b2 b3 = each_cell-quartered (λ x y. x || y) m a0 a1 a2 a3 b0 b1 b2 b3
result-quartered Inter h n m a0 a1 a2 a3 b0 b1 b2 b3 = each_cell-quartered (λ x y. x && y) m a0 a1 a2 a3 b0 b1 b2 b3
result-quartered Diff h n m a0 a1 a2 a3 b0 b1 b2 b3 = each_cell-quartered (λ x y. x && not y) m a0 a1 a2 a3 b0 b1 b2 b3
result-quartered Transpose h n m a0 a1 a2 a3 b0 b1 b2 b3 = cells_transpose-quartered m a0 a1 a2 a3
result-quartered Compose h n m a0 a1 a2 a3 b0 b1 b2 b3 = absurd (h refl)

pub result-within : (op : Operator) (m : ℕ) (f g : Cells) → Within m m f → Within m m g → Within m m (result_of op m f g)
result-within Union m f g v w = record {
  row = λ i j e. elim (or_cases _ _ e) [ inl x ↦ v.row i j x | inr y ↦ w.row i j y ];
  col = λ i j e. elim (or_cases _ _ e) [ inl x ↦ v.col i j x | inr y ↦ w.col i j y ];
}
result-within Inter m f g v w = record { row = λ i j e. v.row i j (and_parts _ _ e).0; col = λ i j e. v.col i j (and_parts _ _ e).0 }
result-within Diff m f g v w = record { row = λ i j e. v.row i j (and_parts _ _ e).0; col = λ i j e. v.col i j (and_parts _ _ e).0 }
result-within Transpose m f g v w = record { row = λ i j e. v.col j i e; col = λ i j e. v.row j i e }
result-within Compose m f g v w = product_within m f g v w

-- the result on quarters at a place is the operator on the quarters from which it comes, checked place by place
made-nth : (op : Operator) → op ≢ Compose → (n k : ℕ) (a0 a1 a2 a3 b0 b1 b2 b3 : Cells) → nth k (made op n 0 a0 a1 a2 a3 b0 b1 b2 b3) (made op n 1 a0 a1 a2 a3 b0 b1 b2 b3) (made op n 2 a0 a1 a2 a3 b0 b1 b2 b3) (made op n 3 a0 a1 a2 a3 b0 b1 b2 b3)
    ≡ made op n k a0 a1 a2 a3 b0 b1 b2 b3
made-nth op h n zero a0 a1 a2 a3 b0 b1 b2 b3 = refl
made-nth op h n (suc zero) a0 a1 a2 a3 b0 b1 b2 b3 = refl
made-nth op h n (suc (suc zero)) a0 a1 a2 a3 b0 b1 b2 b3 = refl
made-nth Union h n (suc (suc (suc k))) a0 a1 a2 a3 b0 b1 b2 b3 = refl
made-nth Inter h n (suc (suc (suc k))) a0 a1 a2 a3 b0 b1 b2 b3 = refl
made-nth Diff h n (suc (suc (suc k))) a0 a1 a2 a3 b0 b1 b2 b3 = refl
made-nth Transpose h n (suc (suc (suc k))) a0 a1 a2 a3 b0 b1 b2 b3 = refl
made-nth Compose h n (suc (suc (suc k))) a0 a1 a2 a3 b0 b1 b2 b3 = absurd (h refl)

-- four quads of one height
pub record FourAt (w : Keeper) (h : ℕ) (four : Quarters) : Type 0 where
  pub nw : QuadStands w four.nw
  pub ne : QuadStands w four.ne
  pub sw : QuadStands w four.sw
  pub se : QuadStands w four.se
  pub nw_height : four.nw.height ≡ h
  pub ne_height : four.ne.height ≡ h
  pub sw_height : four.sw.height ≡ h
  pub se_height : four.se.height ≡ h

-- the quarters of a quad stand, one height below it
pub four_at : (v w : Keeper) (q : Quad) (four : Quarters) → AreQuarters v w q four → FourAt w (q.height - 1) four
four_at v w q four a = record {
  nw = a.nw;
  ne = a.ne;
  sw = a.sw;
  se = a.se;
  nw_height = (let e = a.nw_height in omega arith);
  ne_height = (let e = a.ne_height in omega arith);
  sw_height = (let e = a.sw_height in omega arith);
  se_height = (let e = a.se_height in omega arith);
}

-- a quad stands, at this height
pub record StandsAt (w : Keeper) (h : ℕ) (q : Quad) : Type 0 where
  pub stands : QuadStands w q
  pub height : q.height ≡ h

pub nth_at : (w : Keeper) (h k : ℕ) (four : Quarters) → FourAt w h four → StandsAt w h (nth k four.nw four.ne four.sw four.se)
nth_at w h k four f = nth-all (StandsAt w h) k four.nw four.ne four.sw four.se
    (record { stands = f.nw; height = f.nw_height }) (record { stands = f.ne; height = f.ne_height }) (record { stands = f.sw; height = f.sw_height }) (record { stands = f.se; height = f.se_height })

-- the sets of quads of one height lie within its square
pub four-within : (w : Keeper) (h : ℕ) (four : Quarters) → FourAt w h four → AreWithin (side_of h) (quad_cells w four.nw) (quad_cells w four.ne) (quad_cells w four.sw) (quad_cells w four.se)
four-within w h four f = record { nw = within_at w h four.nw f.nw_height; ne = within_at w h four.ne f.ne_height; sw = within_at w h four.sw f.sw_height; se = within_at w h four.se f.se_height }

-- a quad by its quarters, of the height below
pub quarters_at : (v w : Keeper) (q : Quad) (four : Quarters) → AreQuarters v w q four → quad_cells v q ≡ quartered (side_of (q.height - 1)) (quad_cells w four.nw) (quad_cells w four.ne) (quad_cells w four.sw) (quad_cells w four.se)
quarters_at v w q four a =
    let e : four.nw.height ≡ q.height - 1 = (let x = a.nw_height in omega arith) in
    a.means ∙ ap (λ (h : ℕ). quartered (side_of h) (quad_cells w four.nw) (quad_cells w four.ne) (quad_cells w four.sw) (quad_cells w four.se)) e

-- a quarter of a result is the result on quarters
pub quarter-result : (op : Operator) (v w : Keeper) (a b : Quad) (fa fb : Quarters) (k : ℕ) → op ≢ Compose → b.height ≡ a.height → AreQuarters v w a fa → AreQuarters v w b fb
    → quarter (side_of (a.height - 1)) k (result_of op (side_of a.height) (quad_cells v a) (quad_cells v b))
    ≡ result_of op (side_of (a.height - 1)) (quad_cells w (nth (source op k) fa.nw fa.ne fa.sw fa.se)) (quad_cells w (nth k fb.nw fb.ne fb.sw fb.se))
quarter-result op v w a b fa fb k other e pa pb =
    let m : ℕ = side_of (a.height - 1) in
    let n : ℕ = side_of a.height in
    let f : Quad → Cells = quad_cells w in
    let ha : FourAt w (a.height - 1) fa = four_at v w a fa pa in
    let hb : FourAt w (a.height - 1) fb = subst (λ (h : ℕ). FourAt w (h - 1) fb) e (four_at v w b fb pb) in
    let ea : quad_cells v a ≡ quartered m (f fa.nw) (f fa.ne) (f fa.sw) (f fa.se) = quarters_at v w a fa pa in
    let eb : quad_cells v b ≡ quartered m (f fb.nw) (f fb.ne) (f fb.sw) (f fb.se) =
    quarters_at v w b fb pb ∙ ap (λ (h : ℕ). quartered (side_of (h - 1)) (f fb.nw) (f fb.ne) (f fb.sw) (f fb.se)) e in
    let wa = four-within w (a.height - 1) fa ha in
    let wb = four-within w (a.height - 1) fb hb in
    let some : (j : ℕ) → Within m m (made op m j (f fa.nw) (f fa.ne) (f fa.sw) (f fa.se) (f fb.nw) (f fb.ne) (f fb.sw) (f fb.se)) =
    λ j. result-within op m _ _ (nth-all (Within m m) (source op j) _ _ _ _ wa.nw wa.ne wa.sw wa.se) (nth-all (Within m m) j _ _ _ _ wb.nw wb.ne wb.sw wb.se) in
    ap (λ (c : Cells). quarter m k (result_of op n c (quad_cells v b))) ea
    ∙ ap (λ (c : Cells). quarter m k (result_of op n (quartered m (f fa.nw) (f fa.ne) (f fa.sw) (f fa.se)) c)) eb
    ∙ ap (quarter m k) (result-quartered op other n m (f fa.nw) (f fa.ne) (f fa.sw) (f fa.se) (f fb.nw) (f fb.ne) (f fb.sw) (f fb.se))
    ∙ quarter-quartered m k _ _ _ _ (record { nw = some 0; ne = some 1; sw = some 2; se = some 3 })
    ∙ made-nth op other m k (f fa.nw) (f fa.ne) (f fa.sw) (f fa.se) (f fb.nw) (f fb.ne) (f fb.sw) (f fb.se)
    ∙ ap (λ (c : Cells). result_of op m c (nth k (f fb.nw) (f fb.ne) (f fb.sw) (f fb.se))) (sym (nth-cells w (source op k) fa.nw fa.ne fa.sw fa.se))
    ∙ ap (λ (c : Cells). result_of op m (f (nth (source op k) fa.nw fa.ne fa.sw fa.se)) c) (sym (nth-cells w k fb.nw fb.ne fb.sw fb.se))

-- ---- parts
-- a part by the quarter in which it lies
pub part-next : (h c n : ℕ) (f : Cells) → 0 < c → part h c n f ≡ part (h - 1) (c - 1) n (quarter (side_of (h - 1)) (place_at_cut (c - 1) n) f)
part-next h zero n f l = absurd (omega (arith, l))
part-next h (suc c) n f l = let e : suc c - 1 ≡ c = omega arith in rw e refl

-- a part of a set that is known otherwise
pub part-same : (h c n : ℕ) (f g : Cells) → f ≡ g → part h c n f ≡ part h c n g
part-same h c n f g e = ap (part h c n) e

spread : (a b x y : Bool) → (a && (b && (x || y))) ≡ ((a && (b && x)) || (a && (b && y)))
spread true true x y = refl
spread true false x y = refl
spread false b x y = refl

quarter-union : (m k : ℕ) (f g : Cells) → quarter m k (cells_union f g) ≡ cells_union (quarter m k f) (quarter m k g)
quarter-union m zero f g = same_cells _ _ (λ i j. spread (ltb i m) (ltb j m) (f i j) (g i j))
quarter-union m (suc zero) f g = same_cells _ _ (λ i j. spread (ltb i m) (ltb j m) (f i (m + j)) (g i (m + j)))
quarter-union m (suc (suc zero)) f g = same_cells _ _ (λ i j. spread (ltb i m) (ltb j m) (f (m + i) j) (g (m + i) j))
quarter-union m (suc (suc (suc k))) f g = same_cells _ _ (λ i j. spread (ltb i m) (ltb j m) (f (m + i) (m + j)) (g (m + i) (m + j)))

pub part-union : (h c n : ℕ) (f g : Cells) → part h c n (cells_union f g) ≡ cells_union (part h c n f) (part h c n g)
part-union h zero n f g = refl
part-union h (suc c) n f g = ap (part (h - 1) c n) (quarter-union (side_of (h - 1)) (place_at_cut c n) f g) ∙ part-union (h - 1) c n _ _

-- a part lies within its square
pub part-within : (h c n : ℕ) (f : Cells) → Within (side_of h) (side_of h) f → Within (side_of (h - c)) (side_of (h - c)) (part h c n f)
part-within h zero n f w = subst (λ (k : ℕ). Within (side_of k) (side_of k) f) (let e : h ≡ h - 0 = omega arith in e) w
part-within h (suc c) n f w = subst (λ (k : ℕ). Within (side_of k) (side_of k) (part h (suc c) n f)) (let e : h - 1 - c ≡ h - suc c = omega arith in e)
    (part-within (h - 1) c n (quarter (side_of (h - 1)) (place_at_cut c n) f) (quarter-within (side_of (h - 1)) (place_at_cut c n) f))

pub part-none : (h c n : ℕ) (f : Cells) → c ≡ 0 → part h c n f ≡ f
part-none h c n f e = ap (λ (x : ℕ). part h x n f) e

none_in : (a b : Bool) → (a && (b && false)) ≡ false
none_in true true = refl
none_in true false = refl
none_in false b = refl

quarter-no_cells : (m k : ℕ) → quarter m k no_cells ≡ no_cells
quarter-no_cells m zero = same_cells _ _ (λ i j. none_in (ltb i m) (ltb j m))
quarter-no_cells m (suc zero) = same_cells _ _ (λ i j. none_in (ltb i m) (ltb j m))
quarter-no_cells m (suc (suc zero)) = same_cells _ _ (λ i j. none_in (ltb i m) (ltb j m))
quarter-no_cells m (suc (suc (suc k))) = same_cells _ _ (λ i j. none_in (ltb i m) (ltb j m))

pub part-no_cells : (h c n : ℕ) → part h c n no_cells ≡ no_cells
part-no_cells h zero n = refl
part-no_cells h (suc c) n = ap (part (h - 1) c n) (quarter-no_cells (side_of (h - 1)) (place_at_cut c n)) ∙ part-no_cells (h - 1) c n

-- ---- numbers
pub place-first : (c n : ℕ) → c ≡ 0 → n % 4 ≡ place_at_cut c n
place-first c n e = ap (λ (x : ℕ). place_at_cut x n) (sym e)

pub place-next : (c n : ℕ) → c ≢ 0 → place_at_cut (c - 1) (n / 4) ≡ place_at_cut c n
place-next zero n h = absurd (h refl)
place-next (suc c) n h = let e : suc c - 1 ≡ c = omega arith in rw e refl

-- ---- steps down
-- one step down to a square of a result
pub record SquareStep (op : Operator) (v w : Keeper) (a b left right : Quad) (c n : ℕ) : Type 0 where
  pub left_stands : QuadStands w left
  pub right_stands : QuadStands w right
  pub left_height : left.height + 1 ≡ a.height
  pub one_height : right.height ≡ left.height
  pub deep : bottom_height + (c - 1) ≤ left.height
  pub height : left.height - (c - 1) ≡ a.height - c
  pub same : part left.height (c - 1) n (result_of op (side_of left.height) (quad_cells w left) (quad_cells w right)) ≡ part a.height c n (result_of op (side_of a.height) (quad_cells v a) (quad_cells v b))

-- one cut down, a square of a result is the same square of the result on two quarters: an operator that is no
-- composition goes quarter by quarter, and cutting goes on within the quarter
pub square_step : (op : Operator) (v w : Keeper) (a b left right : Quad) (fa fb : Quarters) (c n k s : ℕ) → op ≢ Compose → b.height ≡ a.height → c ≢ 0 → bottom_height + c ≤ a.height → AreQuarters v w a fa → AreQuarters v w b fb
    → k ≡ place_at_cut (c - 1) n → s ≡ source op k → left ≡ nth s fa.nw fa.ne fa.sw fa.se → right ≡ nth k fb.nw fb.ne fb.sw fb.se → SquareStep op v w a b left right c n
square_step op v w a b left right fa fb c n k s other e some deep pa pb ek es el er =
    let ha : FourAt w (a.height - 1) fa = four_at v w a fa pa in
    let hb : FourAt w (a.height - 1) fb = subst (λ (h : ℕ). FourAt w (h - 1) fb) e (four_at v w b fb pb) in
    let l : StandsAt w (a.height - 1) left = subst (StandsAt w (a.height - 1)) (sym el) (nth_at w (a.height - 1) s fa ha) in
    let r : StandsAt w (a.height - 1) right = subst (StandsAt w (a.height - 1)) (sym er) (nth_at w (a.height - 1) k fb hb) in
    let lh = l.height in
    let rh = r.height in
    let pos : 0 < c = omega arith in
    let eq : quad_cells w left ≡ quad_cells w (nth (source op (place_at_cut (c - 1) n)) fa.nw fa.ne fa.sw fa.se) =
    ap (quad_cells w) el ∙ ap (λ (x : ℕ). quad_cells w (nth x fa.nw fa.ne fa.sw fa.se)) (es ∙ ap (source op) ek) in
    let er2 : quad_cells w right ≡ quad_cells w (nth (place_at_cut (c - 1) n) fb.nw fb.ne fb.sw fb.se) =
    ap (quad_cells w) er ∙ ap (λ (x : ℕ). quad_cells w (nth x fb.nw fb.ne fb.sw fb.se)) ek in
    record {
      left_stands = l.stands;
      right_stands = r.stands;
      left_height = omega arith;
      one_height = rh ∙ sym lh;
      deep = omega arith;
      height = omega arith;
      same = ap (λ (h : ℕ). part h (c - 1) n (result_of op (side_of h) (quad_cells w left) (quad_cells w right))) lh
          ∙ ap (λ (f : Cells). part (a.height - 1) (c - 1) n (result_of op (side_of (a.height - 1)) f (quad_cells w right))) eq
          ∙ ap (λ (f : Cells). part (a.height - 1) (c - 1) n (result_of op (side_of (a.height - 1)) (quad_cells w (nth (source op (place_at_cut (c - 1) n)) fa.nw fa.ne fa.sw fa.se)) f)) er2
          ∙ ap (part (a.height - 1) (c - 1) n) (sym (quarter-result op v w a b fa fb (place_at_cut (c - 1) n) other e pa pb))
          ∙ sym (part-next a.height c n (result_of op (side_of a.height) (quad_cells v a) (quad_cells v b)) pos);
    }
