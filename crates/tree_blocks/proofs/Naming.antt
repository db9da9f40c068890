-- Squares are named, one height after the other, and those that stood already are found.
-- 1. A loop over the squares of one height keeps what it named; where all of them stood at first, it has only read (`gathered_more`).
-- 2. So it misses nothing where all of them stood (`gathered_missed`).
-- 3. Where squares of a height stood, their quarters did, since the quarters lie within their squares (`quarters_of_all`).
use Rattle.std.proofs.Common.{◌≡◌, ◌<◌, ◌≤◌, ◌+◌, ◌-◌, ◌*◌, ◌/◌, ltb, zero, suc, ℕ, List, Result, Ok, Err, IfOk, length, refl, sym, ap, subst, ◌∙◌, arith, get_or, set, inl, inr}
use Rattle.std.proofs.Math.Nat.{mul_comm}
use Rattle.std.proofs.lemmas.Bool.{cases_Bool, ltb-true}
use Rattle.std.proofs.lemmas.List.{length-set, get_or-set_same, get_or-set_other}
use Rattle.rel_model.specs.declared.Quad.{Quad}
use Rattle.rel_model.specs.Cells.{Cells, block_cells}
use Rattle.rel_model.specs.Trees.{bottom_height, side, quartered}
use Rattle.rel_model.specs.Equations.{side_of}
use Rattle.rel_model.specs.Quads.{Keeper, IsKeeper, QuadStands, IsQuad, quad_cells, KeepsQuads, ReadsQuads, quad_room}
use Rattle.rel_model.proofs.TreeLaws.{Within}
use Rattle.leaf_block.proofs.Sets.{block_within}
use Rattle.rel_model.proofs.QuadLaws.{quad_stays, quad_cells-stay, is_quad-stays, is_quad-height, keeps_on, keeps_most, keeps_itself, reads_itself, reads_on, rooms-next}
use Rattle.quad_nodes.specs.Finding.{FindsQuad}
use Rattle.quad_nodes.proofs.Finding.{not_missed, quarters_stood, found_is}
use Rattle.tree_blocks.specs.Order.{square_cells}
use Rattle.tree_blocks.specs.Levels.{named, AllStand, corner_cells, AreNamed, HaveStood, FindsAll}
use Rattle.tree_blocks.proofs.Counting.{at_or_below, one_of_four, depth_none}
use Rattle.tree_blocks.proofs.Opening.{quartered_same, square_none, square_step, square_next}

-- a height and a name as a quad
abbrev quad_of : ℕ → ℕ → Quad
quad_of h n = record { height = h; name = n }

-- ---- one height
-- the first names, so many, have these sets, and those behind them are as they were
pub record AreGathered (m : ℕ) (s t : Keeper) (h : ℕ) (f : ℕ → Cells) (ns xs : List ℕ) (count done : ℕ) : Type 0 where
  pub len : length xs ≡ length ns
  pub within : done ≤ count
  pub keeps : KeepsQuads (m * done) s t
  pub misses : t.misses ≡ s.misses
  pub are : AreNamed t h f xs done
  pub read : HaveStood s h f count → ReadsQuads s t
  pub rest : (k : ℕ) → done ≤ k → get_or xs k 0 ≡ get_or ns k 0

pub gathered_none : (m : ℕ) (s : Keeper) (h : ℕ) (f : ℕ → Cells) (ns : List ℕ) (count : ℕ) → IsKeeper s → AreGathered m s s h f ns ns count 0
gathered_none m s h f ns count i = record {
  len = refl;
  within = omega arith;
  keeps = keeps_itself s (m * 0) i;
  misses = refl;
  are = λ k l. absurd (let x : ⊥ = omega arith in x);
  read = λ x. reads_itself s i;
  rest = λ k l. refl;
}

-- a quad by its height and its name
as_named : (w : Keeper) (h : ℕ) (f : Cells) (xs : List ℕ) (k : ℕ) (q : Quad) → get_or xs k 0 ≡ q.name → IsQuad w h f q → IsQuad w h f (named h xs k)
as_named w h f xs k q e i =
    let x : q ≡ named h xs k = ap (λ (n : ℕ). quad_of n q.name) i.same_height ∙ ap (λ (n : ℕ). quad_of h n) (sym e) in
    subst (λ (p : Quad). IsQuad w h f p) x i

-- a loop names one square more: its name is written at its place, those before it stand, and where all stood at first
-- the loop has still only read
pub gathered_more : {E : Type 0} (m : ℕ) (r s t : Keeper) (h : ℕ) (f : ℕ → Cells) (g : Cells) (ns xs : List ℕ) (count done : ℕ) (q : Quad) → m * done + m ≡ m * (done + 1) → done < count → done < length xs → g ≡ f done
    → AreGathered m r s h f ns xs count done → IsQuad t h g q → FindsQuad {E = E} s t h g (Ok q) → KeepsQuads m s t → t.misses ≡ s.misses → AreGathered m r t h f ns (set xs done q.name) count (done + 1)
gathered_more {E} m r s t h f g ns xs count done q room l long same i is found keeps misses = record {
  len = length-set xs done q.name ∙ i.len;
  within = omega arith;
  keeps = subst (λ (n : ℕ). KeepsQuads n r t) room (keeps_on (m * done) m r s t i.keeps keeps);
  misses = misses ∙ i.misses;
  are = λ k n. elim (at_or_below done k (omega arith)) [
    | inl e ↦ subst (λ (j : ℕ). IsQuad t h (f j) (named h (set xs done q.name) j)) (sym e) (as_named t h (f done) (set xs done q.name) done q (get_or-set_same xs done q.name 0 long) (subst (λ (y : Cells). IsQuad t h y q) same is))
    | inr x ↦ as_named t h (f k) (set xs done q.name) k (named h xs k) (get_or-set_other xs done k q.name 0 (omega arith)) (is_quad-stays m s t h (f k) (named h xs k) keeps (i.are k x))
  ];
  read = λ all. (let y = i.read all in let z = all done l in
      reads_on r s t y (found z.0 (subst (λ (x : Cells). IsQuad s h x z.0) (sym same) (is_quad-stays 0 r s h (f done) z.0 y.keeps z.1))).reads);
  rest = λ k n. get_or-set_other xs done k q.name 0 (omega arith) ∙ i.rest k (omega arith);
}

-- where all stood, none is missed
pub gathered_missed : {E : Type 0} (m : ℕ) (r s t : Keeper) (h : ℕ) (f : ℕ → Cells) (g : Cells) (ns xs : List ℕ) (count done : ℕ) (e : E) → done < count → g ≡ f done → AreGathered m r s h f ns xs count done
    → FindsQuad s t h g (Err e) → HaveStood r h f count → ⊥
gathered_missed m r s t h f g ns xs count done e l same i found all =
    let y = i.read all in
    let z = all done l in
    not_missed s t e z.0 (found z.0 (subst (λ (x : Cells). IsQuad s h x z.0) (sym same) (is_quad-stays 0 r s h (f done) z.0 y.keeps z.1)))

-- ---- corners
-- the names from 4k on stand yet, where so many corners are named
pub stands_now : (m : ℕ) (r s : Keeper) (h p : ℕ) (f : ℕ → Cells) (ns xs : List ℕ) (count done j : ℕ) → AllStand r h ns (4 * count) → done ≤ j → j < 4 * count → AreGathered m r s p f ns xs count done
    → QuadStands s (named h xs j)
stands_now m r s h p f ns xs count done j stand a b i =
    subst (λ (n : ℕ). QuadStands s (quad_of h n)) (sym (i.rest j a)) (quad_stays (m * done) r s (named h ns j) i.keeps (stand j b))

pub corner_now : (m : ℕ) (r s : Keeper) (h p : ℕ) (f : ℕ → Cells) (ns xs : List ℕ) (count done : ℕ) → AllStand r h ns (4 * count) → done < count → AreGathered m r s p f ns xs count done
    → corner_cells s h xs done ≡ corner_cells r h ns done
corner_now m r s h p f ns xs count done stand l i =
    let one : (j : ℕ) → 4 * done ≤ j → j < 4 * count → quad_cells s (named h xs j) ≡ quad_cells r (named h ns j) =
    λ j a b. ap (λ (n : ℕ). quad_cells s (quad_of h n)) (i.rest j (omega arith)) ∙ quad_cells-stay (m * done) r s (named h ns j) i.keeps (stand j b) in
    quartered_same (side_of h) (side_of h) _ _ _ _ _ _ _ _ refl (one (4 * done) (omega arith) (omega arith)) (one (4 * done + 1) (omega arith) (omega arith)) (one (4 * done + 2) (omega arith) (omega arith)) (one (4 * done + 3) (omega arith) (omega arith))

-- ---- blocks
pub bottom_stood : {E : Type 0} (v w : Keeper) (h count : ℕ) (ws : List ℕ) (r : Result Unit E) → h ≡ bottom_height → FindsAll v w bottom_height (square_cells 0 ws) count r
    → FindsAll v w h (square_cells (h - bottom_height) ws) count r
bottom_stood {E} v w h count ws r e f =
    subst (λ (d : ℕ). FindsAll v w h (square_cells d ws) count r) (sym (depth_none h e))
    (subst (λ (k : ℕ). FindsAll v w k (square_cells 0 ws) count r) (sym e) f)

-- ---- one height above another
times : (m c : ℕ) → m * (4 * suc c) ≡ 4 * m + m * (4 * c)
times m c = omega arith

once : (c m : ℕ) → suc c * m ≡ m + c * m
once c m = omega arith

-- four times as many names one height below, and three words for each corner
room_level : (c m : ℕ) → 4 * c * m + 3 * c ≡ c * (m + m + m + m + 3)
room_level zero m = omega arith
room_level (suc c) m =
    let i = room_level c m in
    let a : 4 * suc c * m ≡ 4 * m + 4 * c * m = mul_comm (4 * suc c) m ∙ times m c ∙ ap (λ (x : ℕ). 4 * m + x) (mul_comm m (4 * c)) in
    let b : suc c * (m + m + m + m + 3) ≡ (m + m + m + m + 3) + c * (m + m + m + m + 3) = once c (m + m + m + m + 3) in
    omega arith

pub level_keeps : (r s t : Keeper) (h count : ℕ) → bottom_height < h → KeepsQuads (4 * count * quad_room (h - 1)) r s → KeepsQuads (3 * count) s t → KeepsQuads (count * quad_room h) r t
level_keeps r s t h count over k l =
    let e : 4 * count * quad_room (h - 1) + 3 * count ≡ count * quad_room h = room_level count (quad_room (h - 1)) ∙ ap (λ (x : ℕ). count * x) (rooms-next h over) in
    subst (λ (n : ℕ). KeepsQuads n r t) e (keeps_on _ _ r s t k l)

pub first_keeps : (r s : Keeper) (h count : ℕ) → bottom_height < h → KeepsQuads (4 * count * quad_room (h - 1)) r s → KeepsQuads (count * quad_room h) r s
first_keeps r s h count over k =
    let e : 4 * count * quad_room (h - 1) + 3 * count ≡ count * quad_room h = room_level count (quad_room (h - 1)) ∙ ap (λ (x : ℕ). count * x) (rooms-next h over) in
    keeps_most _ _ r s (omega arith) k

-- the corners of named squares are the squares one height above
pub corner_square : (w : Keeper) (h : ℕ) (ws xs : List ℕ) (count k : ℕ) → bottom_height < h → AreNamed w (h - 1) (square_cells (h - 1 - bottom_height) ws) xs (4 * count) → k < count
    → corner_cells w (h - 1) xs k ≡ square_cells (h - bottom_height) ws k
corner_square w h ws xs count k over a l =
    quartered_same (side_of (h - 1)) (side_of (h - 1)) _ _ _ _ _ _ _ _ refl (a (4 * k) (omega arith)).means (a (4 * k + 1) (omega arith)).means (a (4 * k + 2) (omega arith)).means (a (4 * k + 3) (omega arith)).means
    ∙ sym (square_next h ws k over)

pub level_value : {E : Type 0} (s t : Keeper) (h : ℕ) (ws xs ys : List ℕ) (count : ℕ) (r : Result Unit E) → bottom_height < h → AreNamed s (h - 1) (square_cells (h - 1 - bottom_height) ws) xs (4 * count)
    → IfOk r (λ u. AreNamed t (h - 1 + 1) (corner_cells s (h - 1) xs) ys count) → IfOk r (λ u. AreNamed t h (square_cells (h - bottom_height) ws) ys count)
level_value s t h ws xs ys count (Err e) over a v = tt
level_value s t h ws xs ys count (Ok u) over a v =
    let one : h - 1 + 1 ≡ h = omega arith in
    let w : AreNamed t h (corner_cells s (h - 1) xs) ys count = subst (λ (n : ℕ). AreNamed t n (corner_cells s (h - 1) xs) ys count) one v in
    λ k l. subst (λ (g : Cells). IsQuad t h g (named h ys k)) (corner_square s h ws xs count k over a l) (w k l)

-- ---- squares that stood
block_lies : (a : ℕ) → Within 8 8 (block_cells a)
block_lies a = record { row = λ i j h. (block_within a i j h).0; col = λ i j h. (block_within a i j h).1 }

-- four sets within their quarters lie within the square: a cell past its edge would be past the edge of a quarter
four_within : (m : ℕ) (a b c d : Cells) → Within m m a → Within m m b → Within m m c → Within m m d → Within (m + m) (m + m) (quartered m a b c d)
four_within m a b c d p q r s = record {
  row = λ i j h. elim (cases_Bool (ltb i m)) [
    | inl x ↦ let y = ltb-true i m x in omega arith
    | inr x ↦ elim (cases_Bool (ltb j m)) [
      | inl y ↦ let z = r.row (i - m) j (rw (x, y) at h) in omega arith
      | inr y ↦ let z = s.row (i - m) (j - m) (rw (x, y) at h) in omega arith
    ]
  ];
  col = λ i j h. elim (cases_Bool (ltb j m)) [
    | inl y ↦ let z = ltb-true j m y in omega arith
    | inr y ↦ elim (cases_Bool (ltb i m)) [
      | inl x ↦ let z = q.col i (j - m) (rw (x, y) at h) in omega arith
      | inr x ↦ let z = s.col (i - m) (j - m) (rw (x, y) at h) in omega arith
    ]
  ];
}

square_within : (d : ℕ) (ws : List ℕ) (k : ℕ) → Within (side d) (side d) (square_cells d ws k)
square_within zero ws k = subst (λ (f : Cells). Within 8 8 f) (sym (square_none 0 ws k refl)) (block_lies (get_or ws k 0))
square_within (suc d) ws k = subst (λ (f : Cells). Within (side d + side d) (side d + side d) f) (sym (square_step d ws k))
    (four_within (side d) _ _ _ _ (square_within d ws (4 * k)) (square_within d ws (4 * k + 1)) (square_within d ws (4 * k + 2)) (square_within d ws (4 * k + 3)))

-- the quarters of squares that stood
pub quarters_of_all : (w : Keeper) (h : ℕ) (ws : List ℕ) (count : ℕ) → IsKeeper w → bottom_height < h → HaveStood w h (square_cells (h - bottom_height) ws) count → HaveStood w (h - 1) (square_cells (h - 1 - bottom_height) ws) (4 * count)
quarters_of_all w h ws count i over all j l =
    let k : ℕ = j / 4 in
    let d : ℕ = h - 1 - bottom_height in
    let z = all k (omega arith) in
    let one : h ≡ h - 1 + 1 = omega arith in
    let q = quarters_stood w (h - 1) z.0 _ _ _ _ i (omega arith)
    (record { nw = square_within d ws (4 * k); ne = square_within d ws (4 * k + 1); sw = square_within d ws (4 * k + 2); se = square_within d ws (4 * k + 3) })
    (record { same_height = z.1.same_height ∙ one; stands = z.1.stands; means = z.1.means ∙ square_next h ws k over }) in
    elim (one_of_four j) [
      | inl e ↦ (quad_of (h - 1) q.nw, subst (λ (x : ℕ). IsQuad w (h - 1) (square_cells d ws x) (quad_of (h - 1) q.nw)) (sym e) q.nw_is)
      | inr y ↦ elim y [
        | inl e ↦ (quad_of (h - 1) q.ne, subst (λ (x : ℕ). IsQuad w (h - 1) (square_cells d ws x) (quad_of (h - 1) q.ne)) (sym e) q.ne_is)
        | inr u ↦ elim u [
          | inl e ↦ (quad_of (h - 1) q.sw, subst (λ (x : ℕ). IsQuad w (h - 1) (square_cells d ws x) (quad_of (h - 1) q.sw)) (sym e) q.sw_is)
          | inr e ↦ (quad_of (h - 1) q.se, subst (λ (x : ℕ). IsQuad w (h - 1) (square_cells d ws x) (quad_of (h - 1) q.se)) (sym e) q.se_is)
        ]
      ]
    ]

-- the corners of named squares stood where the squares did
pub level_stood : {D E : Type 0} (r s t : Keeper) (h : ℕ) (ws xs : List ℕ) (count : ℕ) (first : Result Unit D) (x : Result Unit E) → IsKeeper r → bottom_height < h
    → AreNamed s (h - 1) (square_cells (h - 1 - bottom_height) ws) xs (4 * count) → FindsAll r s (h - 1) (square_cells (h - 1 - bottom_height) ws) (4 * count) first
    → FindsAll s t (h - 1 + 1) (corner_cells s (h - 1) xs) count x → FindsAll r t h (square_cells (h - bottom_height) ws) count x
level_stood r s t h ws xs count first x i over a f g all =
    let y = f (quarters_of_all r h ws count i over all) in
    let one : h ≡ h - 1 + 1 = omega arith in
    let z = g (λ k l. (let q = all k l in (
      q.0,
      subst (λ (c : Cells). IsQuad s (h - 1 + 1) c q.0) (sym (corner_square s h ws xs count k over a l))
          (is_quad-height s h (h - 1 + 1) _ q.0 one (is_quad-stays 0 r s h _ q.0 y.reads.keeps q.1)),
    ))) in
    record { answer = z.answer; reads = reads_on r s t y.reads z.reads }

-- ---- the whole square
pub one_stood : {E : Type 0} (v w : Keeper) (h : ℕ) (f : ℕ → Cells) (xs : List ℕ) (r : Result Unit E) → AreNamed w h f xs 1 → FindsAll v w h f 1 r → FindsQuad {E = E} v w h (f 0) (Ok (named h xs 0))
one_stood {E} v w h f xs r a g q i =
    let y = g (λ k l. (q, subst (λ (j : ℕ). IsQuad v h (f j) q) (let e : 0 ≡ k = omega arith in e) i)) in
    found_is {E = E} v w h (f 0) (named h xs 0) y.reads (a 0 (omega arith)) q i

pub one_missed : {D E : Type 0} (v w : Keeper) (h : ℕ) (f : ℕ → Cells) (e : D) (r : Result Quad E) → FindsAll v w h f 1 (Err e) → FindsQuad v w h (f 0) r
one_missed v w h f e r g q i =
    absurd (not_missed v w e tt (g (λ k l. (q, subst (λ (j : ℕ). IsQuad v h (f j) q) (let x : 0 ≡ k = omega arith in x) i))))
