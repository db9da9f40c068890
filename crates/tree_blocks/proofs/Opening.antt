-- Names are opened, one height after the other.
-- 1. The quarters of a name, written at its four places, are what the name was opened to (`opened_plain`, `opened_turned`); this stays while other places are written and the table is read (`opened_stays`).
-- 2. A loop from the last name to the first keeps what is to come, since it writes behind it (`opened_more`).
-- 3. Where each name of a list is opened, squares have one quartering more above the blocks (`spilled_level`): no sum over the list is needed, as square k has the squares from 4k on for its quarters.
use Rattle.std.proofs.Common.{◌≡◌, ◌<◌, ◌≤◌, ◌+◌, ◌-◌, ◌*◌, ◌/◌, zero, suc, ℕ, Bool, true, false, List, length, refl, sym, ap, subst, ◌∙◌, arith, get_or, set, inl, inr}
use Rattle.std.proofs.lemmas.List.{length-set, get_or-set_same, get_or-set_other}
use Rattle.rel_model.specs.declared.Quad.{Quad}
use Rattle.rel_model.specs.declared.Quarters.{Quarters}
use Rattle.rel_model.specs.Cells.{Cells, block_cells, cells_transpose}
use Rattle.rel_model.specs.Trees.{bottom_height, side, quartered}
use Rattle.rel_model.specs.Equations.{side_of}
use Rattle.rel_model.specs.Quads.{Keeper, IsKeeper, QuadStands, quad_cells, ReadsQuads, AreQuarters}
use Rattle.rel_model.proofs.Composing.{cells_transpose-quartered}
use Rattle.rel_model.proofs.QuadLaws.{quad_stays, quad_cells-stay, reads_itself, reads_on}
use Rattle.tree_blocks.specs.Order.{square_cells, turned_cells}
use Rattle.tree_blocks.specs.Levels.{named, AllStand, IsOpened}
use Rattle.tree_blocks.proofs.Counting.{depth_next, at_or_over, at_or_below, one_of_four}

-- a height and a name as a quad
abbrev quad_of : ℕ → ℕ → Quad
quad_of h n = record { height = h; name = n }

pub quartered_same : (m n : ℕ) (a b c d e f g h : Cells) → m ≡ n → a ≡ e → b ≡ f → c ≡ g → d ≡ h → quartered m a b c d ≡ quartered n e f g h
quartered_same m n a b c d e f g h x y0 y1 y2 y3 =
    ap (λ (k : ℕ). quartered k a b c d) x
    ∙ ap (λ (z : Cells). quartered n z b c d) y0
    ∙ ap (λ (z : Cells). quartered n e z c d) y1
    ∙ ap (λ (z : Cells). quartered n e f z d) y2
    ∙ ap (λ (z : Cells). quartered n e f g z) y3

-- ---- one name
quarter_named : (h : ℕ) (xs : List ℕ) (j : ℕ) (q : Quad) → q.height + 1 ≡ h → get_or xs j 0 ≡ q.name → q ≡ named (h - 1) xs j
quarter_named h xs j q e n =
    let a : q.height ≡ h - 1 = omega arith in
    ap (λ (x : ℕ). quad_of x q.name) a ∙ ap (λ (x : ℕ). quad_of (h - 1) x) (sym n)

-- a name is opened by its quarters, written at its four places in their order: their sets make up its set
pub opened_plain : (w v : Keeper) (h k : ℕ) (ns xs : List ℕ) (four : Quarters) → AreQuarters w v (named h ns k) four
    → get_or xs (4 * k) 0 ≡ four.nw.name → get_or xs (4 * k + 1) 0 ≡ four.ne.name → get_or xs (4 * k + 2) 0 ≡ four.sw.name → get_or xs (4 * k + 3) 0 ≡ four.se.name
    → IsOpened false w v h ns xs k
opened_plain w v h k ns xs four p n0 n1 n2 n3 =
    let e0 = quarter_named h xs (4 * k) four.nw p.nw_height n0 in
    let e1 = quarter_named h xs (4 * k + 1) four.ne p.ne_height n1 in
    let e2 = quarter_named h xs (4 * k + 2) four.sw p.sw_height n2 in
    let e3 = quarter_named h xs (4 * k + 3) four.se p.se_height n3 in
    let S : Quad → Cells = λ (q : Quad). quad_cells v q in
    record {
      nw = subst (λ (q : Quad). QuadStands v q) e0 p.nw;
      ne = subst (λ (q : Quad). QuadStands v q) e1 p.ne;
      sw = subst (λ (q : Quad). QuadStands v q) e2 p.sw;
      se = subst (λ (q : Quad). QuadStands v q) e3 p.se;
      means = sym (quartered_same (side_of four.nw.height) (side_of (h - 1)) _ _ _ _ _ _ _ _ (ap (λ (q : Quad). side_of q.height) e0) (ap S e0) (ap S e1) (ap S e2) (ap S e3)) ∙ sym p.means;
    }

-- a name is opened turned by its quarters with north-east and south-west exchanged: transposing a square transposes its
-- quarters and exchanges these two
pub opened_turned : (w v : Keeper) (h k : ℕ) (ns xs : List ℕ) (four : Quarters) → AreQuarters w v (named h ns k) four
    → get_or xs (4 * k) 0 ≡ four.nw.name → get_or xs (4 * k + 1) 0 ≡ four.sw.name → get_or xs (4 * k + 2) 0 ≡ four.ne.name → get_or xs (4 * k + 3) 0 ≡ four.se.name
    → IsOpened true w v h ns xs k
opened_turned w v h k ns xs four p n0 n1 n2 n3 =
    let e0 = quarter_named h xs (4 * k) four.nw p.nw_height n0 in
    let e1 = quarter_named h xs (4 * k + 1) four.sw p.sw_height n1 in
    let e2 = quarter_named h xs (4 * k + 2) four.ne p.ne_height n2 in
    let e3 = quarter_named h xs (4 * k + 3) four.se p.se_height n3 in
    let S : Quad → Cells = λ (q : Quad). cells_transpose (quad_cells v q) in
    record {
      nw = subst (λ (q : Quad). QuadStands v q) e0 p.nw;
      ne = subst (λ (q : Quad). QuadStands v q) e1 p.sw;
      sw = subst (λ (q : Quad). QuadStands v q) e2 p.ne;
      se = subst (λ (q : Quad). QuadStands v q) e3 p.se;
      means = sym (quartered_same (side_of four.nw.height) (side_of (h - 1)) _ _ _ _ _ _ _ _ (ap (λ (q : Quad). side_of q.height) e0) (ap S e0) (ap S e1) (ap S e2) (ap S e3))
          ∙ sym (cells_transpose-quartered (side_of four.nw.height) (quad_cells v four.nw) (quad_cells v four.ne) (quad_cells v four.sw) (quad_cells v four.se))
          ∙ ap (λ (f : Cells). cells_transpose f) (sym p.means);
    }

-- four places from 4k on, one after the other
record FourSet (xs : List ℕ) (k a b c d : ℕ) : Type 0 where
  pub p0 : get_or xs (4 * k) 0 ≡ a
  pub p1 : get_or xs (4 * k + 1) 0 ≡ b
  pub p2 : get_or xs (4 * k + 2) 0 ≡ c
  pub p3 : get_or xs (4 * k + 3) 0 ≡ d

abbrev with_four : List ℕ → ℕ → ℕ → ℕ → ℕ → ℕ → List ℕ
with_four ns k a b c d = set (set (set (set ns (4 * k) a) (4 * k + 1) b) (4 * k + 2) c) (4 * k + 3) d

-- four places written one after the other hold what was written, as each write leaves the other places
four_set : (ns : List ℕ) (k a b c d : ℕ) → 4 * k + 4 ≤ length ns → FourSet (with_four ns k a b c d) k a b c d
four_set ns k a b c d l =
    let x1 : List ℕ = set ns (4 * k) a in
    let x2 : List ℕ = set x1 (4 * k + 1) b in
    let x3 : List ℕ = set x2 (4 * k + 2) c in
    let l1 = length-set ns (4 * k) a in
    let l2 = length-set x1 (4 * k + 1) b in
    let l3 = length-set x2 (4 * k + 2) c in
    record {
      p0 = get_or-set_other x3 (4 * k + 3) (4 * k) d 0 (omega arith) ∙ get_or-set_other x2 (4 * k + 2) (4 * k) c 0 (omega arith) ∙ get_or-set_other x1 (4 * k + 1) (4 * k) b 0 (omega arith) ∙ get_or-set_same ns (4 * k) a 0 (omega arith);
      p1 = get_or-set_other x3 (4 * k + 3) (4 * k + 1) d 0 (omega arith) ∙ get_or-set_other x2 (4 * k + 2) (4 * k + 1) c 0 (omega arith) ∙ get_or-set_same x1 (4 * k + 1) b 0 (omega arith);
      p2 = get_or-set_other x3 (4 * k + 3) (4 * k + 2) d 0 (omega arith) ∙ get_or-set_same x2 (4 * k + 2) c 0 (omega arith);
      p3 = get_or-set_same x3 (4 * k + 3) d 0 (omega arith);
    }

pub set_turned : (w v : Keeper) (b : Bool) (h k : ℕ) (ns : List ℕ) (four : Quarters) (two : Quad × Quad) → b ≡ true → two ≡ (four.sw, four.ne) → 4 * k + 4 ≤ length ns
    → AreQuarters w v (named h ns k) four → IsOpened b w v h ns (with_four ns k four.nw.name two.0.name two.1.name four.se.name) k
set_turned w v b h k ns four two e f l p =
    let xs : List ℕ = with_four ns k four.nw.name two.0.name two.1.name four.se.name in
    let s = four_set ns k four.nw.name two.0.name two.1.name four.se.name l in
    subst (λ (x : Bool). IsOpened x w v h ns xs k) (sym e)
    (opened_turned w v h k ns xs four p s.p0 (s.p1 ∙ ap (λ (t : Quad × Quad). t.0.name) f) (s.p2 ∙ ap (λ (t : Quad × Quad). t.1.name) f) s.p3)

pub set_plain : (w v : Keeper) (b : Bool) (h k : ℕ) (ns : List ℕ) (four : Quarters) (two : Quad × Quad) → b ≡ false → two ≡ (four.ne, four.sw) → 4 * k + 4 ≤ length ns
    → AreQuarters w v (named h ns k) four → IsOpened b w v h ns (with_four ns k four.nw.name two.0.name two.1.name four.se.name) k
set_plain w v b h k ns four two e f l p =
    let xs : List ℕ = with_four ns k four.nw.name two.0.name two.1.name four.se.name in
    let s = four_set ns k four.nw.name two.0.name two.1.name four.se.name l in
    subst (λ (x : Bool). IsOpened x w v h ns xs k) (sym e)
    (opened_plain w v h k ns xs four p s.p0 (s.p1 ∙ ap (λ (t : Quad × Quad). t.0.name) f) (s.p2 ∙ ap (λ (t : Quad × Quad). t.1.name) f) s.p3)

-- ---- one height
-- a name that stood is at the same place in a later list
record NameStays (s t : Keeper) (h : ℕ) (xs ys : List ℕ) (j : ℕ) : Type 0 where
  pub stands : QuadStands t (named h ys j)
  pub cells : quad_cells t (named h ys j) ≡ quad_cells s (named h xs j)

name_stays : (s t : Keeper) (h : ℕ) (xs ys : List ℕ) (j : ℕ) → ReadsQuads s t → get_or ys j 0 ≡ get_or xs j 0 → QuadStands s (named h xs j) → NameStays s t h xs ys j
name_stays s t h xs ys j r e i =
    let x : named h ys j ≡ named h xs j = ap (λ (n : ℕ). quad_of h n) e in
    record {
      stands = subst (λ (q : Quad). QuadStands t q) (sym x) (quad_stays 0 s t (named h xs j) r.keeps i);
      cells = ap (λ (q : Quad). quad_cells t q) x ∙ quad_cells-stay 0 s t (named h xs j) r.keeps i;
    }

-- an opened name stays opened: its four places are not written again, and a table that is only read keeps all sets
opened_stays : (b : Bool) (r s t : Keeper) (h : ℕ) (ns xs ys : List ℕ) (k : ℕ) → ReadsQuads s t → ((j : ℕ) → 4 * k ≤ j → get_or ys j 0 ≡ get_or xs j 0) → IsOpened b r s h ns xs k → IsOpened b r t h ns ys k
opened_stays b r s t h ns xs ys k x e i =
    let T : Cells → Cells = λ (f : Cells). turned_cells b f in
    let y0 = name_stays s t (h - 1) xs ys (4 * k) x (e (4 * k) (omega arith)) i.nw in
    let y1 = name_stays s t (h - 1) xs ys (4 * k + 1) x (e (4 * k + 1) (omega arith)) i.ne in
    let y2 = name_stays s t (h - 1) xs ys (4 * k + 2) x (e (4 * k + 2) (omega arith)) i.sw in
    let y3 = name_stays s t (h - 1) xs ys (4 * k + 3) x (e (4 * k + 3) (omega arith)) i.se in
    record {
      nw = y0.stands;
      ne = y1.stands;
      sw = y2.stands;
      se = y3.stands;
      means = quartered_same (side_of (h - 1)) (side_of (h - 1)) _ _ _ _ _ _ _ _ refl (ap T y0.cells) (ap T y1.cells) (ap T y2.cells) (ap T y3.cells) ∙ i.means;
    }

-- the last names are opened, so many, and those before them are as they were
pub record AreOpened (b : Bool) (s t : Keeper) (h : ℕ) (ns xs : List ℕ) (count done : ℕ) : Type 0 where
  pub len : length xs ≡ length ns
  pub reads : ReadsQuads s t
  pub opened : (k : ℕ) → k < count → count ≤ k + done → IsOpened b s t h ns xs k
  pub rest : (k : ℕ) → k + done < count → get_or xs k 0 ≡ get_or ns k 0

pub opened_none : (b : Bool) (s : Keeper) (h : ℕ) (ns : List ℕ) (count : ℕ) → IsKeeper s → AreOpened b s s h ns ns count 0
opened_none b s h ns count i = record {
  len = refl;
  reads = reads_itself s i;
  opened = λ k l m. absurd (let x : ⊥ = omega arith in x);
  rest = λ k l. refl;
}

-- the name that comes next stands yet
pub stands_yet : (b : Bool) (r s : Keeper) (h : ℕ) (ns xs : List ℕ) (count done : ℕ) → AllStand r h ns count → done < count → AreOpened b r s h ns xs count done → QuadStands s (named h xs (count - 1 - done))
stands_yet b r s h ns xs count done stand l i =
    let k : ℕ = count - 1 - done in
    (name_stays r s h ns xs k i.reads (i.rest k (omega arith)) (stand k (omega arith))).stands

-- one name more is opened: only its own four places are written, so the names still to come and those already opened
-- are as they were
pub opened_more : (b : Bool) (r s t : Keeper) (h : ℕ) (ns xs ys : List ℕ) (count done : ℕ) → AllStand r h ns count → done < count → AreOpened b r s h ns xs count done
    → length ys ≡ length xs → IsOpened b s t h xs ys (count - 1 - done) → ((j : ℕ) → j < 4 * (count - 1 - done) → get_or ys j 0 ≡ get_or xs j 0)
    → ((j : ℕ) → 4 * (count - 1 - done) + 4 ≤ j → get_or ys j 0 ≡ get_or xs j 0) → ReadsQuads s t → AreOpened b r t h ns ys count (done + 1)
opened_more b r s t h ns xs ys count done stand l i len o lower upper reads =
    let k : ℕ = count - 1 - done in
    let inside : k < count = omega arith in
    let here : IsOpened b r t h ns ys k = (let y = name_stays r s h ns xs k i.reads (i.rest k (omega arith)) (stand k inside) in record {
      nw = o.nw;
      ne = o.ne;
      sw = o.sw;
      se = o.se;
      means = o.means ∙ ap (λ (f : Cells). turned_cells b f) y.cells;
    }) in
    record {
      len = len ∙ i.len;
      reads = reads_on r s t i.reads reads;
      opened = λ j m n. elim (at_or_over k j (omega arith)) [
        | inl e ↦ subst (λ (x : ℕ). IsOpened b r t h ns ys x) (sym e) here
        | inr g ↦ opened_stays b r s t h ns xs ys j reads (λ x y. upper x (omega arith)) (i.opened j m (omega arith))
      ];
      rest = λ j m. lower j (omega arith) ∙ i.rest j (omega arith);
    }

-- ---- blocks
pub record AreRead (b : Bool) (s t : Keeper) (h : ℕ) (ns before out : List ℕ) (done : ℕ) : Type 0 where
  pub len : length out ≡ length before
  pub reads : ReadsQuads s t
  pub read : (k : ℕ) → k < done → block_cells (get_or out k 0) ≡ turned_cells b (quad_cells s (named h ns k))

pub read_none : (b : Bool) (s : Keeper) (h : ℕ) (ns out : List ℕ) → IsKeeper s → AreRead b s s h ns out out 0
read_none b s h ns out i = record { len = refl; reads = reads_itself s i; read = λ k l. absurd (let x : ⊥ = omega arith in x) }

pub read_more : (b : Bool) (r s t : Keeper) (h : ℕ) (ns before out : List ℕ) (done word bits : ℕ) → AllStand r h ns (length before) → done < length out → AreRead b r s h ns before out done
    → ReadsQuads s t → block_cells bits ≡ quad_cells s (named h ns done) → block_cells word ≡ turned_cells b (block_cells bits) → AreRead b r t h ns before (set out done word) (done + 1)
read_more b r s t h ns before out done word bits stand l i reads e f = record {
  len = length-set out done word ∙ i.len;
  reads = reads_on r s t i.reads reads;
  read = λ k m. elim (at_or_below done k (omega arith)) [
    | inl x ↦ subst (λ (j : ℕ). block_cells (get_or (set out done word) j 0) ≡ turned_cells b (quad_cells r (named h ns j))) (sym x)
        (ap block_cells (get_or-set_same out done word 0 l) ∙ f ∙ ap (λ (g : Cells). turned_cells b g) (e ∙ quad_cells-stay 0 r s (named h ns done) i.reads.keeps (stand done (let n = i.len in omega arith))))
    | inr x ↦ ap block_cells (get_or-set_other out done k word 0 (omega arith)) ∙ i.read k x
  ];
}

-- ---- squares
pub square_none : (d : ℕ) (ws : List ℕ) (k : ℕ) → d ≡ 0 → square_cells d ws k ≡ block_cells (get_or ws k 0)
unfolding square_cells
square_none zero ws k e = refl
square_none (suc d) ws k e = absurd (omega arith)

pub square_step : (d : ℕ) (ws : List ℕ) (k : ℕ) → square_cells (suc d) ws k ≡ quartered (side d) (square_cells d ws (4 * k)) (square_cells d ws (4 * k + 1)) (square_cells d ws (4 * k + 2)) (square_cells d ws (4 * k + 3))
unfolding square_cells
square_step d ws k = refl

pub square_next : (h : ℕ) (ws : List ℕ) (k : ℕ) → bottom_height < h → square_cells (h - bottom_height) ws k
    ≡ quartered (side_of (h - 1)) (square_cells (h - 1 - bottom_height) ws (4 * k)) (square_cells (h - 1 - bottom_height) ws (4 * k + 1)) (square_cells (h - 1 - bottom_height) ws (4 * k + 2)) (square_cells (h - 1 - bottom_height) ws (4 * k + 3))
unfolding square_cells
square_next h ws k l = ap (λ (d : ℕ). square_cells d ws k) (depth_next h l)

pub spilled_level : (b : Bool) (s t : Keeper) (h : ℕ) (ns xs out : List ℕ) (count : ℕ) → bottom_height < h → ((k : ℕ) → k < count → IsOpened b s t h ns xs k)
    → ((j : ℕ) → j < 4 * count → square_cells (h - 1 - bottom_height) out j ≡ turned_cells b (quad_cells t (named (h - 1) xs j)))
    → (k : ℕ) → k < count → square_cells (h - bottom_height) out k ≡ turned_cells b (quad_cells s (named h ns k))
spilled_level b s t h ns xs out count over opened below k l =
    square_next h out k over
    ∙ quartered_same (side_of (h - 1)) (side_of (h - 1)) _ _ _ _ _ _ _ _ refl (below (4 * k) (omega arith)) (below (4 * k + 1) (omega arith)) (below (4 * k + 2) (omega arith)) (below (4 * k + 3) (omega arith))
    ∙ (opened k l).means

-- the quarters of opened names all stand: place j has one of the four quarters of name j / 4
pub all_opened : (b : Bool) (s t : Keeper) (h : ℕ) (ns xs : List ℕ) (count : ℕ) → ((k : ℕ) → k < count → IsOpened b s t h ns xs k) → AllStand t (h - 1) xs (4 * count)
all_opened b s t h ns xs count opened j l =
    let k : ℕ = j / 4 in
    let i = opened k (omega arith) in
    elim (one_of_four j) [
      | inl e ↦ subst (λ (x : ℕ). QuadStands t (named (h - 1) xs x)) (sym e) i.nw
      | inr y ↦ elim y [
        | inl e ↦ subst (λ (x : ℕ). QuadStands t (named (h - 1) xs x)) (sym e) i.ne
        | inr z ↦ elim z [
          | inl e ↦ subst (λ (x : ℕ). QuadStands t (named (h - 1) xs x)) (sym e) i.sw
          | inr e ↦ subst (λ (x : ℕ). QuadStands t (named (h - 1) xs x)) (sym e) i.se
        ]
      ]
    ]
