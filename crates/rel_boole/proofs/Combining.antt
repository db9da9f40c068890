-- One step of the recursion: what an operator makes of the quarters of two quads are the quarters of its result.
use Rattle.std.proofs.Common.{◌≡◌, ◌≢◌, ◌<◌, ◌+◌, ◌-◌, ℕ, Result, sym, ap, ◌∙◌, arith, ◌∷◌, []}
use Rattle.rel_model.specs.declared.Quad.{Quad}
use Rattle.rel_model.specs.declared.Quarters.{Quarters}
use Rattle.rel_model.specs.Cells.{Cells}
use Rattle.rel_model.specs.Trees.{bottom_height, quartered}
use Rattle.rel_model.specs.Equations.{Operator, Transpose, result_of, side_of}
use Rattle.rel_model.specs.Quads.{Keeper, quad_cells, QuadStands, IsQuad, KeepsQuads, ReadsQuads, AreQuarters, quad_room}
use Rattle.rel_model.proofs.TreeLaws.{Within}
use Rattle.rel_model.proofs.QuadLaws.{quad_stays, quad_cells-stay, quarters-stay, reads_on, rooms-next}
use Rattle.quad_nodes.specs.Making.{MakesQuad}
use Rattle.quad_nodes.proofs.Finding.{within_at, corner_cells}
use Rattle.quad_nodes.proofs.Making.{AreParts, Underway, made_at, made_after, ends, cornered}
use Rattle.rel_boole.specs.declared.boole.Boole.{Boole}
use Rattle.rel_boole.specs.declared.boole.Boole.TheVariants.{Union as UNION, Inter as INTER, Diff as DIFF}
use Rattle.rel_boole.specs.Cellwise.{cells_by, operator_for}
use Rattle.rel_boole.proofs.Cutting.{by_quarters, result_of-by}
use Rattle.rel_boole.proofs.Finding.{cells_by-within}

-- two quads of one height and their quarters, which were read first
pub record HaveQuarters (s0 s2 : Keeper) (a b : Quad) (fa fb : Quarters) : Type 0 where
  pub a_stands : QuadStands s0 a
  pub b_stands : QuadStands s0 b
  pub one_height : b.height ≡ a.height
  pub first : AreQuarters s0 s2 a fa
  pub second : AreQuarters s0 s2 b fb
  pub reads : ReadsQuads s0 s2

-- calls that only read leave them as they are
pub still_have : {s0 s2 s3 : Keeper} {a b : Quad} {fa fb : Quarters} → HaveQuarters s0 s2 a b fa fb → ReadsQuads s2 s3 → HaveQuarters s0 s3 a b fa fb
still_have {s0} {s2} {s3} {a} {b} {fa} {fb} q r = record {
  a_stands = q.a_stands;
  b_stands = q.b_stands;
  one_height = q.one_height;
  first = quarters-stay 0 s0 s2 s3 a fa r.keeps q.first;
  second = quarters-stay 0 s0 s2 s3 b fb r.keeps q.second;
  reads = reads_on _ _ _ q.reads r;
}

-- the operator's results on the quarters
abbrev pub part : Boole → Keeper → Quad → Quad → Cells
part op w a b = cells_by op (quad_cells w a) (quad_cells w b)

-- the results on the quarters are the parts of the whole result: an operator works cell by cell, so each result stays
-- within its quarter
pub are_parts : (op : Boole) {s0 s2 : Keeper} {a b : Quad} {fa fb : Quarters} → HaveQuarters s0 s2 a b fa fb
    → AreParts s2 a.height (part op s0 a b) (a.height - 1) (part op s2 fa.nw fb.nw) (part op s2 fa.ne fb.ne) (part op s2 fa.sw fb.sw) (part op s2 fa.se fb.se)
are_parts op {s0} {s2} {a} {b} {fa} {fb} q =
    let p = q.first in
    let r = q.second in
    let low = p.nw.low in
    let h0 = p.nw_height in
    let e : a.height - 1 ≡ fa.nw.height = omega arith in
    let within : (x y : Quad) → x.height + 1 ≡ a.height → y.height + 1 ≡ b.height → Within (side_of (a.height - 1)) (side_of (a.height - 1)) (part op s2 x y) =
    λ x y i j. cells_by-within op (side_of (a.height - 1)) _ _ (within_at s2 (a.height - 1) x (omega arith)) (within_at s2 (a.height - 1) y (let z = q.one_height in omega arith)) in
    record {
      work = q.reads.keeps.after;
      low = omega arith;
      next = omega arith;
      within = record {
        nw = within fa.nw fb.nw p.nw_height r.nw_height;
        ne = within fa.ne fb.ne p.ne_height r.ne_height;
        sw = within fa.sw fb.sw p.sw_height r.sw_height;
        se = within fa.se fb.se p.se_height r.se_height;
      };
      means = ap (λ (x : ℕ). quartered (side_of x) (part op s2 fa.nw fb.nw) (part op s2 fa.ne fb.ne) (part op s2 fa.sw fb.sw) (part op s2 fa.se fb.se)) e
          ∙ by_quarters op s0 s2 a b fa fb q.one_height p r;
    }

-- two quarters after calls that keep them, as the call on them asks for them
pub record StandBelow (w : Keeper) (h : ℕ) (a b : Quad) : Type 0 where
  pub a_stands : QuadStands w a
  pub b_stands : QuadStands w b
  pub height : a.height + 1 ≡ h
  pub one_height : b.height ≡ a.height

pub stand_below : {m h : ℕ} {v w : Keeper} {a b : Quad} → KeepsQuads m v w → StandBelow v h a b → StandBelow w h a b
stand_below {m} {h} {v} {w} {a} {b} k s = record { a_stands = quad_stays m v w a k s.a_stands; b_stands = quad_stays m v w b k s.b_stands; height = s.height; one_height = s.one_height }

pub nw_stand : {s0 s2 : Keeper} {a b : Quad} {fa fb : Quarters} → HaveQuarters s0 s2 a b fa fb → StandBelow s2 a.height fa.nw fb.nw
nw_stand q = let p = q.first in let r = q.second in let x = p.nw_height in let y = r.nw_height in let z = q.one_height in record { a_stands = p.nw; b_stands = r.nw; height = x; one_height = omega arith }

pub ne_stand : {s0 s2 : Keeper} {a b : Quad} {fa fb : Quarters} → HaveQuarters s0 s2 a b fa fb → StandBelow s2 a.height fa.ne fb.ne
ne_stand q = let p = q.first in let r = q.second in let x = p.ne_height in let y = r.ne_height in let z = q.one_height in record { a_stands = p.ne; b_stands = r.ne; height = x; one_height = omega arith }

pub sw_stand : {s0 s2 : Keeper} {a b : Quad} {fa fb : Quarters} → HaveQuarters s0 s2 a b fa fb → StandBelow s2 a.height fa.sw fb.sw
sw_stand q = let p = q.first in let r = q.second in let x = p.sw_height in let y = r.sw_height in let z = q.one_height in record { a_stands = p.sw; b_stands = r.sw; height = x; one_height = omega arith }

pub se_stand : {s0 s2 : Keeper} {a b : Quad} {fa fb : Quarters} → HaveQuarters s0 s2 a b fa fb → StandBelow s2 a.height fa.se fb.se
se_stand q = let p = q.first in let r = q.second in let x = p.se_height in let y = r.se_height in let z = q.one_height in record { a_stands = p.se; b_stands = r.se; height = x; one_height = omega arith }

-- the result on two quarters as it was before these calls
pub part_made : {E : Type 0} (op : Boole) {m h : ℕ} {u v w : Keeper} {a b : Quad} {r : Result Quad E} → KeepsQuads m u v → StandBelow u h a b
    → MakesQuad (quad_room a.height) a.height (part op v a b) v w r → MakesQuad (quad_room (h - 1)) (h - 1) (part op u a b) v w r
part_made op {m} {h} {u} {v} {w} {a} {b} k s x =
    let e = s.height in
    made_at (omega arith) (ap (λ (c : Cells). cells_by op c (quad_cells v b)) (quad_cells-stay m u v a k s.a_stands) ∙ ap (λ (c : Cells). cells_by op (quad_cells u a) c) (quad_cells-stay m u v b k s.b_stands)) x

-- the four results and their corner
pub whole_made : {E : Type 0} (op : Boole) {s0 s2 v w : Keeper} {a b nw ne sw se : Quad} {fa fb : Quarters} {r : Result Quad E} → HaveQuarters s0 s2 a b fa fb → bottom_height < a.height
    → Underway (0 + quad_room (a.height - 1) + quad_room (a.height - 1) + quad_room (a.height - 1) + quad_room (a.height - 1)) a.height (part op s0 a b) (a.height - 1)
    ((se, part op s2 fa.se fb.se) ∷ (sw, part op s2 fa.sw fb.sw) ∷ (ne, part op s2 fa.ne fb.ne) ∷ (nw, part op s2 fa.nw fb.nw) ∷ []) s2 v
    → MakesQuad 3 (nw.height + 1) (corner_cells v nw ne sw se) v w r → MakesQuad (quad_room a.height) a.height (part op s0 a b) s0 w r
whole_made op {a = a} q over u s = let x = rooms-next a.height over in made_after q.reads (ends (omega (arith, x)) u (cornered (are_parts op q) u s))

-- the operands after a call that keeps them
pub operands_stay : (op : Boole) {m : ℕ} {v w : Keeper} {a b : Quad} → KeepsQuads m v w → QuadStands v a → QuadStands v b → part op w a b ≡ part op v a b
operands_stay op {m} {v} {w} {a} {b} k s t = ap (λ (c : Cells). cells_by op c (quad_cells w b)) (quad_cells-stay m v w a k s) ∙ ap (λ (c : Cells). cells_by op (quad_cells v a) c) (quad_cells-stay m v w b k t)

-- the result as an equation says it
pub as_equation : {m : ℕ} (op : Boole) {o : Operator} {v w : Keeper} {a b r : Quad} → o ≡ operator_for op → KeepsQuads m v w → QuadStands v a → QuadStands v b
    → IsQuad w a.height (part op v a b) r → IsQuad w a.height (result_of o (side_of a.height) (quad_cells w a) (quad_cells w b)) r
as_equation op {o} {v} {w} {a} {b} {r} e k s t i = record {
  same_height = i.same_height;
  stands = i.stands;
  means = i.means
      ∙ sym (ap (λ (x : Operator). result_of x (side_of a.height) (quad_cells w a) (quad_cells w b)) e ∙ result_of-by op (side_of a.height) (quad_cells w a) (quad_cells w b) ∙ operands_stay op k s t);
}

-- an operator that goes cell by cell is no transposition
pub no_transposition : (op : Boole) (o : Operator) → o ≡ operator_for op → o ≢ Transpose
no_transposition UNION o e z = absurd (cc)
no_transposition INTER o e z = absurd (cc)
no_transposition DIFF o e z = absurd (cc)
