use Rattle.std.proofs.Common.{◌<◌, ◌+◌, ℕ, refl, inl, inr, arith, sym, ◌∙◌}
use Rattle.rel_model.specs.Equations.{side_of}
use Rattle.rel_model.specs.Quads.{quad_cells}
use Rattle.rel_model.proofs.QuadLaws.{keeps_itself, keeps_on}
use Rattle.rel_compose.specs.Products.{composition}
use Rattle.rel_compose.proofs.Summing.{low_at, eight_in, place_fits}
use Rattle.rel_compose.proofs.FourSums.{nine_in}
use Rattle.rel_compose.proofs.FourParts.{AllMade, first_fails, second_fails, third_fails, fourth_fails, all_made, whole_made}
use Rattle.rel_compose.proofs.Joining.{IsSum, sums, four_sums, quarter_asked, made_at_height}
use Rattle.rel_compose.proofs.sums.+summed_quad.Goals.{After-quarters-four, In_ok-se}
use Rattle.rel_compose.proofs.sums.+summed_quad.Goals as goal

-- ---- each quarter
pub quarters-four-requires-clause-over : goal.quarters-four-requires-clause-over
quarters-four-requires-clause-over t c = low_at c.args.x.height c.requires.tall c.if-x-eq8.false

sum : (t : ℕ) (c : After-quarters-four t) → IsSum c.args.nodes.now c.quarters-four.new.self c.args.x c.args.a c.args.b c.quarters-four.result c.side_of_height-half.result c.args.row c.args.col
sum t c = record {
  quarters = record { stands = c.requires.x_stands; over = low_at c.args.x.height c.requires.tall c.if-x-eq8.false; four = c.quarters-four.ensures.quarters; reads = c.quarters-four.ensures.reads };
  a_stands = c.requires.a_stands;
  b_stands = c.requires.b_stands;
  one_height = c.requires.one_height;
  tall = c.requires.tall;
  taller = c.if-x-eq8.false;
  within = c.requires.within;
  half = c.side_of_height-half.ensures;
  row_on = c.requires.row_on;
  col_on = c.requires.col_on;
  row_in = c.requires.row_in;
  col_in = c.requires.col_in;
}

pub summed_quad-requires : goal.summed_quad-requires
summed_quad-requires t c =
    let s = sum t (goal.at.summed_quad-requires t c).After-quarters-four in
    let q = s.quarters.four in
    let h = q.nw_height in
    let falls : c.quarters-four.result.nw.height < t = omega arith in
    (falls, quarter_asked s c.quarters-four.result.nw q.nw h c.args.row c.args.col (inl refl) (inl refl) (keeps_itself _ 0 s.quarters.reads.keeps.after))

pub summed_quad-requires-2 : goal.summed_quad-requires-2
summed_quad-requires-2 t c =
    let s = sum t (goal.at.summed_quad-requires-2 t c).After-quarters-four in
    let q = s.quarters.four in
    let h = q.ne_height in
    let falls : c.quarters-four.result.ne.height < t = omega arith in
    (falls, quarter_asked s c.quarters-four.result.ne q.ne h c.args.row (c.args.col + c.side_of_height-half.result) (inl refl) (inr refl) (c.in_ok-nw.ensures.keeps))

pub summed_quad-requires-3 : goal.summed_quad-requires-3
summed_quad-requires-3 t c =
    let s = sum t (goal.at.summed_quad-requires-3 t c).After-quarters-four in
    let q = s.quarters.four in
    let h = q.sw_height in
    let falls : c.quarters-four.result.sw.height < t = omega arith in
    (falls, quarter_asked s c.quarters-four.result.sw q.sw h (c.args.row + c.side_of_height-half.result) c.args.col (inr refl) (inl refl) (keeps_on _ _ _ _ _ c.in_ok-nw.ensures.keeps c.in_ok-ne.ensures.keeps))

pub summed_quad-requires-4 : goal.summed_quad-requires-4
summed_quad-requires-4 t c =
    let s = sum t (goal.at.summed_quad-requires-4 t c).After-quarters-four in
    let q = s.quarters.four in
    let h = q.se_height in
    let falls : c.quarters-four.result.se.height < t = omega arith in
    (falls, quarter_asked s c.quarters-four.result.se q.se h (c.args.row + c.side_of_height-half.result) (c.args.col + c.side_of_height-half.result) (inr refl) (inr refl) (keeps_on _ _ _ _ _ (keeps_on _ _ _ _ _ c.in_ok-nw.ensures.keeps c.in_ok-ne.ensures.keeps) c.in_ok-sw.ensures.keeps))

pub returns-in_err-nw : goal.returns-in_err-nw
returns-in_err-nw t c =
    let s = sum t (goal.at.returns-in_err-nw t c).After-quarters-four in
    first_fails s.quarters.reads (four_sums s) c.from_residual.result c.from_residual.ensures.0 c.in_err-nw.ensures

pub returns-in_err-ne : goal.returns-in_err-ne
returns-in_err-ne t c =
    let s = sum t (goal.at.returns-in_err-ne t c).After-quarters-four in
    second_fails s.quarters.reads (four_sums s) c.from_residual-in_err-ne.result c.from_residual-in_err-ne.ensures.0 c.in_ok-nw.ensures c.in_err-ne.ensures

pub returns-in_err-sw : goal.returns-in_err-sw
returns-in_err-sw t c =
    let s = sum t (goal.at.returns-in_err-sw t c).After-quarters-four in
    third_fails s.quarters.reads (four_sums s) c.from_residual-in_err-sw.result c.from_residual-in_err-sw.ensures.0 c.in_ok-nw.ensures c.in_ok-ne.ensures c.in_err-sw.ensures

pub returns-in_err-se : goal.returns-in_err-se
returns-in_err-se t c =
    let s = sum t (goal.at.returns-in_err-se t c).After-quarters-four in
    fourth_fails s.quarters.reads (four_sums s) c.from_residual-in_err-se.result c.from_residual-in_err-se.ensures.0 c.in_ok-nw.ensures c.in_ok-ne.ensures c.in_ok-sw.ensures c.in_err-se.ensures

-- ---- the corner
made : (t : ℕ) (c : In_ok-se t) → IsSum c.args.nodes.now c.quarters-four.new.self c.args.x c.args.a c.args.b c.quarters-four.result c.side_of_height-half.result c.args.row c.args.col
    → AllMade (sums c.args.nodes.now c.args.x c.args.a c.args.b c.quarters-four.result c.side_of_height-half.result c.args.row c.args.col) c.in_ok-nw.nw c.in_ok-ne.ne c.in_ok-sw.sw c.in_ok-se.se
    c.quarters-four.new.self c.summed_quad-4.new.nodes
made t c s = all_made (four_sums s) c.in_ok-nw.ensures c.in_ok-ne.ensures c.in_ok-sw.ensures c.in_ok-se.ensures

pub corner-requires : goal.corner-requires
corner-requires t c =
    let at = goal.at.corner-requires t c in
    let m = (made t at.In_ok-se (sum t at.After-quarters-four)).are in
    let e = m.1.1.1.0.same_height in
    let h = c.requires.x_stands.high in
    let l = c.requires.tall in
    record {
      nw_stands = m.1.1.1.0.stands;
      ne_stands = m.1.1.0.stands;
      sw_stands = m.1.0.stands;
      se_stands = m.0.stands;
      ne_height = m.1.1.0.same_height ∙ sym e;
      sw_height = m.1.0.same_height ∙ sym e;
      se_height = m.0.same_height ∙ sym e;
      below = omega arith;
    }

pub returns : goal.returns
returns t c =
    let at = goal.at.returns t c in
    let s = sum t at.After-quarters-four in
    let e = c.corner.ensures in
    whole_made s.quarters.reads (four_sums s) (made t at.In_ok-se s) (record { value = e.value; stood = e.stood; keeps = e.keeps; counts = e.counts })

-- ---- squares of 256 rows
pub returns-then-x-eq8 : goal.returns-then-x-eq8
returns-then-x-eq8 t c = made_at_height c.args.row c.args.col (quad_cells c.args.nodes.now c.args.x) (composition c.args.nodes.now c.args.a c.args.b) (sym c.if-x-eq8.true) c.sum_at.ensures

pub sum_at-requires-clause-tall : goal.sum_at-requires-clause-tall
sum_at-requires-clause-tall t c = let e = c.if-x-eq8.true in let l = c.requires.within in omega arith

pub sum_at-requires-clause-row_in : goal.sum_at-requires-clause-row_in
sum_at-requires-clause-row_in t c = eight_in c.args.x.height c.args.row (side_of c.args.a.height) c.if-x-eq8.true c.requires.row_in

pub sum_at-requires-clause-col_in : goal.sum_at-requires-clause-col_in
sum_at-requires-clause-col_in t c = eight_in c.args.x.height c.args.col (side_of c.args.a.height) c.if-x-eq8.true c.requires.col_in

-- ---- places
pub side_of_height-half-requires-clause-low : goal.side_of_height-half-requires-clause-low
side_of_height-half-requires-clause-low t c = let o = low_at c.args.x.height c.requires.tall c.if-x-eq8.false in omega arith

pub overflow_add-col : goal.overflow_add-col
overflow_add-col t c = let p = place_fits c.args.x.height c.args.a.height c.args.col c.side_of_height-half.result (low_at c.args.x.height c.requires.tall c.if-x-eq8.false) c.requires.a_stands.low c.requires.a_stands.high c.side_of_height-half.ensures c.requires.col_in in omega arith

pub overflow_add-row : goal.overflow_add-row
overflow_add-row t c = let p = place_fits c.args.x.height c.args.a.height c.args.row c.side_of_height-half.result (low_at c.args.x.height c.requires.tall c.if-x-eq8.false) c.requires.a_stands.low c.requires.a_stands.high c.side_of_height-half.ensures c.requires.row_in in omega arith

pub overflow_add-row-2 : goal.overflow_add-row-2
overflow_add-row-2 t c = let p = place_fits c.args.x.height c.args.a.height c.args.row c.side_of_height-half.result (low_at c.args.x.height c.requires.tall c.if-x-eq8.false) c.requires.a_stands.low c.requires.a_stands.high c.side_of_height-half.ensures c.requires.row_in in omega arith

pub overflow_add-col-2 : goal.overflow_add-col-2
overflow_add-col-2 t c = let p = place_fits c.args.x.height c.args.a.height c.args.col c.side_of_height-half.result (low_at c.args.x.height c.requires.tall c.if-x-eq8.false) c.requires.a_stands.low c.requires.a_stands.high c.side_of_height-half.ensures c.requires.col_in in omega arith

-- ---- squares of 512 rows
pub returns-then-is_by_512 : goal.returns-then-is_by_512
returns-then-is_by_512 t c = made_at_height c.args.row c.args.col (quad_cells c.args.nodes.now c.args.x) (composition c.args.nodes.now c.args.a c.args.b) (sym (c.is_by_512.ensures.nine c.if-is_by_512.true)) c.four_sums_at.ensures

pub four_sums_at-requires-clause-tall : goal.four_sums_at-requires-clause-tall
four_sums_at-requires-clause-tall t c = let e = c.is_by_512.ensures.nine c.if-is_by_512.true in let l = c.requires.within in omega arith

pub four_sums_at-requires-clause-row_in : goal.four_sums_at-requires-clause-row_in
four_sums_at-requires-clause-row_in t c = nine_in c.args.x.height c.args.row (side_of c.args.a.height) (c.is_by_512.ensures.nine c.if-is_by_512.true) c.requires.row_in

pub four_sums_at-requires-clause-col_in : goal.four_sums_at-requires-clause-col_in
four_sums_at-requires-clause-col_in t c = nine_in c.args.x.height c.args.col (side_of c.args.a.height) (c.is_by_512.ensures.nine c.if-is_by_512.true) c.requires.col_in
