use Rattle.std.proofs.Common.{◌<◌, ℕ, ◌∙◌, sym, subst, arith}
use Rattle.rel_model.specs.Trees.{bottom_height}
use Rattle.rel_model.proofs.QuadLaws.{quad_stays}
use Rattle.rel_compose.proofs.Reading.{three_reads}
use Rattle.rel_compose.proofs.Summing.{side_small_8}
use Rattle.rel_compose.proofs.FourSums.{nine_low, FourCrossing, four_crossing_of, four_sums_added, four_products_added, four_none_left, four_none_right}
use Rattle.rel_compose.proofs.sums.+add_to_squares.Goals.{After-half_at-inner_col}
use Rattle.rel_compose.proofs.sums.+add_to_squares.Goals as goal

-- nothing to add
pub returns-then-is_empty-clause-cells : goal.returns-then-is_empty-clause-cells
returns-then-is_empty-clause-cells t c = four_none_left c.args.nodes.now c.args.a c.args.b c.args.row c.args.col c.args.z.now c.bottom.ensures.work c.requires.a_stands (c.is_empty.ensures.empty c.if-is_empty.true)

pub returns-then-is_empty-2-clause-cells : goal.returns-then-is_empty-2-clause-cells
returns-then-is_empty-2-clause-cells t c = four_none_right c.args.nodes.now c.args.a c.args.b c.args.row c.args.col c.args.z.now c.bottom.ensures.work c.requires.b_stands c.requires.one_height (c.is_empty-2.ensures.empty c.if-is_empty-2.true)

-- quarters
pub quarters_of_both-requires-clause-a_over : goal.quarters_of_both-requires-clause-a_over
quarters_of_both-requires-clause-a_over t c = nine_low c.args.a.height c.requires.tall

pub quarters_of_both-requires-clause-b_over : goal.quarters_of_both-requires-clause-b_over
quarters_of_both-requires-clause-b_over t c = subst (λ h. bottom_height < h) (sym c.requires.one_height) (nine_low c.args.a.height c.requires.tall)

-- squares of 512 rows
pub add_four_products-requires-clause-stand : goal.add_four_products-requires-clause-stand
add_four_products-requires-clause-stand t c =
    let p = c.quarters_of_both.ensures.first in
    let q = c.quarters_of_both.ensures.second in
    let h = c.requires.one_height in
    let a0 = p.nw_height in
    let a2 = p.sw_height in
    let b0 = q.nw_height in
    let b1 = q.ne_height in
    record { upper = p.nw; lower = p.sw; west = q.nw; east = q.ne; lower_height = omega arith; west_height = omega arith; east_height = omega arith }

pub add_four_products-requires-clause-small : goal.add_four_products-requires-clause-small
add_four_products-requires-clause-small t c = let e = c.if-a-eq9.true in let x = c.quarters_of_both.ensures.first.nw_height in side_small_8 c.quarters_of_both.result.0.nw.height (omega arith)

pub add_four_products-requires-then-a-eq9-clause-stand : goal.add_four_products-requires-then-a-eq9-clause-stand
add_four_products-requires-then-a-eq9-clause-stand t c =
    let p = c.quarters_of_both.ensures.first in
    let q = c.quarters_of_both.ensures.second in
    let h = c.requires.one_height in
    let a1 = p.ne_height in
    let a3 = p.se_height in
    let b2 = q.sw_height in
    let b3 = q.se_height in
    let s1 = c.quarters_of_both.new.self in
    let s2 = c.add_four_products.new.nodes in
    let k = c.add_four_products.ensures.reads.keeps in
    record {
      upper = quad_stays 0 s1 s2 c.quarters_of_both.result.0.ne k p.ne;
      lower = quad_stays 0 s1 s2 c.quarters_of_both.result.0.se k p.se;
      west = quad_stays 0 s1 s2 c.quarters_of_both.result.1.sw k q.sw;
      east = quad_stays 0 s1 s2 c.quarters_of_both.result.1.se k q.se;
      lower_height = omega arith;
      west_height = omega arith;
      east_height = omega arith;
    }

pub add_four_products-requires-then-a-eq9-clause-small : goal.add_four_products-requires-then-a-eq9-clause-small
add_four_products-requires-then-a-eq9-clause-small t c = let e = c.if-a-eq9.true in let x = c.quarters_of_both.ensures.first.ne_height in side_small_8 c.quarters_of_both.result.0.ne.height (omega arith)

pub returns-then-a-eq9-clause-cells : goal.returns-then-a-eq9-clause-cells
returns-then-a-eq9-clause-cells t c =
    four_products_added c.args.nodes.now c.quarters_of_both.new.self c.add_four_products.new.nodes c.args.a c.args.b c.quarters_of_both.result.0 c.quarters_of_both.result.1 c.args.row c.args.col c.args.z.now c.add_four_products.new.z c.add_four_products-then-a-eq9.new.z
    c.if-a-eq9.true c.requires.one_height c.quarters_of_both.ensures.first c.quarters_of_both.ensures.second c.requires.row_on c.requires.col_on c.requires.row_in c.requires.col_in c.add_four_products.ensures.reads c.add_four_products.ensures.cells c.add_four_products-then-a-eq9.ensures.cells

-- larger squares
pub side_of_height-half-requires-clause-low : goal.side_of_height-half-requires-clause-low
side_of_height-half-requires-clause-low t c = let o = nine_low c.args.a.height c.requires.tall in omega arith

cross : (t : ℕ) (c : After-half_at-inner_col t) → FourCrossing c.quarters_of_both.new.self c.args.a.height c.side_of_height-half.result c.half_at-inner_row.result.0 c.half_at-inner_col.result.0 c.half_at-inner_row.result.1 c.half_at-inner_col.result.1
cross t c =
    four_crossing_of c.args.nodes.now c.quarters_of_both.new.self c.args.a c.args.b c.quarters_of_both.result.0 c.quarters_of_both.result.1 c.half_at-inner_row.result.0 c.half_at-inner_col.result.0 c.side_of_height-half.result c.args.row c.args.col
    c.half_at-inner_row.result.1 c.half_at-inner_col.result.1 c.requires.tall c.if-a-eq9.false c.requires.one_height c.quarters_of_both.ensures.first c.quarters_of_both.ensures.second c.side_of_height-half.ensures c.half_at-inner_row.ensures c.half_at-inner_col.ensures
    c.requires.row_on c.requires.col_on c.requires.row_in c.requires.col_in

pub add_to_squares-requires : goal.add_to_squares-requires
add_to_squares-requires t c =
    let n = c.if-a-eq9.false in
    let l = c.requires.tall in
    let y = cross t (goal.at.add_to_squares-requires t c).After-half_at-inner_col in
    let x = y.one in
    let e = x.left_stands.first_height in
    let f = x.right_stands.first_height in
    (omega arith, (x.left_stands.first, (x.right_stands.first, (f ∙ sym e, (omega arith, (y.row_on, (y.col_on, (x.row_first, (x.col_first, c.requires.z_whole)))))))))

pub add_to_squares-requires-2 : goal.add_to_squares-requires-2
add_to_squares-requires-2 t c =
    let n = c.if-a-eq9.false in
    let l = c.requires.tall in
    let y = cross t (goal.at.add_to_squares-requires-2 t c).After-half_at-inner_col in
    let x = y.one in
    let e = x.left_stands.second_height in
    let f = x.right_stands.second_height in
    let k = c.add_to_squares.ensures.reads.keeps in
    (omega arith, (quad_stays 0 c.quarters_of_both.new.self c.add_to_squares.new.nodes c.half_at-inner_row.result.0.1 k x.left_stands.second, (quad_stays 0 c.quarters_of_both.new.self c.add_to_squares.new.nodes c.half_at-inner_col.result.0.1 k x.right_stands.second, (f ∙ sym e, (omega arith, (y.row_on, (y.col_on, (x.row_second, (x.col_second, c.add_to_squares.ensures.whole)))))))))

pub returns-clause-cells : goal.returns-clause-cells
returns-clause-cells t c =
    let y = cross t (goal.at.returns-clause-cells t c).After-half_at-inner_col in
    four_sums_added c.args.nodes.now c.quarters_of_both.new.self c.add_to_squares.new.nodes c.args.a c.args.b c.quarters_of_both.result.0 c.quarters_of_both.result.1 c.half_at-inner_row.result.0 c.half_at-inner_col.result.0 c.side_of_height-half.result c.args.row c.args.col c.half_at-inner_row.result.1 c.half_at-inner_col.result.1
    c.args.z.now c.add_to_squares.new.z c.add_to_squares-2.new.z
    c.requires.one_height c.quarters_of_both.ensures.first c.quarters_of_both.ensures.second c.side_of_height-half.ensures c.half_at-inner_row.ensures c.half_at-inner_col.ensures
    c.requires.row_on c.requires.col_on c.add_to_squares.ensures.reads y c.add_to_squares.ensures.cells c.add_to_squares-2.ensures.cells

pub returns-then-a-eq9-clause-reads : goal.returns-then-a-eq9-clause-reads
returns-then-a-eq9-clause-reads t c =
    three_reads c.quarters_of_both.ensures.reads c.add_four_products.ensures.reads c.add_four_products-then-a-eq9.ensures.reads

pub returns-clause-reads : goal.returns-clause-reads
returns-clause-reads t c =
    three_reads c.quarters_of_both.ensures.reads c.add_to_squares.ensures.reads c.add_to_squares-2.ensures.reads
