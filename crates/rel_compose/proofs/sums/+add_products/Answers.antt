use Rattle.std.proofs.Common.{◌<◌, ℕ, ◌∙◌, sym, subst, arith}
use Rattle.rel_model.specs.Trees.{bottom_height}
use Rattle.rel_model.proofs.QuadLaws.{quad_stays}
use Rattle.bit_rows.specs.Rows.{rows_cells}
use Rattle.rel_compose.proofs.Reading.{three_reads}
use Rattle.rel_compose.proofs.Summing.{Crossing, crossing_of, low_at, side_small_8, whole_added, sums_added, none_left_added, none_right_added}
use Rattle.rel_compose.proofs.sums.+add_products.Goals.{After-half_at-inner_col}
use Rattle.rel_compose.proofs.sums.+add_products.Goals as goal

-- squares of 256 rows
pub add_product-requires-clause-small : goal.add_product-requires-clause-small
add_product-requires-clause-small t c = side_small_8 c.args.a.height c.if-a-eq8.true

pub returns-then-a-eq8-clause-cells : goal.returns-then-a-eq8-clause-cells
returns-then-a-eq8-clause-cells t c = whole_added c.args.nodes.now c.args.a c.args.b c.args.row c.args.col (rows_cells c.args.z.now) (rows_cells c.add_product.new.z) c.if-a-eq8.true c.requires.one_height c.requires.row_on c.requires.col_on c.requires.row_in c.requires.col_in c.add_product.ensures.cells

-- nothing to add
pub returns-then-is_empty-clause-cells : goal.returns-then-is_empty-clause-cells
returns-then-is_empty-clause-cells t c = none_left_added c.args.nodes.now c.args.a c.args.b c.args.row c.args.col (rows_cells c.args.z.now) c.bottom.ensures.work c.requires.a_stands (c.is_empty.ensures.empty c.if-is_empty.true)

pub returns-then-is_empty-2-clause-cells : goal.returns-then-is_empty-2-clause-cells
returns-then-is_empty-2-clause-cells t c = none_right_added c.args.nodes.now c.args.a c.args.b c.args.row c.args.col (rows_cells c.args.z.now) c.bottom.ensures.work c.requires.b_stands c.requires.one_height (c.is_empty-2.ensures.empty c.if-is_empty-2.true)

-- over the blocks
pub quarters_of_both-requires-clause-a_over : goal.quarters_of_both-requires-clause-a_over
quarters_of_both-requires-clause-a_over t c = low_at c.args.a.height c.requires.tall c.if-a-eq8.false

pub quarters_of_both-requires-clause-b_over : goal.quarters_of_both-requires-clause-b_over
quarters_of_both-requires-clause-b_over t c = subst (λ h. bottom_height < h) (sym c.requires.one_height) (low_at c.args.a.height c.requires.tall c.if-a-eq8.false)

cross : (t : ℕ) (c : After-half_at-inner_col t) → Crossing c.quarters_of_both.new.self c.args.a.height c.side_of_height-half.result c.half_at-inner_row.result.0 c.half_at-inner_col.result.0 c.half_at-inner_row.result.1 c.half_at-inner_col.result.1
cross t c =
    crossing_of c.args.nodes.now c.quarters_of_both.new.self c.args.a c.args.b c.quarters_of_both.result.0 c.quarters_of_both.result.1 c.half_at-inner_row.result.0 c.half_at-inner_col.result.0 c.side_of_height-half.result c.args.row c.args.col
    c.half_at-inner_row.result.1 c.half_at-inner_col.result.1 c.requires.tall c.if-a-eq8.false c.requires.one_height c.quarters_of_both.ensures.first c.quarters_of_both.ensures.second c.side_of_height-half.ensures c.half_at-inner_row.ensures c.half_at-inner_col.ensures
    c.requires.row_on c.requires.col_on c.requires.row_in c.requires.col_in

pub add_products-requires : goal.add_products-requires
add_products-requires t c =
    let n = c.if-a-eq8.false in
    let l = c.requires.tall in
    let x = cross t (goal.at.add_products-requires t c).After-half_at-inner_col in
    let e = x.left_stands.first_height in
    let f = x.right_stands.first_height in
    (omega arith, (x.left_stands.first, (x.right_stands.first, (f ∙ sym e, (omega arith, (x.row.on, (x.col.on, (x.row_first, (x.col_first, c.requires.z_len)))))))))

pub add_products-requires-2 : goal.add_products-requires-2
add_products-requires-2 t c =
    let n = c.if-a-eq8.false in
    let l = c.requires.tall in
    let x = cross t (goal.at.add_products-requires-2 t c).After-half_at-inner_col in
    let e = x.left_stands.second_height in
    let f = x.right_stands.second_height in
    let k = c.add_products.ensures.reads.keeps in
    (omega arith, (quad_stays 0 c.quarters_of_both.new.self c.add_products.new.nodes c.half_at-inner_row.result.0.1 k x.left_stands.second, (quad_stays 0 c.quarters_of_both.new.self c.add_products.new.nodes c.half_at-inner_col.result.0.1 k x.right_stands.second, (f ∙ sym e, (omega arith, (x.row.on, (x.col.on, (x.row_second, (x.col_second, c.add_products.ensures.len)))))))))

pub returns-clause-cells : goal.returns-clause-cells
returns-clause-cells t c =
    let x = cross t (goal.at.returns-clause-cells t c).After-half_at-inner_col in
    sums_added c.args.nodes.now c.quarters_of_both.new.self c.add_products.new.nodes c.args.a c.args.b c.quarters_of_both.result.0 c.quarters_of_both.result.1 c.half_at-inner_row.result.0 c.half_at-inner_col.result.0 c.side_of_height-half.result c.args.row c.args.col c.half_at-inner_row.result.1 c.half_at-inner_col.result.1
    (rows_cells c.args.z.now) (rows_cells c.add_products.new.z) (rows_cells c.add_products-2.new.z)
    x.over c.requires.one_height c.quarters_of_both.ensures.first c.quarters_of_both.ensures.second c.side_of_height-half.ensures c.half_at-inner_row.ensures c.half_at-inner_col.ensures
    c.requires.row_on c.requires.col_on x.half_on c.add_products.ensures.reads x.left_stands x.right_stands c.add_products.ensures.cells c.add_products-2.ensures.cells

pub side_of_height-half-requires-clause-low : goal.side_of_height-half-requires-clause-low
side_of_height-half-requires-clause-low t c = let o = low_at c.args.a.height c.requires.tall c.if-a-eq8.false in omega arith

pub returns-clause-reads : goal.returns-clause-reads
returns-clause-reads t c =
    three_reads c.quarters_of_both.ensures.reads c.add_products.ensures.reads c.add_products-2.ensures.reads
