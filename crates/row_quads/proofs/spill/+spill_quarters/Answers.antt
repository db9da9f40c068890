use Rattle.std.proofs.Common.{◌<◌, ℕ, arith}
use Rattle.rel_model.proofs.QuadLaws.{keeps_on, quad_stays, quarters-stay, reads_on}
use Rattle.bit_rows.specs.Rows.{rows_cells}
use Rattle.row_quads.proofs.Placing.{quarters_fit, spilled_none, spilled_four}
use Rattle.row_quads.proofs.Reading.{AreRead, all_read, stay_read, reads_four}
use Rattle.row_quads.proofs.spill.+spill_quarters.Goals.{After-quarters-of_se}
use Rattle.row_quads.proofs.spill.+spill_quarters.Goals as goal

pub returns-then-is_empty-clause-cells : goal.returns-then-is_empty-clause-cells
returns-then-is_empty-clause-cells t c = spilled_none c.args.nodes.now c.args.q c.args.row c.args.col (rows_cells c.args.z.now) c.bottom-bottom.ensures.work c.requires.stands (c.is_empty.ensures.empty c.if-is_empty.true)

pub quarters-of_ne-requires-clause-stands : goal.quarters-of_ne-requires-clause-stands
quarters-of_ne-requires-clause-stands t c = quad_stays 0 c.args.nodes.now c.quarters-of_nw.new.self c.args.four.ne c.quarters-of_nw.ensures.reads.keeps c.requires.quarters.ne

pub quarters-of_sw-requires-clause-stands : goal.quarters-of_sw-requires-clause-stands
quarters-of_sw-requires-clause-stands t c =
    let k2 = keeps_on 0 0 c.args.nodes.now c.quarters-of_nw.new.self c.quarters-of_ne.new.self c.quarters-of_nw.ensures.reads.keeps c.quarters-of_ne.ensures.reads.keeps in
    quad_stays 0 c.args.nodes.now c.quarters-of_ne.new.self c.args.four.sw k2 c.requires.quarters.sw

pub quarters-of_se-requires-clause-stands : goal.quarters-of_se-requires-clause-stands
quarters-of_se-requires-clause-stands t c =
    let k2 = keeps_on 0 0 c.args.nodes.now c.quarters-of_nw.new.self c.quarters-of_ne.new.self c.quarters-of_nw.ensures.reads.keeps c.quarters-of_ne.ensures.reads.keeps in
    let k3 = keeps_on 0 0 c.args.nodes.now c.quarters-of_ne.new.self c.quarters-of_sw.new.self k2 c.quarters-of_sw.ensures.reads.keeps in
    quad_stays 0 c.args.nodes.now c.quarters-of_sw.new.self c.args.four.se k3 c.requires.quarters.se

known : (t : ℕ) (c : After-quarters-of_se t) → AreRead c.quarters-of_se.new.self c.args.four c.quarters-of_nw.result c.quarters-of_ne.result c.quarters-of_sw.result c.quarters-of_se.result
known t c =
    all_read c.args.nodes.now c.quarters-of_nw.new.self c.quarters-of_ne.new.self c.quarters-of_sw.new.self c.quarters-of_se.new.self c.args.q c.args.four c.quarters-of_nw.result c.quarters-of_ne.result c.quarters-of_sw.result c.quarters-of_se.result c.requires.quarters
    c.quarters-of_nw.ensures.reads.keeps c.quarters-of_ne.ensures.reads.keeps c.quarters-of_sw.ensures.reads.keeps c.quarters-of_se.ensures.reads.keeps c.quarters-of_nw.ensures.quarters c.quarters-of_ne.ensures.quarters c.quarters-of_sw.ensures.quarters c.quarters-of_se.ensures.quarters

pub spill_quarters-requires : goal.spill_quarters-requires
spill_quarters-requires t c =
    let a = c.requires.quarters in
    let e = a.nw_height in
    let falls : c.args.four.nw.height < t = omega arith in
    let f = (quarters_fit c.side_of_height-half.result c.args.row c.args.col a c.side_of_height-half.ensures c.requires.row_in c.requires.col_in c.requires.col_on).nw in
    let x0 = known t (goal.at.spill_quarters-requires t c).After-quarters-of_se in
    (falls, (x0.nw_stands, (x0.nw_quarters, (c.requires.z_len, (f.row_in, (f.col_in, f.col_on))))))

pub spill_quarters-requires-2 : goal.spill_quarters-requires-2
spill_quarters-requires-2 t c =
    let a = c.requires.quarters in
    let e = a.ne_height in
    let falls : c.args.four.ne.height < t = omega arith in
    let f = (quarters_fit c.side_of_height-half.result c.args.row c.args.col a c.side_of_height-half.ensures c.requires.row_in c.requires.col_in c.requires.col_on).ne in
    let x0 = known t (goal.at.spill_quarters-requires-2 t c).After-quarters-of_se in
    let x1 = stay_read _ _ _ _ _ _ _ c.spill_quarters.ensures.reads.keeps x0 in
    (falls, (x1.ne_stands, (x1.ne_quarters, (c.spill_quarters.ensures.len, (f.row_in, (f.col_in, f.col_on))))))

pub spill_quarters-requires-3 : goal.spill_quarters-requires-3
spill_quarters-requires-3 t c =
    let a = c.requires.quarters in
    let e = a.sw_height in
    let falls : c.args.four.sw.height < t = omega arith in
    let f = (quarters_fit c.side_of_height-half.result c.args.row c.args.col a c.side_of_height-half.ensures c.requires.row_in c.requires.col_in c.requires.col_on).sw in
    let x0 = known t (goal.at.spill_quarters-requires-3 t c).After-quarters-of_se in
    let x1 = stay_read _ _ _ _ _ _ _ c.spill_quarters.ensures.reads.keeps x0 in
    let x2 = stay_read _ _ _ _ _ _ _ c.spill_quarters-2.ensures.reads.keeps x1 in
    (falls, (x2.sw_stands, (x2.sw_quarters, (c.spill_quarters-2.ensures.len, (f.row_in, (f.col_in, f.col_on))))))

pub spill_quarters-requires-4 : goal.spill_quarters-requires-4
spill_quarters-requires-4 t c =
    let a = c.requires.quarters in
    let e = a.se_height in
    let falls : c.args.four.se.height < t = omega arith in
    let f = (quarters_fit c.side_of_height-half.result c.args.row c.args.col a c.side_of_height-half.ensures c.requires.row_in c.requires.col_in c.requires.col_on).se in
    let x0 = known t (goal.at.spill_quarters-requires-4 t c).After-quarters-of_se in
    let x1 = stay_read _ _ _ _ _ _ _ c.spill_quarters.ensures.reads.keeps x0 in
    let x2 = stay_read _ _ _ _ _ _ _ c.spill_quarters-2.ensures.reads.keeps x1 in
    let x3 = stay_read _ _ _ _ _ _ _ c.spill_quarters-3.ensures.reads.keeps x2 in
    (falls, (x3.se_stands, (x3.se_quarters, (c.spill_quarters-3.ensures.len, (f.row_in, (f.col_in, f.col_on))))))

pub returns-clause-cells : goal.returns-clause-cells
returns-clause-cells t c =
    let s0 = c.args.nodes.now in
    let k4 = (reads_four c.quarters-of_nw.ensures.reads c.quarters-of_ne.ensures.reads c.quarters-of_sw.ensures.reads c.quarters-of_se.ensures.reads).keeps in
    spilled_four s0 c.quarters-of_se.new.self c.spill_quarters.new.nodes c.spill_quarters-2.new.nodes c.spill_quarters-3.new.nodes c.args.q c.args.four c.args.row c.args.col c.side_of_height-half.result
    (rows_cells c.args.z.now) (rows_cells c.spill_quarters.new.z) (rows_cells c.spill_quarters-2.new.z) (rows_cells c.spill_quarters-3.new.z) (rows_cells c.spill_quarters-4.new.z)
    c.requires.stands c.spill_quarters.ensures.reads c.spill_quarters-2.ensures.reads c.spill_quarters-3.ensures.reads (quarters-stay 0 s0 s0 c.quarters-of_se.new.self c.args.q c.args.four k4 c.requires.quarters) c.side_of_height-half.ensures
    c.spill_quarters.ensures.cells c.spill_quarters-2.ensures.cells c.spill_quarters-3.ensures.cells c.spill_quarters-4.ensures.cells

pub returns-clause-reads : goal.returns-clause-reads
returns-clause-reads t c =
    reads_on _ _ _ (reads_four c.quarters-of_nw.ensures.reads c.quarters-of_ne.ensures.reads c.quarters-of_sw.ensures.reads c.quarters-of_se.ensures.reads)
    (reads_four c.spill_quarters.ensures.reads c.spill_quarters-2.ensures.reads c.spill_quarters-3.ensures.reads c.spill_quarters-4.ensures.reads)
