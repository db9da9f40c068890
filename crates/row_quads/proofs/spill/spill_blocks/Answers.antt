use Rattle.bit_rows.specs.Rows.{rows_cells}
use Rattle.row_quads.proofs.Placing.{spilled_four, quarters_fit}
use Rattle.row_quads.proofs.Reading.{reads_four}
use Rattle.std.proofs.Common.{arith}
use Rattle.rel_model.proofs.QuadLaws.{quad_stays}
use Rattle.row_quads.proofs.spill.spill_blocks.Goals as goal

pub returns-clause-cells : goal.returns-clause-cells
returns-clause-cells c =
    spilled_four c.args.nodes.now c.args.nodes.now c.spill_block.new.nodes c.spill_block-2.new.nodes c.spill_block-3.new.nodes c.args.q c.args.four c.args.row c.args.col c.side_of_height-half.result
    (rows_cells c.args.z.now) (rows_cells c.spill_block.new.z) (rows_cells c.spill_block-2.new.z) (rows_cells c.spill_block-3.new.z) (rows_cells c.spill_block-4.new.z)
    c.requires.stands c.spill_block.ensures.reads c.spill_block-2.ensures.reads c.spill_block-3.ensures.reads c.requires.quarters c.side_of_height-half.ensures
    c.spill_block.ensures.cells c.spill_block-2.ensures.cells c.spill_block-3.ensures.cells c.spill_block-4.ensures.cells

pub spill_block-requires : goal.spill_block-requires
spill_block-requires c =
    let q = c.requires.quarters in
    let f = (quarters_fit c.side_of_height-half.result c.args.row c.args.col q c.side_of_height-half.ensures c.requires.row_in c.requires.col_in c.requires.col_on).nw in
    record { stands = q.nw; block = omega (arith, q.nw_height, q.nw_height, c.requires.blocks); z_len = c.requires.z_len; row_in = f.row_in; col_in = f.col_in; col_on = f.col_on }

pub spill_block-requires-2 : goal.spill_block-requires-2
spill_block-requires-2 c =
    let q = c.requires.quarters in
    let f = (quarters_fit c.side_of_height-half.result c.args.row c.args.col q c.side_of_height-half.ensures c.requires.row_in c.requires.col_in c.requires.col_on).ne in
    record { stands = quad_stays 0 _ _ _ c.spill_block.ensures.reads.keeps q.ne; block = omega (arith, q.nw_height, q.ne_height, c.requires.blocks); z_len = c.spill_block.ensures.len; row_in = f.row_in; col_in = f.col_in; col_on = f.col_on }

pub spill_block-requires-3 : goal.spill_block-requires-3
spill_block-requires-3 c =
    let q = c.requires.quarters in
    let f = (quarters_fit c.side_of_height-half.result c.args.row c.args.col q c.side_of_height-half.ensures c.requires.row_in c.requires.col_in c.requires.col_on).sw in
    record { stands = quad_stays 0 _ _ _ c.spill_block-2.ensures.reads.keeps (quad_stays 0 _ _ _ c.spill_block.ensures.reads.keeps q.sw); block = omega (arith, q.nw_height, q.sw_height, c.requires.blocks); z_len = c.spill_block-2.ensures.len; row_in = f.row_in; col_in = f.col_in; col_on = f.col_on }

pub spill_block-requires-4 : goal.spill_block-requires-4
spill_block-requires-4 c =
    let q = c.requires.quarters in
    let f = (quarters_fit c.side_of_height-half.result c.args.row c.args.col q c.side_of_height-half.ensures c.requires.row_in c.requires.col_in c.requires.col_on).se in
    record { stands = quad_stays 0 _ _ _ c.spill_block-3.ensures.reads.keeps (quad_stays 0 _ _ _ c.spill_block-2.ensures.reads.keeps (quad_stays 0 _ _ _ c.spill_block.ensures.reads.keeps q.se)); block = omega (arith, q.nw_height, q.se_height, c.requires.blocks); z_len = c.spill_block-3.ensures.len; row_in = f.row_in; col_in = f.col_in; col_on = f.col_on }

pub returns-clause-reads : goal.returns-clause-reads
returns-clause-reads c = reads_four c.spill_block.ensures.reads c.spill_block-2.ensures.reads c.spill_block-3.ensures.reads c.spill_block-4.ensures.reads
