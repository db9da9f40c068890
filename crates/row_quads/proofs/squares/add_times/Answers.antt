use Rattle.std.proofs.Common.{length}
use Rattle.bit_rows.specs.Rows.{rows_cells}
use Rattle.rel_model.specs.Quads.{quad_cells}
use Rattle.row_quads.proofs.Adding.{times_none, times_added}
use Rattle.row_quads.proofs.squares.add_times.Goals as goal

pub returns-then-is_empty-clause-above : goal.returns-then-is_empty-clause-above
returns-then-is_empty-clause-above c = times_none c.args.nodes.now c.args.b (length c.args.upper.now) (rows_cells c.args.upper.now) (rows_cells c.args.north.now) c.bottom.ensures.work c.requires.stands (c.is_empty.ensures.empty c.if-is_empty.true)

pub returns-then-is_empty-clause-below : goal.returns-then-is_empty-clause-below
returns-then-is_empty-clause-below c = times_none c.args.nodes.now c.args.b (length c.args.lower.now) (rows_cells c.args.lower.now) (rows_cells c.args.south.now) c.bottom.ensures.work c.requires.stands (c.is_empty.ensures.empty c.if-is_empty.true)

pub returns-clause-above : goal.returns-clause-above
returns-clause-above c =
    times_added (length c.spill_quad.new.z) (length c.args.upper.now) (rows_cells c.args.upper.now) (rows_cells c.no_rows-y.result) (rows_cells c.spill_quad.new.z) (quad_cells c.args.nodes.now c.args.b) (rows_cells c.args.north.now) (rows_cells c.rows_compose_into.new.z)
    c.spill_quad.ensures.len c.requires.upper_len c.no_rows-y.ensures.cells c.spill_quad.ensures.cells c.rows_compose_into.ensures.cells

pub returns-clause-below : goal.returns-clause-below
returns-clause-below c =
    times_added (length c.spill_quad.new.z) (length c.args.lower.now) (rows_cells c.args.lower.now) (rows_cells c.no_rows-y.result) (rows_cells c.spill_quad.new.z) (quad_cells c.args.nodes.now c.args.b) (rows_cells c.args.south.now) (rows_cells c.rows_compose_into-2.new.z)
    c.spill_quad.ensures.len c.requires.lower_len c.no_rows-y.ensures.cells c.spill_quad.ensures.cells c.rows_compose_into-2.ensures.cells
