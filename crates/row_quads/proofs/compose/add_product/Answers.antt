use Rattle.rel_model.proofs.QuadLaws.{quad_stays}
use Rattle.bit_rows.specs.Rows.{rows_cells}
use Rattle.row_quads.proofs.ByRows.{product_added}
use Rattle.row_quads.proofs.compose.add_product.Goals as goal

pub spill_quad-requires-2-clause-stands : goal.spill_quad-requires-2-clause-stands
spill_quad-requires-2-clause-stands c = quad_stays 0 c.args.nodes.now c.spill_quad.new.nodes c.args.b c.spill_quad.ensures.reads.keeps c.requires.b_stands

pub returns-clause-cells : goal.returns-clause-cells
returns-clause-cells c =
    product_added c.args.nodes.now c.spill_quad.new.nodes c.args.a c.args.b _
    (rows_cells c.no_rows-x.result) (rows_cells c.spill_quad.new.z) (rows_cells c.no_rows-y.result) (rows_cells c.spill_quad-2.new.z) (rows_cells c.args.z.now) (rows_cells c.rows_compose_into.new.z)
    c.requires.small c.spill_quad-2.ensures.len c.requires.a_stands c.requires.b_stands c.requires.one_height c.spill_quad.ensures.reads
    c.no_rows-x.ensures.cells c.no_rows-y.ensures.cells
    c.spill_quad.ensures.cells c.spill_quad-2.ensures.cells c.rows_compose_into.ensures.cells
