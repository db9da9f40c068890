use Rattle.std.proofs.Common.{refl}
use Rattle.bit_rows.specs.Rows.{rows_cells}
use Rattle.quad_nodes.proofs.Making.{made_as, made_after}
use Rattle.row_quads.proofs.ByRows.{composed_alone}
use Rattle.row_quads.proofs.compose.compose_by_rows.Goals as goal

pub returns : goal.returns
returns c =
    let same = composed_alone c.args.nodes.now c.args.a c.args.b (rows_cells c.no_rows-z.result) (rows_cells c.add_product.new.z) c.requires.one_height c.no_rows-z.ensures.cells c.add_product.ensures.cells in
    made_after c.add_product.ensures.reads (made_as refl same c.gather_quad.ensures)
