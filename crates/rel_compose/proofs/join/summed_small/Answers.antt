use Rattle.std.proofs.Common.{◌∙◌, ◌≤◌, refl, sym, subst}
use Rattle.bit_rows.specs.Rows.{rows_cells}
use Rattle.rel_model.specs.Equations.{side_of}
use Rattle.rel_model.proofs.QuadLaws.{quad_stays, reads_on}
use Rattle.quad_nodes.proofs.Making.{made_as, made_after}
use Rattle.rel_compose.proofs.Joining.{joined_rows}
use Rattle.rel_compose.proofs.join.summed_small.Goals as goal

pub add_product-requires-clause-a_stands : goal.add_product-requires-clause-a_stands
add_product-requires-clause-a_stands c = quad_stays 0 c.args.nodes.now c.spill_quad.new.nodes c.args.y c.spill_quad.ensures.reads.keeps c.requires.y_stands

pub add_product-requires-clause-b_stands : goal.add_product-requires-clause-b_stands
add_product-requires-clause-b_stands c = quad_stays 0 c.args.nodes.now c.spill_quad.new.nodes c.args.z c.spill_quad.ensures.reads.keeps c.requires.z_stands

pub add_product-requires-clause-one_height : goal.add_product-requires-clause-one_height
add_product-requires-clause-one_height c = c.requires.z_height ∙ sym c.requires.y_height

pub add_product-requires-clause-small : goal.add_product-requires-clause-small
add_product-requires-clause-small c = subst (λ h. side_of h ≤ 256) (sym c.requires.y_height) c.requires.small

pub returns : goal.returns
returns c =
    let same = joined_rows c.args.nodes.now c.spill_quad.new.nodes c.args.x c.args.y c.args.z (rows_cells c.no_rows-sum.result) (rows_cells c.spill_quad.new.z) (rows_cells c.add_product.new.z)
    c.requires.y_height c.requires.z_height c.spill_quad.ensures.reads c.requires.y_stands c.requires.z_stands c.no_rows-sum.ensures.cells c.spill_quad.ensures.cells c.add_product.ensures.cells in
    let e = c.gather_quad.ensures in
    made_after (reads_on _ _ _ c.spill_quad.ensures.reads c.add_product.ensures.reads) (made_as refl same e)
