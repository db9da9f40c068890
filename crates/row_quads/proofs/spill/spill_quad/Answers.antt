use Rattle.std.proofs.Common.{ap, ◌∙◌}
use Rattle.rel_model.specs.Cells.{Cells, cells_union}
use Rattle.rel_model.proofs.QuadLaws.{keeps_itself, quad_stays, quad_cells-stay}
use Rattle.bit_rows.specs.Rows.{rows_cells}
use Rattle.bit_rows.specs.Places.{placed}
use Rattle.row_quads.proofs.Reading.{quarters_now}
use Rattle.row_quads.proofs.spill.spill_quad.Goals as goal

pub spill_quarters-requires-clause-stands : goal.spill_quarters-requires-clause-stands
spill_quarters-requires-clause-stands c = quad_stays 0 c.args.nodes.now c.quarters-four.new.self c.args.q c.quarters-four.ensures.reads.keeps c.requires.stands

pub spill_quarters-requires-clause-quarters : goal.spill_quarters-requires-clause-quarters
spill_quarters-requires-clause-quarters c =
    let k = c.quarters-four.ensures.reads.keeps in
    quarters_now c.args.nodes.now c.quarters-four.new.self c.quarters-four.new.self c.args.q c.quarters-four.result k (keeps_itself c.quarters-four.new.self 0 k.after) c.requires.stands c.quarters-four.ensures.quarters

pub returns-clause-cells : goal.returns-clause-cells
returns-clause-cells c =
    c.spill_quarters.ensures.cells
    ∙ ap (λ (g : Cells). cells_union (rows_cells c.args.z.now) (placed c.args.row c.args.col g)) (quad_cells-stay 0 c.args.nodes.now c.quarters-four.new.self c.args.q c.quarters-four.ensures.reads.keeps c.requires.stands)
