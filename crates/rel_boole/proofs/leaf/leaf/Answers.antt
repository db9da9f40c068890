use Rattle.std.proofs.Common.{refl, ap, ◌∙◌}
use Rattle.rel_model.specs.Cells.{Cells, block_cells}
use Rattle.rel_model.specs.Quads.{quad_cells}
use Rattle.rel_model.proofs.QuadLaws.{quad_cells-stay, reads_on}
use Rattle.quad_nodes.proofs.Making.{made_as, made_after}
use Rattle.rel_boole.specs.Cellwise.{cells_by}
use Rattle.rel_boole.proofs.leaf.leaf.Goals as goal

pub returns : goal.returns
returns c =
    let op = c.args.op in
    let w = c.args.nodes.now in
    let e = c.block.ensures in
    let k = reads_on _ _ _ c.bits-first.ensures.reads c.bits-second.ensures.reads in
    let second = c.bits-second.ensures.cells ∙ quad_cells-stay 0 w c.bits-first.new.self c.args.b c.bits-first.ensures.reads.keeps c.requires.b_stands in
    made_after k (made_as refl (c.block_by.ensures ∙ ap (λ (f : Cells). cells_by op f (block_cells c.bits-second.result)) c.bits-first.ensures.cells ∙ ap (λ (f : Cells). cells_by op (quad_cells w c.args.a) f) second)
    (record { value = e.value; stood = e.stood; keeps = e.keeps; counts = e.counts }))
