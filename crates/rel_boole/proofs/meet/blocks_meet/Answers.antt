use Rattle.std.proofs.Common.{ap, ◌∙◌, arith}
use Rattle.rel_model.specs.Cells.{Cells, block_cells, cells_inter}
use Rattle.rel_model.specs.Quads.{quad_cells}
use Rattle.rel_model.proofs.QuadLaws.{quad_cells-stay}
use Rattle.rel_boole.proofs.Meeting.{told_by_word}
use Rattle.rel_boole.proofs.meet.blocks_meet.Goals as goal

pub returns-clause-value : goal.returns-clause-value
returns-clause-value c =
    let w = c.args.nodes.now in
    let second = c.bits-second.ensures.cells ∙ quad_cells-stay 0 w c.bits-first.new.self c.args.b c.bits-first.ensures.reads.keeps c.requires.b_stands in
    told_by_word (omega (arith, c.block_by-common.type_inv))
    (c.block_by-common.ensures ∙ ap (λ (f : Cells). cells_inter f (block_cells c.bits-second.result)) c.bits-first.ensures.cells ∙ ap (λ (f : Cells). cells_inter (quad_cells w c.args.a) f) second)
