use Rattle.std.proofs.Common.{◌-◌, subst}
use Rattle.rel_model.specs.Cells.{Cells}
use Rattle.rel_model.specs.Relation.{relation_of}
use Rattle.rel_model.specs.Roots.{height_over}
use Rattle.rel_model.specs.Worker.{quad_set, Gives}
use Rattle.rel_steps.proofs.Given.{gives_quad_set}
use Rattle.rel_images.specs.Lines.{bits_of, line_under, one_row}
use Rattle.rel_images.proofs.Roots.{answer_within}
use Rattle.rel_images.proofs.images.answered.Goals as goal

pub rel-requires-clause-within : goal.rel-requires-clause-within
rel-requires-clause-within g c =
    let a = c.args in
    let line = line_under g.Q.Core.least (bits_of a.ys.now) (a.height - g.Q.Core.least) 1 in
    let w = g.Q.Core.worker c.named_within.new.q in
    answer_within a.cols (quad_set w c.in-Ok.line) line (gives_quad_set w (height_over g.Q.Core.least 1 a.cols) (one_row line) c.in-Ok.line c.in-Ok.ensures.value) c.requires.narrow

pub returns-in-Ok-clause-value : goal.returns-in-Ok-clause-value
returns-in-Ok-clause-value g c =
    let a = c.args in
    let line = line_under g.Q.Core.least (bits_of a.ys.now) (a.height - g.Q.Core.least) 1 in
    let w = g.Q.Core.worker c.named_within.new.q in
    subst (λ (f : Cells). Gives w 1 a.cols (relation_of 1 a.cols f) c.rel.result) (gives_quad_set w (height_over g.Q.Core.least 1 a.cols) (one_row line) c.in-Ok.line c.in-Ok.ensures.value) c.rel.ensures
