use Rattle.std.proofs.Common.{◌∙◌, sym, ap}
use Rattle.rel_model.specs.Choice.{next_pair as next_pair_of}
use Rattle.rel_model.specs.Relation.{has}
use Rattle.rel_model.specs.Roots.{height_over}
use Rattle.rel_model.specs.Worker.{set_of, quad_set}
use Rattle.rel_steps.proofs.Given.{gives_quad_set}
use Rattle.rel_choice.proofs.Nearest.{next-first, next-behind}
use Rattle.rel_choice.proofs.walking.next_pair.Goals as goal

pub returns-in_default-clause-value : goal.returns-in_default-clause-value
returns-in_default-clause-value g c =
    let w = g.Q.Core.worker c.args.q.now in
    let r = set_of w c.args.r in
    let f = gives_quad_set w (height_over g.Q.Core.least c.args.r.rows c.args.r.cols) (has r) c.root-quad.result c.root-quad.ensures in
    let e = next-first r (quad_set w c.root-quad.result) c.pair_from.result (g.met.Q.Core.valid c.args.q.now c.args.r c.requires) f c.pair_from.ensures.value in
    e ∙ ap (next_pair_of r) (sym c.in_default.is)

pub returns-clause-value : goal.returns-clause-value
returns-clause-value g c =
    let w = g.Q.Core.worker c.args.q.now in
    let r = set_of w c.args.r in
    let f = gives_quad_set w (height_over g.Q.Core.least c.args.r.rows c.args.r.cols) (has r) c.root-quad.result c.root-quad.ensures in
    let e = next-behind r (quad_set w c.root-quad.result) c.in-Some.row c.in-Some.column c.pair_behind.result (g.met.Q.Core.valid c.args.q.now c.args.r c.requires) f c.pair_behind.ensures.value in
    e ∙ ap (next_pair_of r) (sym c.in-Some.is)
