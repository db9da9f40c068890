use Rattle.std.proofs.Common.{◌∙◌, ℕ, arith}
use Rattle.rel_model.specs.Roots.{height_over}
use Rattle.rel_model.specs.Worker.{set_of}
use Rattle.rel_model.proofs.Heights.{height_over-rows, height_over-cols}
use Rattle.rel_choice.proofs.Doubles.{relation-single}
use Rattle.rel_choice.proofs.lines.unival.Goals as goal

pub returns-clause-value : goal.returns-clause-value
returns-clause-value g c =
    let w = g.Q.Core.worker c.args.q.now in
    let s = c.requires in
    let least : ℕ = g.Q.Core.least in
    let m = g.met.Q.Core.row_size c.args.q.now c.args.r s in
    let n = g.met.Q.Core.col_size c.args.q.now c.args.r s in
    let a = height_over-rows least c.args.r.rows c.args.r.cols (g.met.Q.Core.row_limit c.args.q.now c.args.r s) in
    let b = height_over-cols least c.args.r.rows c.args.r.cols (g.met.Q.Core.col_limit c.args.q.now c.args.r s) in
    c.is_single.ensures.value
    ∙ relation-single w (set_of w c.args.r) (height_over least c.args.r.rows c.args.r.cols) c.root-quad.result (g.met.Q.Core.valid c.args.q.now c.args.r s) (omega (arith, m, a)) (omega (arith, n, b)) c.root-quad.ensures
