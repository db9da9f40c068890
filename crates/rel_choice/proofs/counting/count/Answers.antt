use Rattle.std.proofs.Common.{◌≡◌, ◌<◌, ℕ, length, subst, arith}
use Rattle.std.specs.Prelude.{IfOk, OnErr}
use Rattle.rel_model.specs.Relation.{has}
use Rattle.rel_model.specs.Roots.{height_over}
use Rattle.rel_model.specs.Worker.{set_of}
use Rattle.rel_model.proofs.Heights.{height_over-rows, height_over-cols}
use Rattle.rel_choice.proofs.QuadCounts.{relation-count, empty-name, refused-some}
use Rattle.rel_steps.proofs.Given.{gives_has}
use Rattle.rel_choice.proofs.counting.count.Goals as goal

pub returns-clause-value : goal.returns-clause-value
returns-clause-value g c =
    let w = g.Q.Core.worker c.args.q.now in
    let s = c.requires in
    let least : ℕ = g.Q.Core.least in
    let m = g.met.Q.Core.row_size c.args.q.now c.args.r s in
    let n = g.met.Q.Core.col_size c.args.q.now c.args.r s in
    let a = height_over-rows least c.args.r.rows c.args.r.cols (g.met.Q.Core.row_limit c.args.q.now c.args.r s) in
    let b = height_over-cols least c.args.r.rows c.args.r.cols (g.met.Q.Core.col_limit c.args.q.now c.args.r s) in
    let e = relation-count w (set_of w c.args.r) (height_over least c.args.r.rows c.args.r.cols) c.root-quad.result (g.met.Q.Core.valid c.args.q.now c.args.r s) (omega (arith, m, a)) (omega (arith, n, b)) c.root-quad.ensures in
    subst (λ (z : ℕ). IfOk c.counted.result (λ (x : ℕ). x ≡ z)) e c.counted.ensures.value

pub returns-clause-some : goal.returns-clause-some
returns-clause-some g c =
    let w = g.Q.Core.worker c.args.q.now in
    let quad = c.root-quad.result in
    let r = set_of w c.args.r in
    let least : ℕ = g.Q.Core.least in
    let h : ℕ = height_over least c.args.r.rows c.args.r.cols in
    let s = gives_has w h (has r) quad c.root-quad.ensures in
    let low = g.met.Q.Quads.low_height c.args.q.now quad s in
    let high = g.met.Q.Quads.high_height c.args.q.now quad s in
    refused-some c.counted.result (length r.pairs) quad.name
    (λ e. empty-name w r h quad e c.root-quad.ensures (g.met.Q.Quads.none c.args.q.now quad.height low high) (g.met.Q.Quads.one_name c.args.q.now quad (record { height = quad.height; name = 0 })))
    c.counted.ensures.some

pub returns-clause-over : goal.returns-clause-over
returns-clause-over g c =
    let least : ℕ = g.Q.Core.least in
    subst (λ (h : ℕ). OnErr c.counted.result (least < h)) c.root-quad.ensures.same_height c.counted.ensures.over
