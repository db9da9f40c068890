use Rattle.std.proofs.Common.{◌≡◌, ◌∙◌, ℕ, refl, ap}
use Rattle.rel_model.specs.Relation.{Relation}
use Rattle.rel_model.specs.Operators.{compose, transpose}
use Rattle.rel_model.specs.Worker.{set_of}
use Rattle.rel_model.proofs.Workers.{keeps_set}
use Rattle.rel_slices.specs.Thin.{line_set}
use Rattle.rel_slices.proofs.Putting.{puts_more, recast, stands_line, set_line}
use Rattle.rel_slices.proofs.through.coimages.Goals as goal

pub coimage-requires-clause-right : goal.coimage-requires-clause-right
coimage-requires-clause-right g c = stands_line (g.C.Core.worker c.args.core.now) _ c.args.a.now c.lines.i _ c.lines.invariant.keeps c.requires.right c.lines-test.true c.line.ensures

pub lines-preserved : goal.lines-preserved
lines-preserved g c =
    let o = g.C.Core.worker c.args.core.now in
    let now = g.C.Core.worker c.lines.core in
    let next = g.C.Core.worker c.coimage.new.core in
    let a = c.args.a.now in
    let i : ℕ = c.lines.i in
    let h = c.lines.invariant in
    let er : set_of now c.args.r ≡ set_of o c.args.r = keeps_set o now c.args.r h.keeps c.requires.left in
    let ea : set_of now c.line.result ≡ line_set o a i = set_line o now a i _ h.keeps c.requires.right c.lines-test.true c.line.ensures in
    puts_more o now next _ _ _ _ _ i c.lines.made c.put.new.self c.in_ok-line.line h c.in_ok-line.ensures.keeps c.in_ok-line.ensures.cause.done c.in_ok-line.ensures.room
    (recast next 1 c.args.r.rows 1 c.args.r.rows _ _ c.in_ok-line.line refl refl
    (ap (λ (x : Relation). transpose (compose x (transpose (set_of now c.line.result)))) er ∙ ap (λ (x : Relation). transpose (compose (set_of o c.args.r) (transpose x))) ea) c.in_ok-line.ensures.value)
    c.put.ensures.here c.put.ensures.others c.put.ensures.turned c.put.ensures.count c.put.ensures.other
