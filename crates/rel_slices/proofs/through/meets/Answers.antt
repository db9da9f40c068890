use Rattle.std.proofs.Common.{◌≡◌, ◌∙◌, ℕ, refl, ap}
use Rattle.rel_model.specs.Relation.{Relation}
use Rattle.rel_model.specs.Worker.{set_of}
use Rattle.rel_slices.specs.Thin.{line_set}
use Rattle.rel_slices.specs.Ops.{met}
use Rattle.rel_slices.proofs.Putting.{puts_more, recast, stands_line, set_line, line_later}
use Rattle.rel_slices.proofs.Laying.{met_agree}
use Rattle.rel_slices.proofs.through.meets.Goals as goal

pub meet_line-requires-clause-left : goal.meet_line-requires-clause-left
meet_line-requires-clause-left g c = stands_line (g.C.Core.worker c.args.core.now) _ c.args.a.now c.lines.i _ c.lines.invariant.keeps c.requires.left c.lines-test.true c.line.ensures

pub lines-preserved : goal.lines-preserved
lines-preserved g c =
    let o = g.C.Core.worker c.args.core.now in
    let now = g.C.Core.worker c.lines.core in
    let next = g.C.Core.worker c.meet_line.new.core in
    let a = c.args.a.now in
    let b = c.args.b.now in
    let i : ℕ = c.lines.i in
    let h = c.lines.invariant in
    let ea : set_of now c.line.result ≡ line_set o a i = set_line o now a i _ h.keeps c.requires.left c.lines-test.true c.line.ensures in
    puts_more o now next _ _ _ _ _ i c.lines.made c.put.new.self c.in_ok-line.line h c.in_ok-line.ensures.keeps c.in_ok-line.ensures.cause.done c.in_ok-line.ensures.room
    (recast next 1 b.count 1 b.count _ _ c.in_ok-line.line refl refl
    (ap (λ (x : Relation). met b.count b.count b.other x (line_set now b)) ea ∙ met_agree b.count b.count b.other (line_set o a i) (line_set now b) (line_set o b) (λ k l. line_later o now b h.keeps c.requires.right k l)) c.in_ok-line.ensures.value)
    c.put.ensures.here c.put.ensures.others c.put.ensures.turned c.put.ensures.count c.put.ensures.other
