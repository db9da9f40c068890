use Rattle.std.proofs.Common.{◌≡◌, ◌<◌, ◌∙◌, ℕ, subst, ap, arith}
use Rattle.rel_model.specs.Relation.{Relation}
use Rattle.rel_model.specs.declared.Rel.{Rel}
use Rattle.rel_model.specs.Roots.{relation_room}
use Rattle.rel_model.specs.Worker.{set_of, MakesAtMost}
use Rattle.rel_slices.specs.Thin.{line_set}
use Rattle.rel_slices.specs.Ops.{boole_of}
use Rattle.rel_slices.proofs.Putting.{puts_more, recast, stands_line, set_line}
use Rattle.rel_slices.proofs.lines.each.Goals as goal

pub one-requires-clause-left : goal.one-requires-clause-left
one-requires-clause-left g c = stands_line (g.C.Core.worker c.args.core.now) _ c.args.a.now c.lines.i _ c.lines.invariant.keeps c.requires.left c.lines-test.true c.line.ensures

pub one-requires-clause-right : goal.one-requires-clause-right
one-requires-clause-right g c =
    let t = c.lines-test.true in
    stands_line (g.C.Core.worker c.args.core.now) _ c.args.b.now c.lines.i _ c.lines.invariant.keeps c.requires.right (let e = c.requires.counts in omega (arith, t, e)) c.line-in-lines.ensures

pub lines-preserved : goal.lines-preserved
lines-preserved g c =
    let old = g.C.Core.worker c.args.core.now in
    let now = g.C.Core.worker c.lines.core in
    let next = g.C.Core.worker c.one.new.core in
    let i : ℕ = c.lines.i in
    let k = c.lines.invariant.keeps in
    let lt : i < c.args.a.now.count = c.lines-test.true in
    let ls : i < c.args.b.now.count = (let e = c.requires.counts in omega (arith, lt, e)) in
    let ea : set_of now c.line.result ≡ line_set old c.args.a.now i = set_line old now c.args.a.now i _ k c.requires.left lt c.line.ensures in
    let eb : set_of now c.line-in-lines.result ≡ line_set old c.args.b.now i = set_line old now c.args.b.now i _ k c.requires.right ls c.line-in-lines.ensures in
    puts_more old now next _ _ _ _ _ i c.lines.made c.put.new.self c.in_ok-line.line c.lines.invariant c.in_ok-line.ensures.keeps c.in_ok-line.ensures.cause.done
    (subst (λ (r : Rel). MakesAtMost (relation_room g.C.Core.least r.rows r.cols) now next) c.line.ensures c.in_ok-line.ensures.room)
    (recast next _ _ _ _ _ _ c.in_ok-line.line (ap (λ (r : Rel). r.rows) c.line.ensures) (ap (λ (r : Rel). r.cols) c.line.ensures)
    (ap (λ (x : Relation). boole_of c.args.op x (set_of now c.line-in-lines.result)) ea ∙ ap (λ (y : Relation). boole_of c.args.op (line_set old c.args.a.now i) y) eb) c.in_ok-line.ensures.value)
    c.put.ensures.here c.put.ensures.others c.put.ensures.turned c.put.ensures.count c.put.ensures.other
