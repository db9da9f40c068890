use Rattle.std.proofs.Common.{◌≡◌, ◌<◌, ◌∙◌, ℕ, refl, ap, subst, arith}
use Rattle.rel_model.specs.declared.Rel.{Rel}
use Rattle.rel_model.specs.Relation.{Relation}
use Rattle.rel_model.specs.Algebra.{HasType}
use Rattle.rel_model.specs.Operators.{union, compose, transpose}
use Rattle.rel_model.specs.Worker.{set_of, MakesAtMost}
use Rattle.rel_model.proofs.Workers.{gives_set}
use Rattle.rel_slices.specs.Thin.{line_of, line_set}
use Rattle.rel_slices.specs.Ops.{outer_union}
use Rattle.rel_slices.specs.Rooms.{outer_room}
use Rattle.rel_slices.proofs.Putting.{grows_first, grows_more, recast, stands_line, set_line}
use Rattle.rel_slices.proofs.Laying.{outer_none, outer_more}
use Rattle.rel_slices.proofs.outer.outers.Goals as goal

pub lines-init : goal.lines-init
lines-init g c =
    let o = g.C.Core.worker c.args.core.now in
    let w = g.C.Core.worker c.empty.new.self in
    let a = c.args.a.now in
    let b = c.args.b.now in
    grows_first o w _ a.other b.other _ c.in_ok-all.all
    (recast w a.other b.other a.other b.other _ _ c.in_ok-all.all refl refl (outer_none a.other b.other (line_set o a) (line_set o b)) c.in_ok-all.ensures.value)
    c.in_ok-all.ensures.keeps c.in_ok-all.ensures.misses c.in_ok-all.ensures.room

pub outer_more-requires-clause-u_stands : goal.outer_more-requires-clause-u_stands
outer_more-requires-clause-u_stands g c = stands_line (g.C.Core.worker c.args.core.now) _ c.args.a.now c.lines.k _ c.lines.invariant.keeps c.requires.left c.lines-test.true c.line.ensures

pub outer_more-requires-clause-v_stands : goal.outer_more-requires-clause-v_stands
outer_more-requires-clause-v_stands g c =
    let t = c.lines-test.true in
    stands_line (g.C.Core.worker c.args.core.now) _ c.args.b.now c.lines.k _ c.lines.invariant.keeps c.requires.right (let e = c.requires.counts in omega (arith, t, e)) c.line-in-lines.ensures

pub lines-preserved : goal.lines-preserved
lines-preserved g c =
    let laws = g.met.C.Core in
    let o = g.C.Core.worker c.args.core.now in
    let now = g.C.Core.worker c.lines.core in
    let next = g.C.Core.worker c.outer_more.new.core in
    let a = c.args.a.now in
    let b = c.args.b.now in
    let k : ℕ = c.lines.k in
    let h = c.lines.invariant in
    let lt : k < a.count = c.lines-test.true in
    let ls : k < b.count = (let e = c.requires.counts in omega (arith, lt, e)) in
    let ea : set_of now c.line.result ≡ line_set o a k = set_line o now a k _ h.keeps c.requires.left lt c.line.ensures in
    let eb : set_of now c.line-in-lines.result ≡ line_set o b k = set_line o now b k _ h.keeps c.requires.right ls c.line-in-lines.ensures in
    let sa = c.requires.left.lines k lt in
    let sb = c.requires.right.lines k ls in
    let ta : HasType 1 a.other (line_set o a k) = record { valid = laws.valid c.args.core.now (line_of a k) sa; row_size = laws.row_size c.args.core.now (line_of a k) sa; col_size = laws.col_size c.args.core.now (line_of a k) sa } in
    let tb : HasType 1 b.other (line_set o b k) = record { valid = laws.valid c.args.core.now (line_of b k) sb; row_size = laws.row_size c.args.core.now (line_of b k) sb; col_size = laws.col_size c.args.core.now (line_of b k) sb } in
    let ec : set_of now c.lines.all ≡ outer_union k a.other b.other (line_set o a) (line_set o b) = gives_set now _ _ _ c.lines.all h.gives in
    let cu : c.line.result.cols ≡ a.other = ap (λ (r : Rel). r.cols) c.line.ensures in
    let cv : c.line-in-lines.result.cols ≡ b.other = ap (λ (r : Rel). r.cols) c.line-in-lines.ensures in
    grows_more o now next _ a.other b.other _ _ k c.lines.all c.in_ok-all-2.all h c.in_ok-all-2.ensures.keeps c.in_ok-all-2.ensures.cause.done
    (subst (λ (x : ℕ). MakesAtMost (outer_room g.C.Core.least x b.other) now next) cu (subst (λ (x : ℕ). MakesAtMost (outer_room g.C.Core.least c.line.result.cols x) now next) cv c.in_ok-all-2.ensures.room))
    (recast next _ _ _ _ _ _ c.in_ok-all-2.all cu cv
    (ap (λ (x : Relation). union (compose (transpose x) (set_of now c.line-in-lines.result)) (set_of now c.lines.all)) ea
    ∙ ap (λ (x : Relation). union (compose (transpose (line_set o a k)) x) (set_of now c.lines.all)) eb
    ∙ ap (union (compose (transpose (line_set o a k)) (line_set o b k))) ec
    ∙ outer_more k a.other b.other (line_set o a) (line_set o b) ta tb)
    c.in_ok-all-2.ensures.value)
