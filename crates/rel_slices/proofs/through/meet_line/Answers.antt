use Rattle.std.proofs.Common.{◌≡◌, ◌<◌, ◌∙◌, ℕ, cond, refl, ap, subst}
use Rattle.rel_model.specs.Relation.{Relation}
use Rattle.rel_model.specs.Operators.{union, single}
use Rattle.rel_model.specs.Worker.{set_of, MakesAtMost}
use Rattle.rel_model.proofs.Workers.{gives_set, keeps_set}
use Rattle.rel_slices.specs.Thin.{line_set}
use Rattle.rel_slices.specs.Ops.{meet, met}
use Rattle.rel_slices.specs.Rooms.{meet_room}
use Rattle.rel_slices.proofs.Putting.{grows_first, grows_more, recast, stands_line, set_line}
use Rattle.rel_slices.proofs.Laying.{met_none, met_more}
use Rattle.rel_slices.proofs.through.meet_line.Goals as goal

pub lines-init : goal.lines-init
lines-init g c =
    let o = g.C.Core.worker c.args.core.now in
    let w = g.C.Core.worker c.empty.new.self in
    let b = c.args.b.now in
    grows_first o w _ 1 b.count _ c.in_ok-all.all
    (recast w 1 b.count 1 b.count _ _ c.in_ok-all.all refl refl (met_none b.count b.other (set_of o c.args.u) (line_set o b)) c.in_ok-all.ensures.value)
    c.in_ok-all.ensures.keeps c.in_ok-all.ensures.misses c.in_ok-all.ensures.room

pub meet_more-requires-clause-v_stands : goal.meet_more-requires-clause-v_stands
meet_more-requires-clause-v_stands g c = stands_line (g.C.Core.worker c.args.core.now) _ c.args.b.now c.lines.j _ c.lines.invariant.keeps c.requires.right c.lines-test.true c.line.ensures

pub lines-preserved : goal.lines-preserved
lines-preserved g c =
    let o = g.C.Core.worker c.args.core.now in
    let now = g.C.Core.worker c.lines.core in
    let next = g.C.Core.worker c.meet_more.new.core in
    let b = c.args.b.now in
    let j : ℕ = c.lines.j in
    let h = c.lines.invariant in
    let lt : j < b.count = c.lines-test.true in
    let U : Relation = set_of o c.args.u in
    let eu : set_of now c.args.u ≡ U = keeps_set o now c.args.u h.keeps c.requires.left in
    let ev : set_of now c.line.result ≡ line_set o b j = set_line o now b j _ h.keeps c.requires.right lt c.line.ensures in
    let ec : set_of now c.lines.all ≡ met j b.count b.other U (line_set o b) = gives_set now _ _ _ c.lines.all h.gives in
    let S : ℕ → Relation = λ (x : ℕ). single 1 x 0 j in
    let size = h.gives.col_size in
    let mid = c.requires.middle in
    grows_more o now next _ 1 b.count _ _ j c.lines.all c.in_ok-all-2.all h c.in_ok-all-2.ensures.keeps c.in_ok-all-2.ensures.cause.done
    (subst (λ (x : ℕ). MakesAtMost (meet_room g.C.Core.least x) now next) size c.in_ok-all-2.ensures.room)
    (recast next 1 c.lines.all.cols 1 b.count _ _ c.in_ok-all-2.all refl size
    (ap (λ (x : ℕ). cond (meet x (set_of now c.args.u) (set_of now c.line.result)) (union (S c.lines.all.cols) (set_of now c.lines.all)) (set_of now c.lines.all)) mid
    ∙ ap (λ (x : ℕ). cond (meet b.other (set_of now c.args.u) (set_of now c.line.result)) (union (S x) (set_of now c.lines.all)) (set_of now c.lines.all)) size
    ∙ ap (λ (x : Relation). cond (meet b.other x (set_of now c.line.result)) (union (S b.count) (set_of now c.lines.all)) (set_of now c.lines.all)) eu
    ∙ ap (λ (x : Relation). cond (meet b.other U x) (union (S b.count) (set_of now c.lines.all)) (set_of now c.lines.all)) ev
    ∙ ap (λ (x : Relation). cond (meet b.other U (line_set o b j)) (union (S b.count) x) x) ec
    ∙ met_more j b.count b.other U (line_set o b) lt)
    c.in_ok-all-2.ensures.value)
