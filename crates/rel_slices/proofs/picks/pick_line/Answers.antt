use Rattle.std.proofs.Common.{◌≡◌, ◌<◌, ◌∙◌, ℕ, Bool, cond, refl, ap, subst}
use Rattle.rel_model.specs.Relation.{Relation, has}
use Rattle.rel_model.specs.Algebra.{HasType}
use Rattle.rel_model.specs.Operators.{union}
use Rattle.rel_model.specs.Roots.{relation_room}
use Rattle.rel_model.specs.Worker.{set_of, MakesAtMost}
use Rattle.rel_model.proofs.Workers.{gives_set, keeps_set}
use Rattle.rel_slices.specs.Thin.{line_of, line_set}
use Rattle.rel_slices.specs.Ops.{picked}
use Rattle.rel_slices.proofs.Putting.{grows_first, grows_more, recast, stands_line, set_line}
use Rattle.rel_slices.proofs.Laying.{picked_none, picked_more}
use Rattle.rel_slices.proofs.picks.pick_line.Goals as goal

pub lines-init : goal.lines-init
lines-init g c =
    let o = g.C.Core.worker c.args.core.now in
    let w = g.C.Core.worker c.empty.new.self in
    let b = c.args.lines.now in
    grows_first o w _ 1 b.other _ c.in_ok-all.all
    (recast w 1 b.other 1 b.other _ _ c.in_ok-all.all refl refl (picked_none b.other (has (set_of o c.args.small) c.args.i) (line_set o b)) c.in_ok-all.ensures.value)
    c.in_ok-all.ensures.keeps c.in_ok-all.ensures.misses c.in_ok-all.ensures.room

pub pick_more-requires-clause-line_stands : goal.pick_more-requires-clause-line_stands
pick_more-requires-clause-line_stands g c = stands_line (g.C.Core.worker c.args.core.now) _ c.args.lines.now c.lines.k _ c.lines.invariant.keeps c.requires.standing c.lines-test.true c.line.ensures

pub lines-preserved : goal.lines-preserved
lines-preserved g c =
    let laws = g.met.C.Core in
    let o = g.C.Core.worker c.args.core.now in
    let now = g.C.Core.worker c.lines.core in
    let next = g.C.Core.worker c.pick_more.new.core in
    let b = c.args.lines.now in
    let k : ℕ = c.lines.k in
    let h = c.lines.invariant in
    let lt : k < b.count = c.lines-test.true in
    let eb : set_of now c.line.result ≡ line_set o b k = set_line o now b k _ h.keeps c.requires.standing lt c.line.ensures in
    let sb = c.requires.standing.lines k lt in
    let tb : HasType 1 b.other (line_set o b k) = record { valid = laws.valid c.args.core.now (line_of b k) sb; row_size = laws.row_size c.args.core.now (line_of b k) sb; col_size = laws.col_size c.args.core.now (line_of b k) sb } in
    let test : ℕ → Bool = has (set_of o c.args.small) c.args.i in
    let es : set_of now c.args.small ≡ set_of o c.args.small = keeps_set o now c.args.small h.keeps c.requires.small_stands in
    let ec : set_of now c.lines.all ≡ picked k b.other test (line_set o b) = gives_set now _ _ _ c.lines.all h.gives in
    grows_more o now next _ 1 b.other _ _ k c.lines.all c.in_ok-all-2.all h c.in_ok-all-2.ensures.keeps c.in_ok-all-2.ensures.cause.done
    (subst (λ (x : ℕ). MakesAtMost (relation_room g.C.Core.least 1 x) now next) h.gives.col_size (subst (λ (x : ℕ). MakesAtMost (relation_room g.C.Core.least x c.lines.all.cols) now next) h.gives.row_size c.in_ok-all-2.ensures.room))
    (recast next _ _ _ _ _ _ c.in_ok-all-2.all h.gives.row_size h.gives.col_size
    (ap (λ (x : Relation). cond (has x c.args.i k) (union (set_of now c.line.result) (set_of now c.lines.all)) (set_of now c.lines.all)) es
    ∙ ap (λ (x : Relation). cond (test k) (union x (set_of now c.lines.all)) (set_of now c.lines.all)) eb
    ∙ ap (λ (x : Relation). cond (test k) (union (line_set o b k) x) x) ec
    ∙ picked_more k b.other test (line_set o b) tb)
    c.in_ok-all-2.ensures.value)
