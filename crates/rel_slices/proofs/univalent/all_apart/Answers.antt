use Rattle.std.proofs.Common.{◌≡◌, ◌∙◌, ℕ, Bool, not, sym, ap, arith}
use Rattle.rel_model.specs.Cells.{some_below}
use Rattle.rel_model.proofs.Somes.{some_agree}
use Rattle.rel_slices.proofs.Univalents.{lines_meet, lines_meet-later, tried_none, tried_more, found_one, opposite}
use Rattle.rel_slices.proofs.univalent.all_apart.Given.{Over}
use Rattle.rel_slices.proofs.univalent.all_apart.Goals.{After-is_apart}
use Rattle.rel_slices.proofs.univalent.all_apart.Goals as goal

-- what the call tells of the lines before this one
told : (g : Over) (c : After-is_apart g) → some_below c.lines.j (lines_meet (g.C.Core.worker c.args.core.now) c.args.s.now c.lines.j) ≡ not c.is_apart.result
told g c =
    let o = g.C.Core.worker c.args.core.now in
    let now = g.C.Core.worker c.lines.core in
    let s = c.args.s.now in
    let j : ℕ = c.lines.j in
    let lt = c.lines-test.true in
    sym (some_agree j (lines_meet now s j) (lines_meet o s j) (λ k l. lines_meet-later o now s j k c.lines.invariant.keeps c.requires lt (omega (arith, l, lt))))
    ∙ opposite (some_below j (lines_meet now s j)) c.is_apart.result c.is_apart.ensures.value

pub lines-init : goal.lines-init
lines-init g c = tried_none _ _

pub returns-then-not-is_apart-clause-value : goal.returns-then-not-is_apart-clause-value
returns-then-not-is_apart-clause-value g c =
    let meeting : ℕ → Bool = (λ j. some_below j (lines_meet (g.C.Core.worker c.args.core.now) c.args.s.now j)) in
    found_one c.args.s.now.count meeting c.lines.j c.lines-test.true (told g (goal.at.returns-then-not-is_apart-clause-value g c).After-is_apart ∙ ap not c.if-not-is_apart.true)

pub lines-preserved : goal.lines-preserved
lines-preserved g c =
    let a = c.is_apart.ensures in
    tried_more _ (g.C.Core.worker c.lines.core) (g.C.Core.worker c.is_apart.new.core) _ c.lines.j c.lines.invariant (told g (goal.at.lines-preserved g c).After-is_apart ∙ ap not c.if-not-is_apart.false) a.keeps a.room a.misses
