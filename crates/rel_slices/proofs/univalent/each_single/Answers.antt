use Rattle.std.proofs.Common.{◌≡◌, ◌∙◌, not, ℕ, Bool, sym, ap}
use Rattle.rel_model.specs.Choice.{is_unival}
use Rattle.rel_slices.specs.Thin.{line_set}
use Rattle.rel_slices.proofs.Putting.{set_line}
use Rattle.rel_slices.proofs.Univalents.{tried_none, tried_more, found_one}
use Rattle.rel_slices.proofs.univalent.each_single.Given.{Over}
use Rattle.rel_slices.proofs.univalent.each_single.Goals.{After-unival}
use Rattle.rel_slices.proofs.univalent.each_single.Goals as goal

-- what the call tells of this line
told : (g : Over) (c : After-unival g) → is_unival (line_set (g.E.Core.worker c.args.engine.now) c.args.s.now c.lines.i) ≡ c.unival.result
told g c =
    ap is_unival (sym (set_line (g.E.Core.worker c.args.engine.now) (g.E.Core.worker c.lines.engine) c.args.s.now c.lines.i _ c.lines.invariant.keeps c.requires c.lines-test.true c.line.ensures))
    ∙ sym c.unival.ensures.value

pub lines-init : goal.lines-init
lines-init g c = tried_none _ _

pub returns-then-not-unival-clause-value : goal.returns-then-not-unival-clause-value
returns-then-not-unival-clause-value g c =
    let two : ℕ → Bool = (λ k. not (is_unival (line_set (g.E.Core.worker c.args.engine.now) c.args.s.now k))) in
    found_one c.args.s.now.count two c.lines.i c.lines-test.true (ap not (told g (goal.at.returns-then-not-unival-clause-value g c).After-unival ∙ c.if-not-unival.true))

pub lines-preserved : goal.lines-preserved
lines-preserved g c =
    let u = c.unival.ensures in
    tried_more _ (g.E.Core.worker c.lines.engine) (g.E.Core.worker c.unival.new.self) _ c.lines.i c.lines.invariant (ap not (told g (goal.at.lines-preserved g c).After-unival ∙ c.if-not-unival.false)) u.keeps u.room u.misses
