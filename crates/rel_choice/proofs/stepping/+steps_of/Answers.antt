use Rattle.std.proofs.Common.{◌<◌, ◌-◌, ◌∙◌, refl, ℕ, arith}
use Rattle.rel_model.specs.Cells.{no_cells}
use Rattle.rel_choice.proofs.StepQuads.{steps-next}
use Rattle.rel_model.proofs.Workers.{keeps_trans}
use Rattle.rel_steps.proofs.Causes.{done_cause}
use Rattle.rel_steps.proofs.Empty.{empty_given}
use Rattle.rel_choice.proofs.stepping.+steps_of.Goals as goal

pub returns-clause-value : goal.returns-clause-value
returns-clause-value g t c =
    let u = g.Q.Core.worker c.steps_of.new.q in
    let v = g.Q.Core.worker c.corner.new.self in
    let w = g.Q.Core.worker c.corner-2.new.self in
    let h : ℕ = c.args.height in
    let n = c.if-height-bottom.false in
    let b = c.bottom.ensures in
    let low = c.requires.low in
    let high = c.requires.high in
    let over : g.Q.Core.least < h = omega (arith, n, b, low) in
    let given = empty_given u (h - 1) no_cells c.empty-none.result c.empty-none.ensures (g.met.Q.Quads.none c.steps_of.new.q (h - 1) (omega (arith, over)) (omega (arith, high))) refl in
    steps-next u v w h c.in_ok-below.below c.empty-none.result c.in_ok-whole.whole c.in_ok-carry.carry (omega (arith, over)) c.in_ok-below.ensures.value given c.in_ok-whole.ensures.keeps c.in_ok-carry.ensures.keeps c.in_ok-whole.ensures.value c.in_ok-carry.ensures.value

pub returns-in_err-whole-clause-keeps : goal.returns-in_err-whole-clause-keeps
returns-in_err-whole-clause-keeps g t c = keeps_trans _ _ _ c.in_ok-below.ensures.keeps c.in_err-whole.ensures.keeps

pub returns-in_err-carry-clause-keeps : goal.returns-in_err-carry-clause-keeps
returns-in_err-carry-clause-keeps g t c = keeps_trans _ _ _ c.in_ok-below.ensures.keeps (keeps_trans _ _ _ c.in_ok-whole.ensures.keeps c.in_err-carry.ensures.keeps)

pub returns-clause-keeps : goal.returns-clause-keeps
returns-clause-keeps g t c = keeps_trans _ _ _ c.in_ok-below.ensures.keeps (keeps_trans _ _ _ c.in_ok-whole.ensures.keeps c.in_ok-carry.ensures.keeps)

pub returns-clause-cause : goal.returns-clause-cause
returns-clause-cause g t c = done_cause _ _ _ _ (c.in_ok-carry.ensures.cause.done ∙ c.in_ok-whole.ensures.cause.done ∙ c.in_ok-below.ensures.cause.done)
