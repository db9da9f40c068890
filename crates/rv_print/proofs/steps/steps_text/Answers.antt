use Rattle.std.proofs.Common.{◌++◌, ◌∙◌, ap, sym, length, take, append_assoc}
use Rattle.std.proofs.lemmas.List.{take_all}
use Rattle.run_model.specs.Page.{step_text}
use Rattle.rv_rewrite.specs.Steps.{step_of}
use Rattle.rv_print.proofs.Explained.{first_line, lines, lines_more, whole_text}
use Rattle.rv_print.proofs.steps.steps_text.Goals as goal

pub steps-preserved : goal.steps-preserved
steps-preserved c =
    let steps = c.args.steps.now in
    let k = c.steps.step-index in
    let x = c.step-item.result in
    c.in_ok-push_step.ensures ∙ ap (λ ys. ys ++ step_text (step_of x)) c.steps.invariant
    ∙ append_assoc (first_line (length steps)) (lines (take k steps)) (step_text (step_of x))
    ∙ ap (λ ys. first_line (length steps) ++ ys) (sym (lines_more steps k x c.steps-test.true c.step-item.is))

pub returns : goal.returns
returns c =
    let steps = c.args.steps.now in
    c.steps.invariant ∙ ap (λ xs. first_line (length steps) ++ lines xs) (take_all c.steps.step-index steps c.steps-test.false) ∙ whole_text steps
