use Rattle.std.proofs.Common.{◌∙◌}
use Rattle.rel_model.proofs.Workers.{keeps_trans}
use Rattle.rel_steps.proofs.Causes.{done_cause}
use Rattle.rel_closure.proofs.quarters.spread.Goals as goal

pub returns-in_err-c-clause-keeps : goal.returns-in_err-c-clause-keeps
returns-in_err-c-clause-keeps g c = keeps_trans _ _ _ c.in_ok-b.ensures.keeps c.in_err-c.ensures.keeps

pub returns-in_err-rest-clause-keeps : goal.returns-in_err-rest-clause-keeps
returns-in_err-rest-clause-keeps g c = keeps_trans _ _ _ c.in_ok-b.ensures.keeps (keeps_trans _ _ _ c.in_ok-c.ensures.keeps c.in_err-rest.ensures.keeps)

pub returns-clause-keeps : goal.returns-clause-keeps
returns-clause-keeps g c = keeps_trans _ _ _ c.in_ok-b.ensures.keeps (keeps_trans _ _ _ c.in_ok-c.ensures.keeps c.in_ok-rest.ensures.keeps)

pub returns-clause-cause : goal.returns-clause-cause
returns-clause-cause g c = done_cause _ _ _ _ (c.in_ok-rest.ensures.cause.done ∙ c.in_ok-c.ensures.cause.done ∙ c.in_ok-b.ensures.cause.done)
