use Rattle.std.proofs.Common.{◌∙◌}
use Rattle.rel_model.proofs.Workers.{keeps_trans}
use Rattle.rel_steps.proofs.Causes.{done_cause}
use Rattle.rel_closure.proofs.quarters.gathered.Goals as goal

pub returns-in_err-south-clause-keeps : goal.returns-in_err-south-clause-keeps
returns-in_err-south-clause-keeps g c = keeps_trans _ _ _ c.in_ok-east.ensures.keeps c.in_err-south.ensures.keeps

pub returns-in_err-north-clause-keeps : goal.returns-in_err-north-clause-keeps
returns-in_err-north-clause-keeps g c = keeps_trans _ _ _ c.in_ok-east.ensures.keeps (keeps_trans _ _ _ c.in_ok-south.ensures.keeps c.in_err-north.ensures.keeps)

pub returns-in_err-all-clause-keeps : goal.returns-in_err-all-clause-keeps
returns-in_err-all-clause-keeps g c = keeps_trans _ _ _ c.in_ok-east.ensures.keeps (keeps_trans _ _ _ c.in_ok-south.ensures.keeps (keeps_trans _ _ _ c.in_ok-north.ensures.keeps c.in_err-all.ensures.keeps))

pub returns-clause-keeps : goal.returns-clause-keeps
returns-clause-keeps g c = keeps_trans _ _ _ c.in_ok-east.ensures.keeps (keeps_trans _ _ _ c.in_ok-south.ensures.keeps (keeps_trans _ _ _ c.in_ok-north.ensures.keeps c.in_ok-all.ensures.keeps))

pub returns-clause-cause : goal.returns-clause-cause
returns-clause-cause g c = done_cause _ _ _ _ (c.in_ok-all.ensures.cause.done ∙ c.in_ok-north.ensures.cause.done ∙ c.in_ok-south.ensures.cause.done ∙ c.in_ok-east.ensures.cause.done)
