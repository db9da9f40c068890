use Rattle.rv_eval.proofs.explaining.explain.Goals as goal

pub returns-in-Some-clause-answer : goal.returns-in-Some-clause-answer
returns-in-Some-clause-answer c w sizes stand = c.in-Some.ensures.early w sizes stand

pub returns-in-Ok-clause-answer : goal.returns-in-Ok-clause-answer
returns-in-Ok-clause-answer c w sizes stand = (c.in-None.ensures.early w sizes stand, c.in-Ok.ensures.steps)
