use Rattle.rv_eval.proofs.Evaluating.{value_evaluates, halt_evaluates}
use Rattle.rv_eval.proofs.call.meaning_of.Goals as goal

pub returns-in-Ok : goal.returns-in-Ok
returns-in-Ok g c =
    let e = c.in-Ok.ensures in
    value_evaluates e.ends e.lines e.fits

pub returns-in-Err : goal.returns-in-Err
returns-in-Err g c = halt_evaluates c.refusal.ensures c.in-Err.ensures.ends c.in-Err.ensures.compound
