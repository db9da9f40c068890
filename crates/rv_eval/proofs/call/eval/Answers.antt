use Rattle.std.proofs.Common.{Ok, refl, subst}
use Rattle.rel_model.proofs.Workers.{gives_set}
use Rattle.rel_slices.specs.Thin.{value_rows, value_cols, value_of, ValueStands}
use Rattle.lang_model.specs.Eval.{evaluated}
use Rattle.rv_eval.specs.Names.{state_of}
use Rattle.rv_eval.specs.Refusing.{IsEvaluatedBy}
use Rattle.rv_eval.proofs.Wholly.{refused_evaluated, refused_alike, whole_evaluated}
use Rattle.rv_eval.proofs.call.eval.Goals as goal

pub returns-in-Err-clause-answer : goal.returns-in-Err-clause-answer
returns-in-Err-clause-answer g c =
    let a = c.args in
    let old = g.E.Core.worker a.engine.now in
    let new = g.E.Core.worker c.eval_value.new.engine in
    refused_evaluated old new a.turns (evaluated a.checked.now (state_of old a.env.now) a.expr.now a.turns) c.in-Err.refused c.in-Err.ensures.answer

pub returns-in-Err-clause-compound : goal.returns-in-Err-clause-compound
returns-in-Err-clause-compound g c h = c.in-Err.ensures.compound (refused_alike c.in-Err.refused _ h)

pub returns-in-Err-clause-memory : goal.returns-in-Err-clause-memory
returns-in-Err-clause-memory g c h = c.in-Err.ensures.memory (refused_alike c.in-Err.refused _ h)

pub returns-in-Whole-clause-answer : goal.returns-in-Whole-clause-answer
returns-in-Whole-clause-answer g c =
    let a = c.args in
    let old = g.E.Core.worker a.engine.now in
    let new = g.E.Core.worker c.eval_value.new.engine in
    let e = evaluated a.checked.now (state_of old a.env.now) a.expr.now a.turns in
    whole_evaluated old new new a.turns e _ c.in-Whole.rel (subst (λ v. IsEvaluatedBy (value_of new) old new a.turns e (Ok v)) c.in-Whole.is c.in-Ok.ensures.answer) refl

pub returns-in-Whole-clause-stands : goal.returns-in-Whole-clause-stands
returns-in-Whole-clause-stands g c = subst (λ v. ValueStands (g.E.Core.worker c.eval_value.new.engine) v) c.in-Whole.is c.in-Ok.ensures.fits.stands

pub returns-in-Ok-whole-clause-answer : goal.returns-in-Ok-whole-clause-answer
returns-in-Ok-whole-clause-answer g c =
    let a = c.args in
    let old = g.E.Core.worker a.engine.now in
    let mid = g.E.Core.worker c.eval_value.new.engine in
    let new = g.E.Core.worker c.whole.new.engine in
    let v = c.in-Ok.value in
    let e = evaluated a.checked.now (state_of old a.env.now) a.expr.now a.turns in
    whole_evaluated old mid new a.turns e v c.in-Ok-whole.rel c.in-Ok.ensures.answer (gives_set new (value_rows v) (value_cols v) (value_of mid v) c.in-Ok-whole.rel c.in-Ok-whole.ensures.value)
