use Rattle.std.proofs.Common.{refl, sym, subst}
use Rattle.lang_model.proofs.Stepping.{calm_means_the_same}
use Rattle.rv_eval.specs.Names.{HasSizes, state_of}
use Rattle.rv_eval.specs.Refusing.{Evaluates}
use Rattle.rv_eval.proofs.Ahead.{calm_evaluated, fits_unless_early, are_relations}
use Rattle.rv_eval.proofs.Evaluating.{evaluates_same, ahead_evaluates}
use Rattle.rv_eval.proofs.call.eval_value.Given.{Over}
use Rattle.rv_eval.proofs.call.eval_value.Goals as goal

-- the relations of the engine have their sizes
sized : (g : Over) (engine : _) → HasSizes (g.E.Core.worker engine)
sized g engine = record { rows = g.met.E.Core.row_size engine; cols = g.met.E.Core.col_size engine }

pub returns-in-Some : goal.returns-in-Some
returns-in-Some g c =
    let w = g.E.Core.worker c.args.engine.now in
    let early = c.in-Some.ensures.early w (sized g c.args.engine.now) c.requires.standing in
    ahead_evaluates c.args.checked.now _ c.args.expr.now c.in-Some.refused early c.in-Some.ensures.memory

pub returns-in-None : goal.returns-in-None
returns-in-None g c =
    let a = c.args in
    let w = g.E.Core.worker a.engine.now in
    let v = g.E.Core.worker c.calm_meaning_of.new.engine in
    let s = state_of w a.env.now in
    let none = c.in-None.ensures.early w (sized g a.engine.now) c.requires.standing in
    let fits = fits_unless_early a.checked.now s a.expr.now none in
    let relations = are_relations w a.env.now (g.met.E.Core.valid a.engine.now) c.requires.standing in
    let same = calm_means_the_same.meaning a.checked.now s a.expr.now fits.0 a.turns relations fits.1 in
    subst (λ e. Evaluates g.E.Core.least w v a.turns a.expr.now e c.calm_meaning_of.result)
    (sym (calm_evaluated a.checked.now s a.expr.now a.turns none)) (evaluates_same same refl c.calm_meaning_of.ensures)
