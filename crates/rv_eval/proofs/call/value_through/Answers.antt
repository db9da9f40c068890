use Rattle.std.proofs.Common.{◌≡◌, ◌∙◌, ℕ, sym, ap, subst}
use Rattle.lang_model.specs.Mean.{meaning}
use Rattle.rv_eval.specs.Names.{state_of}
use Rattle.rv_eval.specs.Values.{state_by, AllFit, names_owe}
use Rattle.rv_eval.specs.Ends.{EndsWith}
use Rattle.rv_eval.proofs.Fitting.{state_whole, all_fit_whole, whole_owes}
use Rattle.rv_eval.proofs.call.value_through.Goals as goal

pub eval_expr-requires : goal.eval_expr-requires
eval_expr-requires g c =
    let w = g.E.Core.worker c.args.engine.now in
    let named = c.as_slice-given.ensures.value ∙ c.in-Ok.ensures in
    record { standing = subst (AllFit w) (sym named) (all_fit_whole w c.args.env.now c.requires.standing) }

pub returns-clause-ends : goal.returns-clause-ends
returns-clause-ends g c =
    let a = c.args in
    let w = g.E.Core.worker a.engine.now in
    let v = g.E.Core.worker c.eval_expr.new.engine in
    let leaf = g.E.Core.least in
    let given = c.as_slice-given.result.now in
    let named = c.as_slice-given.ensures.value ∙ c.in-Ok.ensures in
    let same : state_by w given ≡ state_of w a.env.now = ap (state_by w) named ∙ state_whole w a.env.now in
    let zero : names_owe leaf given ≡ 0 = ap (names_owe leaf) named ∙ whole_owes leaf a.env.now in
    let later = c.eval_expr.new.turns in
    subst (λ (start : ℕ). EndsWith leaf w v a.turns.now later start (meaning a.checked.now (state_of w a.env.now) a.expr.now a.turns.now) c.eval_expr.result) zero
    (subst (λ s. EndsWith leaf w v a.turns.now later (names_owe leaf given) (meaning a.checked.now s a.expr.now a.turns.now) c.eval_expr.result) same c.eval_expr.ensures.ends)
