use Rattle.std.proofs.Common.{sym, subst}
use Rattle.lang_model.specs.Eval.{Comes}
use Rattle.lang_model.specs.Mean.{meaning_of_tree}
use Rattle.rv_eval.specs.Names.{state_of}
use Rattle.rv_eval.specs.Refusing.{Evaluates}
use Rattle.rv_eval.proofs.Ahead.{calm_name, compound_unless_name}
use Rattle.rv_eval.proofs.Evaluating.{evaluates_compound}
use Rattle.rv_eval.proofs.call.calm_meaning_of.Goals as goal

pub returns-in-Ref : goal.returns-in-Ref
returns-in-Ref g c =
    let a = c.args in
    let w = g.E.Core.worker a.engine.now in
    let v = g.E.Core.worker c.meaning_of.new.engine in
    let s = state_of w a.env.now in
    let result = c.meaning_of.result in
    let calm = calm_name a.expr.now c.in-Ref.at c.in-Ref.name c.in-Ref.is in
    let least = g.E.Core.least in
    subst (λ t. Evaluates least w v a.turns a.expr.now (Comes (meaning_of_tree a.checked.now s t a.turns)) result)
    (sym calm) c.meaning_of.ensures

pub returns-in-Ok : goal.returns-in-Ok
returns-in-Ok g c =
    let a = c.args in
    let w = g.E.Core.worker a.engine.now in
    let v = g.E.Core.worker c.meaning_of-in-Ok.new.engine in
    let s = state_of w a.env.now in
    let result = c.meaning_of-in-Ok.result in
    let compound = compound_unless_name a.expr.now c.in_default.not-Ref in
    let least = g.E.Core.least in
    subst (λ t. Evaluates least w v a.turns a.expr.now (Comes (meaning_of_tree a.checked.now s t a.turns)) result)
    c.in-Ok.ensures (evaluates_compound compound c.meaning_of-in-Ok.ensures)
