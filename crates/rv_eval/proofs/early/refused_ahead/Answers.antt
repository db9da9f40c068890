use Rattle.std.proofs.Common.{◌∙◌, map}
use Rattle.lang_model.specs.declared.faults.TypeFault.TheVariants.{Unknown}
use Rattle.lang_model.specs.Eval.{early_fault}
use Rattle.rv_types.specs.Shaping.{types_of}
use Rattle.rv_eval.specs.Names.{state_of, typed_pair_of}
use Rattle.rv_eval.proofs.Lacking.{same_missing}
use Rattle.rv_eval.proofs.Ahead.{same_types, unknown_first, maybe_misfit_early, none_early, maybe_ill_ahead, halt_ahead}
use Rattle.rv_eval.proofs.early.refused_ahead.Goals as goal

pub returns-in-Some-clause-early : goal.returns-in-Some-clause-early
returns-in-Some-clause-early c w sizes stand =
    let a = c.args in
    let s = state_of w a.env.now in
    let at = c.in-Some.at in
    let name = c.in-Some.name.now in
    halt_ahead (early_fault a.checked.now s a.expr.now) (Unknown at name) c.unknown.result c.refusal.result c.refusal.ensures c.unknown.ensures
    (unknown_first a.checked.now s a.expr.now at name (same_missing w a.env.now a.expr.now stand ∙ c.in-Some.ensures))

pub returns-in-Some-static_fault-clause-early : goal.returns-in-Some-static_fault-clause-early
returns-in-Some-static_fault-clause-early c w sizes stand =
    let a = c.args in
    let s = state_of w a.env.now in
    let fault = c.in-Some-static_fault.fault in
    let none = same_missing w a.env.now a.expr.now stand ∙ c.in-None.ensures in
    maybe_ill_ahead (early_fault a.checked.now s a.expr.now) fault c.ill.result c.ill.ensures
    (maybe_misfit_early a.checked.now s a.expr.now (types_of (map typed_pair_of a.env.now)) (same_types w a.env.now sizes stand) none fault c.in-Some-static_fault.ensures)

pub returns-in-None-static_fault-clause-early : goal.returns-in-None-static_fault-clause-early
returns-in-None-static_fault-clause-early c w sizes stand =
    let a = c.args in
    let s = state_of w a.env.now in
    let none = same_missing w a.env.now a.expr.now stand ∙ c.in-None.ensures in
    let fits = c.in-None-static_fault.ensures in
    none_early a.checked.now s a.expr.now (types_of (map typed_pair_of a.env.now)) (same_types w a.env.now sizes stand) none fits.0 fits.1
