use Rattle.std.proofs.Common.{length, refl, subst}
use Rattle.rel_slices.specs.Thin.{value_of}
use Rattle.run_model.specs.Due.{listed}
use Rattle.run_model.specs.declared.outcome.Unit.TheVariants.{Pairs}
use Rattle.run_model.specs.Limits.{list_limit}
use Rattle.rv_print.specs.Refusals.{IsOver}
use Rattle.rv_sessions.proofs.Shown.{print_due}
use Rattle.rv_sessions.proofs.value.unlisted.Goals as goal

pub count-requires : goal.count-requires
count-requires g c = c.requires.stands

pub returns-in-Err-may_list-clause-shown : goal.returns-in-Err-may_list-clause-shown
returns-in-Err-may_list-clause-shown g c =
    let r = value_of (g.E.Core.worker c.args.engine.now) c.args.value.now in
    print_due list_limit (length r.pairs) Pairs r (listed r) c.print_outcome.result c.in-Err-may_list.refused refl
    (subst (λ n. IsOver list_limit n Pairs c.in-Err-may_list.refused) c.in-Ok.ensures.value
    c.in-Err-may_list.ensures.over)
    c.print_outcome.ensures
