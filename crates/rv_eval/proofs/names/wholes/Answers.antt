use Rattle.std.proofs.Common.{◌++◌, ◌∷◌, [], ◌∙◌, map, ap, sym}
use Rattle.std.proofs.lemmas.List.{take_all}
use Rattle.rel_slices.specs.declared.thin.Value.TheVariants.{Whole}
use Rattle.rv_eval.specs.Values.{whole_pair_of}
use Rattle.rv_eval.proofs.Fitting.{whole-step}
use Rattle.rv_eval.proofs.names.wholes.Goals as goal

pub each-preserved : goal.each-preserved
each-preserved c =
    let e = c.pair-item.result in
    c.in_ok-push.ensures.items ∙ ap (λ x. c.each.values.items ++ (x, Whole e.1) ∷ []) c.in_ok-own.ensures
    ∙ ap (λ xs. xs ++ whole_pair_of e ∷ []) c.each.invariant ∙ sym (whole-step c.args.names.now c.each.pair-index e c.each-test.true c.pair-item.is)

pub returns : goal.returns
returns c = c.each.invariant ∙ ap (map whole_pair_of) (take_all c.each.pair-index c.args.names.now c.each-test.false)
