use Rattle.std.proofs.Common.{◌++◌, ◌∷◌, [], ◌∙◌, take, get_or, None, ap, sym, arith}
use Rattle.std.proofs.lemmas.List.{take_all}
use Rattle.lang_model.specs.Types.{type_of}
use Rattle.rv_types.specs.Shaping.{beside}
use Rattle.rv_types.proofs.Bound.{beside-step}
use Rattle.rv_types.proofs.types_of_names.bind.Goals as goal

pub each-preserved : goal.each-preserved
each-preserved c =
    let p = c.index-params-i.result in
    let i = c.each.i in
    let d = type_of None None in
    c.in_ok-push.ensures.items ∙ ap (λ x. c.each.names.items ++ (x, get_or c.args.given.now i d) ∷ []) c.in_ok-own.ensures
    ∙ ap (λ xs. xs ++ (p, get_or c.args.given.now i d) ∷ []) c.each.invariant ∙ sym (beside-step c.args.params.now c.args.given.now i p d c.each-test.true c.requires c.index-params-i.is)

pub returns : goal.returns
returns c =
    c.each.invariant ∙ ap (λ xs. beside xs (take c.each.i c.args.given.now)) (take_all c.each.i c.args.params.now c.each-test.false)
    ∙ ap (beside c.args.params.now) (take_all c.each.i c.args.given.now (omega (arith, c.requires, c.each-test.false)))
