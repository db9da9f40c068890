use Rattle.std.proofs.Common.{◌++◌, ◌∷◌, [], ◌∙◌, map, ap, sym}
use Rattle.std.proofs.lemmas.List.{take_all}
use Rattle.rv_eval.specs.Names.{typed_pair_of}
use Rattle.rv_eval.proofs.Ahead.{typed-step}
use Rattle.rv_eval.proofs.early.types_of_names.Goals as goal

pub each-preserved : goal.each-preserved
each-preserved c =
    let e = c.pair-item.result in
    c.in_ok-push.ensures.items ∙ ap (λ x. c.each.types.items ++ (x, c.type_of-shape.result) ∷ []) c.in_ok-own.ensures
    ∙ ap (λ x. c.each.types.items ++ (e.0, x) ∷ []) c.type_of-shape.ensures
    ∙ ap (λ xs. xs ++ typed_pair_of e ∷ []) c.each.invariant ∙ sym (typed-step c.args.env.now c.each.pair-index e c.each-test.true c.pair-item.is)

pub returns : goal.returns
returns c = c.each.invariant ∙ ap (map typed_pair_of) (take_all c.each.pair-index c.args.env.now c.each-test.false)
