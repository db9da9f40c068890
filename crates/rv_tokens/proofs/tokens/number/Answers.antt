use Rattle.std.proofs.Common.{◌≡◌, ◌∙◌, sym, ap, arith}
use Rattle.std.proofs.lemmas.List.{drop_all}
use Rattle.lang_model.specs.Tokens.{value_from}
use Rattle.rv_tokens.proofs.Lexing.{too_large}
use Rattle.rv_tokens.proofs.tokens.number.Goals as goal

pub returns : goal.returns
returns c =
    let e : value_from 0 c.args.digits.now ≡ c.each.value = c.each.invariant.same ∙ ap (value_from c.each.value) (drop_all c.each.d-index c.args.digits.now (omega arith)) in
    (omega (arith, e, c.each.invariant.small), sym e)

pub returns-in_default : goal.returns-in_default
returns-in_default c small =
    let large = too_large c.each.value c.each.d-index (value_from 0 c.args.digits.now) c.args.digits.now c.each-test.true c.each.invariant.same in
    c.in_default.ensures (omega (arith, large, small, c.saturating_sub.ensures))
