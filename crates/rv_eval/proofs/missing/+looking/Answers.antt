use Rattle.std.proofs.Common.{◌≡◌, ◌≤◌, ◌+◌, ◌∙◌, Some, None, sym, ap, subst, rules}
use Rattle.std.specs.Prelude.{MatchOption}
use Rattle.lang_model.specs.Missing.{first_of_both, missing}
use Rattle.rv_eval.specs.Names.{sized}
use Rattle.rv_eval.specs.Lacking.{missing_of_args, missing_of_links}
use Rattle.rv_eval.proofs.Lacking.{missing-call, missing-base, missing-chain}
use Rattle.lang_model.proofs.Weights.{weight, weight_of_args, weight_of_links, weight-call, weight-base, weight-chain, weight_arg, weight_link}
use Rattle.rv_eval.proofs.missing.+looking.Goals as goal

-- ---- an expression
pub first_missing-first_of_args-requires : goal.first_missing-first_of_args-requires
first_missing-first_of_args-requires t c =
    let w : weight c.args.expr.now ≡ weight_of_args c.as_slice.result.now + 1 =
    ap weight c.in-Call.is ∙ weight-call c.in-Call.at c.in-Call.name c.in-Call.args ∙ ap (λ es. weight_of_args es + 1) (sym c.as_slice.ensures.value) in
    (search (rules, w), tt)

pub first_missing-first_of_args-requires-in-Base : goal.first_missing-first_of_args-requires-in-Base
first_missing-first_of_args-requires-in-Base t c =
    let w : weight c.args.expr.now ≡ weight_of_args c.as_slice-in-Base.result.now + 1 =
    ap weight c.in-Base.is ∙ weight-base c.in-Base.at c.in-Base.base c.in-Base.args ∙ ap (λ es. weight_of_args es + 1) (sym c.as_slice-in-Base.ensures.value) in
    (search (rules, w), tt)

pub first_missing-first_of_links-requires : goal.first_missing-first_of_links-requires
first_missing-first_of_links-requires t c =
    let w : weight c.args.expr.now ≡ weight c.in-Chain.first.value + weight_of_links c.as_slice-in-None-first_missing-2.result.now + 1 =
    ap weight c.in-Chain.is ∙ weight-chain c.in-Chain.first c.in-Chain.rest
    ∙ ap (λ ls. weight c.in-Chain.first.value + weight_of_links ls + 1) (sym c.as_slice-in-None-first_missing-2.ensures.value) in
    (search (rules, w), tt)

pub first_missing-returns-in-Call : goal.first_missing-returns-in-Call
first_missing-returns-in-Call t c =
    let S = sized c.args.names.now in
    let same = ap (missing S) c.in-Call.is ∙ missing-call S c.in-Call.at c.in-Call.name c.in-Call.args ∙ ap (missing_of_args S) (sym c.as_slice.ensures.value) in
    subst (λ m. MatchOption c.first_of_args.result (m ≡ None) (λ x. m ≡ Some (x.0, x.1.now))) (sym same) c.first_of_args.ensures

pub first_missing-returns-in-Base : goal.first_missing-returns-in-Base
first_missing-returns-in-Base t c =
    let S = sized c.args.names.now in
    let same = ap (missing S) c.in-Base.is ∙ missing-base S c.in-Base.at c.in-Base.base c.in-Base.args ∙ ap (missing_of_args S) (sym c.as_slice-in-Base.ensures.value) in
    subst (λ m. MatchOption c.first_of_args-in-Base.result (m ≡ None) (λ x. m ≡ Some (x.0, x.1.now))) (sym same) c.first_of_args-in-Base.ensures

pub first_missing-returns-in-None-first_missing-2 : goal.first_missing-returns-in-None-first_missing-2
first_missing-returns-in-None-first_missing-2 t c =
    let S = sized c.args.names.now in
    let links = missing_of_links S c.in-Chain.rest.items in
    let same =
    ap (missing S) c.in-Chain.is ∙ missing-chain S c.in-Chain.first c.in-Chain.rest ∙ ap (λ e. first_of_both (missing S e) links) (sym c.deref-in-Chain.ensures)
    ∙ ap (λ o. first_of_both o links) c.in-None-first_missing-2.ensures ∙ ap (missing_of_links S) (sym c.as_slice-in-None-first_missing-2.ensures.value) in
    subst (λ m. MatchOption c.first_of_links.result (m ≡ None) (λ x. m ≡ Some (x.0, x.1.now))) (sym same) c.first_of_links.ensures

-- ---- arguments
pub first_of_args-first_missing-requires : goal.first_of_args-first_missing-requires
first_of_args-first_missing-requires t c =
    let less : weight c.arg-item.result ≤ weight_of_args c.args.args.now = weight_arg c.args.args.now c.args-2.arg-index c.arg-item.result c.arg-item.result c.args-2-test.true c.arg-item.is in
    (search (rules, less), tt)

-- ---- links
pub first_of_links-first_missing-requires : goal.first_of_links-first_missing-requires
first_of_links-first_missing-requires t c =
    let less : weight c.link-item.result.right ≤ weight_of_links c.args.links.now = weight_link c.args.links.now c.links.link-index c.link-item.result c.link-item.result c.links-test.true c.link-item.is in
    (search (rules, less), tt)
