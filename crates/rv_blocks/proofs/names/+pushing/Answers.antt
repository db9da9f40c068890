use Rattle.std.proofs.Common.{◌≡◌, ◌≤◌, ◌+◌, ◌∙◌, ◌++◌, sym, ap, subst, rules}
use Rattle.std.specs.Prelude.{OnOk}
use Rattle.lang_model.specs.Eval.{names_in}
use Rattle.lang_model.proofs.Weights.{weight, weight_of_args, weight_of_links, weight-call, weight-base, weight-chain, weight_arg, weight_link}
use Rattle.rv_blocks.specs.Naming.{names_of_args}
use Rattle.rv_blocks.proofs.Naming.{names-call, names-base, links_begin, args_step, links_step}
use Rattle.rv_blocks.proofs.names.+pushing.Goals as goal

-- ---- an expression
pub push_names-push_args-requires : goal.push_names-push_args-requires
push_names-push_args-requires t c =
    let w : weight c.args.expr.now ≡ weight_of_args c.as_slice.result.now + 1 =
    ap weight c.in-Call.is ∙ weight-call c.in-Call.at c.in-Call.name c.in-Call.args ∙ ap (λ es. weight_of_args es + 1) (sym c.as_slice.ensures.value) in
    (search (rules, w), tt)

pub push_names-push_args-requires-in-Base : goal.push_names-push_args-requires-in-Base
push_names-push_args-requires-in-Base t c =
    let w : weight c.args.expr.now ≡ weight_of_args c.as_slice-in-Base.result.now + 1 =
    ap weight c.in-Base.is ∙ weight-base c.in-Base.at c.in-Base.base c.in-Base.args ∙ ap (λ es. weight_of_args es + 1) (sym c.as_slice-in-Base.ensures.value) in
    (search (rules, w), tt)

pub push_names-push_links-requires : goal.push_names-push_links-requires
push_names-push_links-requires t c =
    let w : weight c.args.expr.now ≡ weight c.in-Chain.first.value + weight_of_links c.as_slice-in-Chain.result.now + 1 =
    ap weight c.in-Chain.is ∙ weight-chain c.in-Chain.first c.in-Chain.rest ∙ ap (λ ls. weight c.in-Chain.first.value + weight_of_links ls + 1) (sym c.as_slice-in-Chain.ensures.value) in
    (search (rules, w), tt)

pub push_names-returns-in-Call : goal.push_names-returns-in-Call
push_names-returns-in-Call t c =
    let same = ap names_in c.in-Call.is ∙ names-call c.in-Call.at c.in-Call.name c.in-Call.args ∙ ap names_of_args (sym c.as_slice.ensures.value) in
    subst (λ z. OnOk c.push_args.result (c.push_args.new.names.items ≡ c.args.names.now.items ++ z)) (sym same) c.push_args.ensures

pub push_names-returns-in-Base : goal.push_names-returns-in-Base
push_names-returns-in-Base t c =
    let same = ap names_in c.in-Base.is ∙ names-base c.in-Base.at c.in-Base.base c.in-Base.args ∙ ap names_of_args (sym c.as_slice-in-Base.ensures.value) in
    subst (λ z. OnOk c.push_args-in-Base.result (c.push_args-in-Base.new.names.items ≡ c.args.names.now.items ++ z)) (sym same) c.push_args-in-Base.ensures

pub push_names-returns-in_ok-push_names-in-Chain : goal.push_names-returns-in_ok-push_names-in-Chain
push_names-returns-in_ok-push_names-in-Chain t c =
    let first = c.in_ok-push_names-in-Chain.ensures ∙ ap (λ e. c.args.names.now.items ++ names_in e) c.deref-in-Chain.ensures in
    let whole =
    links_begin c.args.names.now.items c.push_names-in-Chain.new.names.items c.args.expr.now c.in-Chain.first c.in-Chain.rest c.as_slice-in-Chain.result.now
    c.in-Chain.is first c.as_slice-in-Chain.ensures.value in
    subst (λ z. OnOk c.push_links.result (c.push_links.new.names.items ≡ z)) (sym whole) c.push_links.ensures

-- ---- arguments
pub push_args-push_names-requires : goal.push_args-push_names-requires
push_args-push_names-requires t c =
    let less : weight c.arg-item.result ≤ weight_of_args c.args.args.now = weight_arg c.args.args.now c.args-2.arg-index c.arg-item.result c.arg-item.result c.args-2-test.true c.arg-item.is in
    (search (rules, less), tt)

pub push_args-args-2-preserved : goal.push_args-args-2-preserved
push_args-args-2-preserved t c =
    args_step _ c.args-2.names.items c.push_names.new.names.items c.args.args.now c.args-2.arg-index c.arg-item.result c.args-2-test.true c.arg-item.is c.args-2.invariant c.in_ok-push_names.ensures

-- ---- links
pub push_links-push_names-requires : goal.push_links-push_names-requires
push_links-push_names-requires t c =
    let less : weight c.link-item.result.right ≤ weight_of_links c.args.links.now = weight_link c.args.links.now c.links.link-index c.link-item.result c.link-item.result c.links-test.true c.link-item.is in
    (search (rules, less), tt)

pub push_links-links-preserved : goal.push_links-links-preserved
push_links-links-preserved t c =
    links_step _ c.links.names.items c.push_names.new.names.items c.args.links.now c.links.link-index c.link-item.result c.links-test.true c.link-item.is c.links.invariant c.in_ok-push_names.ensures
