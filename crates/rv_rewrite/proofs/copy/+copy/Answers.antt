use Rattle.std.proofs.Common.{◌≡◌, ◌∙◌, ◌+◌, drop, arith, sym, ap, subst}
use Rattle.std.specs.Prelude.{IfOk}
use Rattle.std.proofs.lemmas.List.{drop_more}
use Rattle.lang_model.specs.Trees.{CallTree, BaseTree, ChainTree, tree_of}
use Rattle.rv_rewrite.specs.Items.{args_of, links_of, args_ahead, links_ahead}
use Rattle.rv_rewrite.proofs.Items.{tree_call, tree_base, tree_chain, args_more, links_more, args_done, links_done}
use Rattle.rv_rewrite.proofs.copy.+copy.Goals as goal

pub copied-returns-in_ok-args-in-Call : goal.copied-returns-in_ok-args-in-Call
copied-returns-in_ok-args-in-Call t c =
    let at = c.in-Call.at in
    let args = c.in_ok-args-in-Call.ensures ∙ ap args_of c.as_slice.ensures.value in
    c.call.ensures
    ∙ (λ i. CallTree at (c.in_ok-name-in-Call.ensures i) (args i))
    ∙ sym (ap tree_of c.in-Call.is ∙ tree_call at c.in-Call.name c.in-Call.args)

pub copied-returns-in_ok-args-in-Base : goal.copied-returns-in_ok-args-in-Base
copied-returns-in_ok-args-in-Base t c =
    let at = c.in-Base.at in
    let base = c.in-Base.base in
    let args = c.in_ok-args-in-Base.ensures ∙ ap args_of c.as_slice-in-Base.ensures.value in
    c.base_call.ensures
    ∙ ap (BaseTree at base) args
    ∙ sym (ap tree_of c.in-Base.is ∙ tree_base at base c.in-Base.args)

pub copied-returns-in_ok-rest-in-Chain : goal.copied-returns-in_ok-rest-in-Chain
copied-returns-in_ok-rest-in-Chain t c =
    let first = c.in_ok-first-in-Chain.ensures ∙ ap tree_of c.deref-in-Chain.ensures in
    let rest = c.in_ok-rest-in-Chain.ensures ∙ ap links_of c.as_slice-in-Chain.ensures.value in
    subst (λ t. IfOk c.chain.result (λ e. tree_of e ≡ t))
    ((λ i. ChainTree (first i) (rest i)) ∙ sym (ap tree_of c.in-Chain.is ∙ tree_chain c.in-Chain.first c.in-Chain.rest))
    c.chain.ensures

pub copied_args-each-preserved : goal.copied_args-each-preserved
copied_args-each-preserved t c =
    let all = c.args.args.now in
    let i = c.each.arg-index in
    let x = c.arg-item.result in
    let d = drop_more all i x (omega arith) in
    subst (λ done. args_of all ≡ args_ahead done (args_of (drop (i + 1) all))) (sym c.in_ok-push.ensures.items)
    (args_more all c.each.copies.items i _ c.in_ok-copy.copy d (c.in_ok-copy.ensures ∙ ap tree_of c.arg-item.is) c.each.invariant)

pub copied_args-returns : goal.copied_args-returns
copied_args-returns t c = args_done _ _ c.each.arg-index (omega arith) c.each.invariant

pub copied_links-each-preserved : goal.copied_links-each-preserved
copied_links-each-preserved t c =
    let all = c.args.links.now in
    let i = c.each.link-index in
    let x = c.link-item.result in
    let d = drop_more all i x (omega arith) in
    subst (λ done. links_of all ≡ links_ahead done (links_of (drop (i + 1) all))) (sym c.in_ok-push.ensures.items)
    (links_more all c.each.copies.items i _ _ d (ap (λ y. y.at) c.link-item.is) (ap (λ y. y.op) c.link-item.is)
    (c.in_ok-right.ensures ∙ ap (λ y. tree_of y.right) c.link-item.is) c.each.invariant)

pub copied_links-returns : goal.copied_links-returns
copied_links-returns t c = links_done _ _ c.each.link-index (omega arith) c.each.invariant
