use Rattle.std.proofs.Common.{◌≡◌, ◌∙◌, ◌&&◌, true, sym, ap}
use Rattle.std.proofs.lemmas.List.{drop_all}
use Rattle.lang_model.specs.Trees.{CallTree, BaseTree, tree_of}
use Rattle.lang_model.specs.Tokens.{same_text}
use Rattle.lang_model.specs.Rewriting.{same_base, same_tree, same_trees, same_branches}
use Rattle.rv_rewrite.specs.Items.{args_of, links_of}
use Rattle.rv_rewrite.proofs.Items.{tree_call, tree_base, tree_chain}
use Rattle.rv_rewrite.proofs.Equal.{no_args, no_links}
use Rattle.rv_rewrite.proofs.same.+same.Goals as goal

pub same-returns-in-Call : goal.same-returns-in-Call
same-returns-in-Call t c =
    let a = c.in-Call in
    let other = tree_of c.args.b.now in
    c.is_same_call.ensures a.at
    ∙ ap (λ args. same_tree (CallTree a.at a.name (args_of args)) other) c.as_slice.ensures.value
    ∙ sym (ap (λ node. same_tree node other) (ap tree_of a.is ∙ tree_call a.at a.name a.args))

pub same-returns-in-Base : goal.same-returns-in-Base
same-returns-in-Base t c =
    let a = c.in-Base in
    let other = tree_of c.args.b.now in
    c.is_same_base_call.ensures a.at
    ∙ ap (λ args. same_tree (BaseTree a.at a.base (args_of args)) other) c.as_slice-in-Base.ensures.value
    ∙ sym (ap (λ node. same_tree node other) (ap tree_of a.is ∙ tree_base a.at a.base a.args))

pub same-returns-in-Inject : goal.same-returns-in-Inject
same-returns-in-Inject t c =
    let a = c.in-Inject in
    c.is_same_injection.ensures a.at ∙ sym (ap (λ node. same_tree (tree_of node) (tree_of c.args.b.now)) a.is)

pub same-returns-then-same-2 : goal.same-returns-then-same-2
same-returns-then-same-2 t c =
    let a = c.in-Chain in
    let b = c.in-Chain-b in
    let left = ap tree_of a.is ∙ tree_chain a.first a.rest in
    let right = ap tree_of b.is ∙ tree_chain b.other b.others in
    let first : same_tree (tree_of (a.first).value) (tree_of (b.other).value) ≡ true =
    (λ i. same_tree (tree_of (sym c.deref-in-Chain-b.ensures i)) (tree_of (sym c.deref-in-Chain-b-2.ensures i)))
    ∙ sym c.same-in-Chain-b.ensures ∙ c.if-same-2.true in
    c.same_links.ensures
    ∙ (λ i. same_branches (links_of (c.as_slice-then-same-2.ensures.value i))
    (links_of (c.as_slice-then-same-2-2.ensures.value i)))
    ∙ sym ((λ i. same_tree (left i) (right i))
    ∙ ap (λ e. e && same_branches (links_of a.rest.items) (links_of b.others.items)) first)

pub is_same_call-returns-then-eq : goal.is_same_call-returns-then-eq
is_same_call-returns-then-eq t c =
    let b = c.in-Call in
    let args = args_of c.args.args.now in
    let first : same_text c.args.name.now b.other ≡ true =
    (λ i. same_text (sym c.bytes.ensures i) (sym c.bytes-in-Call.ensures i)) ∙ sym c.eq.ensures ∙ c.if-eq.true in
    λ at. c.same_args.ensures
    ∙ ap (λ others. same_trees args (args_of others)) c.as_slice.ensures.value
    ∙ sym (ap (same_tree (CallTree at c.args.name.now args)) (ap tree_of b.is ∙ tree_call b.at b.other b.others)
    ∙ ap (λ e. e && same_trees args (args_of b.others.items)) first)

pub is_same_base_call-returns-then-same_base : goal.is_same_base_call-returns-then-same_base
is_same_base_call-returns-then-same_base t c =
    let b = c.in-Base in
    let args = args_of c.args.args.now in
    let first : same_base c.args.base b.other ≡ true = sym c.same_base.ensures ∙ c.if-same_base.true in
    λ at. c.same_args.ensures
    ∙ ap (λ others. same_trees args (args_of others)) c.as_slice.ensures.value
    ∙ sym (ap (same_tree (BaseTree at c.args.base args)) (ap tree_of b.is ∙ tree_base b.at b.other b.others)
    ∙ ap (λ e. e && same_trees args (args_of b.others.items)) first)

pub same_args-returns : goal.same_args-returns
same_args-returns t c =
    c.is_empty.ensures ∙ no_args c.each.others.now
    ∙ sym (c.each.invariant ∙ ap (λ z. same_trees (args_of z) (args_of c.each.others.now))
    (drop_all c.each.arg-index c.args.a.now c.each-test.false))

pub same_links-returns : goal.same_links-returns
same_links-returns t c =
    c.is_empty.ensures ∙ no_links c.each.others.now
    ∙ sym (c.each.invariant ∙ ap (λ z. same_branches (links_of z) (links_of c.each.others.now))
    (drop_all c.each.link-index c.args.a.now c.each-test.false))
