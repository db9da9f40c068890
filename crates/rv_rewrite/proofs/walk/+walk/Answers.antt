use Rattle.std.proofs.Common.{◌∙◌, ◌&&◌, ◌+◌, ◌∷◌, false, true, IfOk, drop, refl, sym, ap, subst}
use Rattle.std.proofs.lemmas.List.{drop_more}
use Rattle.lang_model.specs.Trees.{NameTree, CallTree, BaseTree, InjectTree, PairTree, ChainTree, tree_of}
use Rattle.lang_model.specs.Rewriting.{is_calm}
use Rattle.rv_rewrite.specs.Items.{args_of, links_of}
use Rattle.rv_rewrite.specs.Running.{StillInside, Walks, WalksIn}
use Rattle.rv_rewrite.proofs.Items.{tree_call, tree_base, tree_chain, tree_pair}
use Rattle.rv_rewrite.proofs.Walked.{at_trees, leaf, walked_call, walked_pair, walked_base, walked_minus, walked_turned, walked_chain, rests_at, rests_in, rests_along, ArgsSoFar, LinksSoFar, one_arg_more, all_args, one_link_more, all_the_links}
use Rattle.rv_rewrite.proofs.walk.+walk.Goals as goal

pub walk-returns-in_ok-name-in-Ref : goal.walk-returns-in_ok-name-in-Ref
walk-returns-in_ok-name-in-Ref t c =
    let at = c.in-Ref.at in
    at_trees c.args.kept c.args.steps.now.items c.args.steps.now.items (NameTree at c.in-Ref.name) (NameTree at c.in-Ref.name) _ _ true
    (ap tree_of c.in-Ref.is) (ap (NameTree at) c.in_ok-name-in-Ref.ensures)
    (leaf c.args.kept c.args.steps.now.items (NameTree at c.in-Ref.name) true refl refl)

pub walk-returns-in_ok-domain-in-Inject : goal.walk-returns-in_ok-domain-in-Inject
walk-returns-in_ok-domain-in-Inject t c =
    let at = c.in-Inject.at in
    let base = c.in-Inject.base in
    at_trees c.args.kept c.args.steps.now.items c.args.steps.now.items (InjectTree at base c.in-Inject.domain) (InjectTree at base c.in-Inject.domain) _ _ false
    (ap tree_of c.in-Inject.is) (ap (InjectTree at base) c.in_ok-domain-in-Inject.ensures)
    (leaf c.args.kept c.args.steps.now.items (InjectTree at base c.in-Inject.domain) false refl refl)

pub walk-returns-in-Call : goal.walk-returns-in-Call
walk-returns-in-Call t c =
    let at = c.in-Call.at in
    let name = c.in-Call.name in
    subst (λ z. IfOk c.walk_call.result (λ x. Walks c.args.kept c.args.steps.now.items c.walk_call.new.steps.items z (tree_of x.0) x.1))
    (sym (ap tree_of c.in-Call.is ∙ tree_call at name c.in-Call.args ∙ ap (λ z. CallTree at name (args_of z)) (sym c.as_slice.ensures.value)))
    c.walk_call.ensures

pub walk-returns-in-Base : goal.walk-returns-in-Base
walk-returns-in-Base t c =
    let at = c.in-Base.at in
    let base = c.in-Base.base in
    subst (λ z. IfOk c.walk_base.result (λ x. Walks c.args.kept c.args.steps.now.items c.walk_base.new.steps.items z (tree_of x.0) x.1))
    (sym (ap tree_of c.in-Base.is ∙ tree_base at base c.in-Base.args ∙ ap (λ z. BaseTree at base (args_of z)) (sym c.as_slice-in-Base.ensures.value)))
    c.walk_base.ensures

pub walk_call-returns : goal.walk_call-returns
walk_call-returns t c =
    let at = c.args.at in
    let u = args_of c.in_ok-args.args.items in
    at_trees c.args.kept c.args.steps.now.items c.walk_args.new.steps.items (CallTree at c.args.name.now (args_of c.args.args.now)) (CallTree at c.args.name.now u) _ _ false
    refl (c.call-node.ensures ∙ ap (λ n. CallTree at n u) c.in_ok-name.ensures)
    (walked_call c.args.kept c.args.steps.now.items c.walk_args.new.steps.items at c.args.name.now (args_of c.args.args.now) u _ c.in_ok-args.ensures)

pub walk_base-finish-requires-clause-calm : goal.walk_base-finish-requires-clause-calm
walk_base-finish-requires-clause-calm t c =
    let w : WalksIn c.args.kept c.args.steps.now.items c.walk_args.new.steps.items (args_of c.args.args.now) (args_of c.in_ok-args.args.items) c.in_ok-args.calm = c.in_ok-args.ensures in
    c.both-calm.ensures ∙ (λ i. c.is_quotient.ensures i && w.calm_or_not i) ∙ sym (ap is_calm c.base_call-node.ensures)

pub walk_base-finish-requires-clause-still : goal.walk_base-finish-requires-clause-still
walk_base-finish-requires-clause-still t c =
    subst StillInside (sym c.base_call-node.ensures) (rests_in c.args.kept c.args.steps.now.items c.walk_args.new.steps.items (args_of c.args.args.now) (args_of c.in_ok-args.args.items) c.in_ok-args.calm c.in_ok-args.ensures)

pub walk_base-returns : goal.walk_base-returns
walk_base-returns t c =
    walked_base c.args.kept c.args.steps.now.items c.walk_args.new.steps.items c.finish.new.steps.items c.args.at c.args.base (args_of c.args.args.now) (args_of c.in_ok-args.args.items) c.in_ok-args.calm _ _ c.in_ok-args.ensures
    (subst (λ z. Walks c.args.kept c.walk_args.new.steps.items c.finish.new.steps.items z (tree_of (c.in_ok-done.done).0) (c.in_ok-done.done).1) c.base_call-node.ensures c.in_ok-done.ensures)

pub walk_minus-finish-requires-clause-still : goal.walk_minus-finish-requires-clause-still
walk_minus-finish-requires-clause-still t c =
    subst StillInside (sym c.in_ok-node.ensures) (rests_at c.args.kept c.args.steps.now.items c.walk.new.steps.items (tree_of c.args.of.now) (tree_of c.in_ok-of.of) c.in_ok-of.calm c.in_ok-of.ensures)

pub walk_minus-returns : goal.walk_minus-returns
walk_minus-returns t c =
    walked_minus c.args.kept c.args.steps.now.items c.walk.new.steps.items c.finish.new.steps.items c.args.at (tree_of c.args.of.now) (tree_of c.in_ok-of.of) _ c.in_ok-of.calm _ c.in_ok-of.ensures
    (subst (λ z. Walks c.args.kept c.walk.new.steps.items c.finish.new.steps.items z (tree_of (c.in_ok-done.done).0) (c.in_ok-done.done).1) c.in_ok-node.ensures c.in_ok-done.ensures)

pub walk_turned-finish-requires-clause-still : goal.walk_turned-finish-requires-clause-still
walk_turned-finish-requires-clause-still t c =
    subst StillInside (sym c.in_ok-node.ensures) (rests_at c.args.kept c.args.steps.now.items c.walk.new.steps.items (tree_of c.args.of.now) (tree_of c.in_ok-of.of) c.in_ok-of.calm c.in_ok-of.ensures)

pub walk_turned-returns : goal.walk_turned-returns
walk_turned-returns t c =
    walked_turned c.args.kept c.args.steps.now.items c.walk.new.steps.items c.finish.new.steps.items c.args.at c.args.times (tree_of c.args.of.now) (tree_of c.in_ok-of.of) _ c.in_ok-of.calm _ c.in_ok-of.ensures
    (subst (λ z. Walks c.args.kept c.walk.new.steps.items c.finish.new.steps.items z (tree_of (c.in_ok-done.done).0) (c.in_ok-done.done).1) c.in_ok-node.ensures c.in_ok-done.ensures)

pub walk_args-each-preserved : goal.walk_args-each-preserved
walk_args-each-preserved t c =
    let all = c.args.args.now in
    let i = c.each.arg-index in
    subst (λ done. ArgsSoFar c.args.kept c.args.steps.now.items c.walk.new.steps.items all done c.both-all_calm.result (drop (i + 1) all)) (sym c.in_ok-push.ensures.items)
    (one_arg_more c.args.kept c.args.steps.now.items c.each.steps.items c.walk.new.steps.items all c.each.done.items c.each.all_calm c.in_ok-next.calm c.both-all_calm.result (drop i all)
    c.arg-item.result c.in_ok-next.next (drop (i + 1) all)
    (drop_more all i c.arg-item.result c.each-test.true ∙ ap (λ x. x ∷ drop (i + 1) all) (sym c.arg-item.is)) c.both-all_calm.ensures c.each.invariant c.in_ok-next.ensures)

pub walk_args-returns : goal.walk_args-returns
walk_args-returns t c = all_args c.args.kept c.args.steps.now.items c.each.steps.items c.args.args.now c.each.done.items c.each.all_calm c.each.arg-index c.each-test.false c.each.invariant

pub walk_links-each-preserved : goal.walk_links-each-preserved
walk_links-each-preserved t c =
    let all = c.args.links.now in
    let i = c.each.link-index in
    subst (λ done. LinksSoFar c.args.kept c.args.steps.now.items c.walk.new.steps.items all done c.both-all_calm.result (drop (i + 1) all)) (sym c.in_ok-push.ensures.items)
    (one_link_more c.args.kept c.args.steps.now.items c.each.steps.items c.walk.new.steps.items all c.each.done.items c.each.all_calm c.in_ok-right.calm c.both-all_calm.result (drop i all)
    c.link-item.result (record { at = c.link-item.result.at; op = c.link-item.result.op; right = c.in_ok-right.right }) (drop (i + 1) all)
    (drop_more all i c.link-item.result c.each-test.true ∙ ap (λ x. x ∷ drop (i + 1) all) (sym c.link-item.is)) c.both-all_calm.ensures refl refl c.each.invariant c.in_ok-right.ensures)

pub walk_links-returns : goal.walk_links-returns
walk_links-returns t c = all_the_links c.args.kept c.args.steps.now.items c.each.steps.items c.args.links.now c.each.done.items c.each.all_calm c.each.link-index c.each-test.false c.each.invariant

pub walk-finish-requires-clause-still : goal.walk-finish-requires-clause-still
walk-finish-requires-clause-still t c =
    subst StillInside (sym c.in_ok-node-in-Chain.ensures)
    (rests_along c.args.kept c.walk-in-Chain.new.steps.items c.walk_links.new.steps.items (tree_of c.in_ok-first-in-Chain.first) _ (links_of c.in_ok-rest-in-Chain.rest.items) c.in_ok-rest-in-Chain.along
    (rests_at c.args.kept c.args.steps.now.items c.walk-in-Chain.new.steps.items _ (tree_of c.in_ok-first-in-Chain.first) c.in_ok-first-in-Chain.calm c.in_ok-first-in-Chain.ensures)
    c.in_ok-rest-in-Chain.ensures)

pub walk-returns-in_ok-node-in-Pair : goal.walk-returns-in_ok-node-in-Pair
walk-returns-in_ok-node-in-Pair t c =
    let at = c.in-Pair.at in
    let l = tree_of c.deref.result.now in
    let r = tree_of c.deref-in-Pair.result.now in
    let shape = ap tree_of c.in-Pair.is ∙ tree_pair at c.in-Pair.left c.in-Pair.right
    ∙ (λ i. PairTree at (tree_of (sym c.deref.ensures i)) (tree_of (sym c.deref-in-Pair.ensures i))) in
    at_trees c.args.kept c.args.steps.now.items c.walk-in-Pair.new.steps.items (PairTree at l r) (PairTree at (tree_of c.in_ok-left-in-Pair.left) (tree_of c.in_ok-right-in-Pair.right)) _ _ false
    shape c.in_ok-node-in-Pair.ensures
    (walked_pair c.args.kept c.args.steps.now.items c.walk.new.steps.items c.walk-in-Pair.new.steps.items at l r (tree_of c.in_ok-left-in-Pair.left) (tree_of c.in_ok-right-in-Pair.right)
    c.in_ok-left-in-Pair.field-0-1 c.in_ok-right-in-Pair.field-0-1 c.in_ok-left-in-Pair.ensures c.in_ok-right-in-Pair.ensures)

pub walk-returns-in_ok-done-in-Chain : goal.walk-returns-in_ok-done-in-Chain
walk-returns-in_ok-done-in-Chain t c =
    let first = tree_of c.deref-in-Chain.result.now in
    let links = links_of c.as_slice-in-Chain.result.now in
    let shape = ap tree_of c.in-Chain.is ∙ tree_chain c.in-Chain.first c.in-Chain.rest
    ∙ (λ i. ChainTree (tree_of (sym c.deref-in-Chain.ensures i)) (links_of (sym c.as_slice-in-Chain.ensures.value i))) in
    let done = c.in_ok-done-in-Chain.done in
    at_trees c.args.kept c.args.steps.now.items c.finish.new.steps.items (ChainTree first links) (tree_of done.0) _ _ done.1 shape refl
    (walked_chain c.args.kept c.args.steps.now.items c.walk-in-Chain.new.steps.items c.walk_links.new.steps.items c.finish.new.steps.items
    first (tree_of c.in_ok-first-in-Chain.first) links (links_of c.in_ok-rest-in-Chain.rest.items) (tree_of done.0) c.in_ok-first-in-Chain.calm c.in_ok-rest-in-Chain.along done.1
    c.in_ok-first-in-Chain.ensures c.in_ok-rest-in-Chain.ensures
    (subst (λ z. Walks c.args.kept c.walk_links.new.steps.items c.finish.new.steps.items z (tree_of done.0) done.1) c.in_ok-node-in-Chain.ensures c.in_ok-done-in-Chain.ensures))
