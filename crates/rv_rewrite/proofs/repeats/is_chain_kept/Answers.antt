use Rattle.std.proofs.Common.{◌≡◌, ◌∙◌, ◌&&◌, [], ◌∷◌, true, sym, ap}
use Rattle.lang_model.specs.Trees.{ChainTree, tree_of}
use Rattle.lang_model.specs.Rewriting.{same_tree, same_branches}
use Rattle.rv_rewrite.specs.Items.{links_of}
use Rattle.rv_rewrite.specs.Repeated.{without_earlier}
use Rattle.rv_rewrite.proofs.Items.{tree_chain}
use Rattle.rv_rewrite.proofs.repeats.is_chain_kept.Goals as goal

pub returns-else-not-same : goal.returns-else-not-same
returns-else-not-same c =
    let f = tree_of c.args.first.now in
    let kept = without_earlier (f ∷ []) (links_of c.args.links.now) in
    let first : same_tree f (tree_of (c.in-Chain.other).value) ≡ true =
    ap (λ z. same_tree f (tree_of z)) (sym c.deref.ensures) ∙ sym c.same.ensures ∙ c.if-not-same.false in
    c.are_kept.ensures ∙ ap (λ z. same_branches kept (links_of z)) c.as_slice.ensures.value
    ∙ sym (ap (λ e. same_tree (ChainTree f kept) (tree_of e)) c.in-Chain.is
    ∙ ap (same_tree (ChainTree f kept)) (tree_chain c.in-Chain.other c.in-Chain.rest)
    ∙ ap (λ b. b && same_branches kept (links_of c.in-Chain.rest.items)) first)
