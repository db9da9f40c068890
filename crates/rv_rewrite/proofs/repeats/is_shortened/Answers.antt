use Rattle.std.proofs.Common.{◌∙◌, [], ◌∷◌, refl, sym, ap}
use Rattle.lang_model.specs.Trees.{ChainTree, tree_of}
use Rattle.lang_model.specs.Rewriting.{same_tree, chain_of}
use Rattle.rv_rewrite.specs.Items.{links_of}
use Rattle.rv_rewrite.proofs.Earlier.{none_kept, some_kept, earlier-repeats}
use Rattle.rv_rewrite.proofs.repeats.is_shortened.Goals as goal

pub returns-then-all_equal : goal.returns-then-all_equal
returns-then-all_equal c =
    let f = tree_of c.args.first.now in
    c.same.ensures ∙ sym (ap (λ k. same_tree (chain_of f k) (tree_of c.args.node.now))
    (none_kept f (links_of c.args.links.now) (sym c.all_equal.ensures ∙ c.if-all_equal.true)))

pub returns : goal.returns
returns c =
    let f = tree_of c.args.first.now in
    let links = links_of c.args.links.now in
    c.is_chain_kept.ensures
    ∙ ap (λ k. same_tree (ChainTree f k) (tree_of c.args.node.now)) (earlier-repeats (f ∷ []) (f ∷ []) links (λ x. refl))
    ∙ sym (ap (λ k. same_tree k (tree_of c.args.node.now)) (some_kept f links (sym c.all_equal.ensures ∙ c.if-all_equal.false)))
