use Rattle.std.proofs.Common.{◌≡◌, ◌∙◌, ◌<◌, length, rules, ap, sym, subst}
use Rattle.lang_model.specs.Trees.{ChainTree, tree_of}
use Rattle.rv_rewrite.specs.Items.{links_of}
use Rattle.rv_rewrite.proofs.Items.{tree_chain}
use Rattle.rv_rewrite.proofs.Earlier.{chain_some, not_none}
use Rattle.rv_rewrite.proofs.apply.shortened.Goals as goal

pub returns : goal.returns
returns c =
    let kept = c.args.kept in
    let v : c.in_ok-first.first.value ≡ c.args.first = search rules in
    tree_chain c.in_ok-first.first kept
    ∙ ap (λ f. ChainTree (tree_of f) (links_of kept.items)) v
    ∙ chain_some (tree_of c.args.first) kept.items (subst (λ xs. 0 < length xs) c.as_slice.ensures.value (not_none (length c.as_slice.result.now) (sym c.is_empty.ensures ∙ c.if-is_empty.false)))
