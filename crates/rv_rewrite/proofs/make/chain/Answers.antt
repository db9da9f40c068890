use Rattle.std.proofs.Common.{◌≡◌, ◌∙◌, rules, ap}
use Rattle.lang_model.specs.Trees.{ChainTree, tree_of}
use Rattle.rv_rewrite.specs.Items.{links_of}
use Rattle.rv_rewrite.proofs.Items.{tree_chain}
use Rattle.rv_rewrite.proofs.make.chain.Goals as goal

pub returns : goal.returns
returns c =
    let same : c.in_ok-first.first.value ≡ c.args.first = search rules in
    tree_chain c.in_ok-first.first c.args.rest ∙ ap (λ f. ChainTree (tree_of f) (links_of c.args.rest.items)) same
