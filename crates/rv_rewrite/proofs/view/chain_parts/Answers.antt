use Rattle.std.proofs.Common.{◌∙◌, Some, sym, ap}
use Rattle.lang_model.specs.Trees.{tree_of}
use Rattle.rv_rewrite.specs.Items.{links_of}
use Rattle.rv_rewrite.specs.Repeated.{chain_parts}
use Rattle.rv_rewrite.proofs.Items.{tree_chain}
use Rattle.rv_rewrite.proofs.view.chain_parts.Goals as goal

pub returns-in-Chain : goal.returns-in-Chain
returns-in-Chain c =
    ap (λ e. chain_parts (tree_of e)) c.in-Chain.is ∙ ap chain_parts (tree_chain c.in-Chain.first c.in-Chain.rest)
    ∙ (λ i. Some (tree_of (sym c.deref.ensures i), links_of (sym c.as_slice.ensures.value i)))
