use Rattle.std.proofs.Common.{◌∙◌, [], ◌∷◌, sym, ap}
use Rattle.lang_model.specs.Trees.{tree_of}
use Rattle.lang_model.specs.Rewriting.{same_tree, chain_of, without_repeats, is_result}
use Rattle.rv_rewrite.specs.Items.{links_of}
use Rattle.rv_rewrite.proofs.Earlier.{shortened_at}
use Rattle.rv_rewrite.proofs.repeats.is_repeated_operands.Goals as goal

pub returns-then-not-may_be_shortened : goal.returns-then-not-may_be_shortened
returns-then-not-may_be_shortened c =
    sym (ap (is_result (tree_of c.args.after.now)) (shortened_at c.args.before.now c.in-Chain.first c.in-Chain.rest c.in-Chain.is _ _ c.deref.ensures c.as_slice-links.ensures.value _ (sym c.may_be_shortened.ensures ∙ c.if-not-may_be_shortened.true)))

pub returns-else-not-may_be_shortened : goal.returns-else-not-may_be_shortened
returns-else-not-may_be_shortened c =
    let first = ap tree_of (c.deref-in-Chain.ensures ∙ sym c.deref.ensures) in
    let h = c.is_shortened.ensures in
    let k = ap (is_result (tree_of c.args.after.now)) (shortened_at c.args.before.now c.in-Chain.first c.in-Chain.rest c.in-Chain.is _ _ c.deref.ensures c.as_slice-links.ensures.value _ (sym c.may_be_shortened.ensures ∙ c.if-not-may_be_shortened.false)) in
    c.is_shortened.ensures
    ∙ ap (λ f. same_tree (chain_of f (without_repeats (f ∷ []) (links_of c.as_slice-links.result.now))) (tree_of c.args.after.now)) first
    ∙ sym k
