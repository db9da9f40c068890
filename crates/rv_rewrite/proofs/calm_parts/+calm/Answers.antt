use Rattle.std.proofs.Common.{◌≡◌, ◌∙◌, ◌&&◌, true, sym, ap}
use Rattle.lang_model.specs.Trees.{tree_of}
use Rattle.lang_model.specs.Rewriting.{is_quotient, is_calm, are_calm, are_calm_along}
use Rattle.rv_rewrite.specs.Items.{args_of, links_of}
use Rattle.rv_rewrite.proofs.Items.{tree_base, tree_chain}
use Rattle.rv_rewrite.proofs.calm_parts.+calm.Goals as goal

pub is_calm-returns-then-is_quotient : goal.is_calm-returns-then-is_quotient
is_calm-returns-then-is_quotient t c =
    let base = c.in-Base.base in
    let args = c.in-Base.args in
    let quotient : is_quotient base ≡ true = sym c.is_quotient.ensures ∙ c.if-is_quotient.true in
    c.are_calm.ensures ∙ ap (λ a. are_calm (args_of a)) c.as_slice.ensures.value
    ∙ sym (ap (λ e. is_calm (tree_of e)) c.in-Base.is ∙ ap is_calm (tree_base c.in-Base.at base args)
    ∙ ap (λ b. b && are_calm (args_of args.items)) quotient)

pub is_calm-returns-then-is_calm : goal.is_calm-returns-then-is_calm
is_calm-returns-then-is_calm t c =
    let first = c.in-Chain.first in
    let rest = c.in-Chain.rest in
    let calm : is_calm (tree_of first.value) ≡ true =
    ap (λ e. is_calm (tree_of e)) (sym c.deref-in-Chain.ensures) ∙ sym c.is_calm-in-Chain.ensures ∙ c.if-is_calm.true in
    c.are_calm_along.ensures ∙ ap (λ a. are_calm_along (links_of a)) c.as_slice-then-is_calm.ensures.value
    ∙ sym (ap (λ e. is_calm (tree_of e)) c.in-Chain.is ∙ ap is_calm (tree_chain first rest)
    ∙ ap (λ b. b && are_calm_along (links_of rest.items)) calm)
