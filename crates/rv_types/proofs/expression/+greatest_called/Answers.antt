use Rattle.std.proofs.Common.{◌∙◌, max, sym, ap, arith}
use Rattle.lang_model.specs.Checking.{called}
use Rattle.rv_types.specs.Rows.{called_of_args, called_of_links}
use Rattle.rv_types.proofs.Walks.{called-call, called-base, called-chain}
use Rattle.rv_types.proofs.expression.+greatest_called.Goals as goal

pub call_args-init : goal.call_args-init
call_args-init t c =
    let E = c.args.earlier.now in
    ap (called E) c.in-Call.is ∙ called-call E c.in-Call.at c.in-Call.name c.in-Call.args ∙ (λ i. max (sym c.rank_named-most.ensures i) (called_of_args E (sym c.as_slice-arg-items.ensures.value i)))

pub base_args-init : goal.base_args-init
base_args-init t c =
    let E = c.args.earlier.now in
    ap (called E) c.in-Base.is ∙ called-base E c.in-Base.at c.in-Base.base c.in-Base.args ∙ ap (called_of_args E) (sym c.as_slice-base_arg-items.ensures.value) ∙ omega arith

pub links-init : goal.links-init
links-init t c =
    let E = c.args.earlier.now in
    ap (called E) c.in-Chain.is ∙ called-chain E c.in-Chain.first c.in-Chain.rest
    ∙ (λ i. max ((ap (called E) (sym c.deref-in-Chain.ensures) ∙ sym c.greatest_called-most.ensures) i) (called_of_links E (sym c.as_slice-link-items.ensures.value i)))
