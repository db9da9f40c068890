use Rattle.std.proofs.Common.{◌∙◌, ap}
use Rattle.rv_rewrite.proofs.Parts.{not_two_at}
use Rattle.rv_rewrite.proofs.apart.into_two.Goals as goal

pub returns-then-as_slice-ne1 : goal.returns-then-as_slice-ne1
returns-then-as_slice-ne1 c =
    not_two_at c.args.expr c.in-Chain.first c.in-Chain.rest c.in-Chain.is c.as_slice.result.now (c.as_slice.ensures.value ∙ ap (λ z. z.items) c.in-Chain.rest-is) c.if-as_slice-ne1.true
