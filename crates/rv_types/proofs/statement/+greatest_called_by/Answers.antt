use Rattle.std.proofs.Common.{◌≡◌, ◌∙◌, ℕ, max, sym, ap, arith}
use Rattle.lang_model.specs.Checking.{called, called_by, called_by_all}
use Rattle.rv_types.proofs.Statements.{called-while, called-if}
use Rattle.rv_types.proofs.statement.+greatest_called_by.Goals as goal

pub body-init : goal.body-init
body-init t c =
    let E = c.args.earlier.now in
    ap (called_by E) c.in-While.is ∙ called-while E c.in-While.at c.in-While.test c.in-While.body
    ∙ (λ i. max (sym c.greatest_called-most.ensures i) (called_by_all E (sym c.as_slice-inner-items.ensures.value i)))

max-left : (a b c : ℕ) → max a (max b c) ≡ max (max a b) c
max-left a b c = omega arith

pub yes-init : goal.yes-init
yes-init t c =
    let E = c.args.earlier.now in
    let last = called_by_all E c.in-If.no.items in
    ap (called_by E) c.in-If.is ∙ called-if E c.in-If.at c.in-If.test c.in-If.yes c.in-If.no ∙ max-left (called E c.in-If.test) (called_by_all E c.in-If.yes.items) last
    ∙ (λ i. max (max (sym c.greatest_called-most-in-If.ensures i) (called_by_all E (sym c.as_slice-then-items.ensures.value i))) last)
