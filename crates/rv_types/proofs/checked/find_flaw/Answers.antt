use Rattle.std.proofs.Common.{◌∙◌, [], Some, is_some, inl, inr, sym, ap}
use Rattle.lang_model.specs.Checking.{first_fault, items_faults, flaw}
use Rattle.rv_types.specs.Found.{told}
use Rattle.rv_types.proofs.checked.find_flaw.Goals as goal

pub returns-in-Ok-None-clause-fault : goal.returns-in-Ok-None-clause-fault
unfolding flaw
returns-in-Ok-None-clause-fault c = ap (λ xs. first_fault (items_faults [] xs)) (sym c.as_slice.ensures.value) ∙ sym c.in-Ok-None.ensures.fault ∙ ap told c.in-Ok-None.field-0-is

pub returns-clause-fault : goal.returns-clause-fault
unfolding flaw
returns-clause-fault c =
    let first = ap (λ xs. first_fault (items_faults [] xs)) (sym c.as_slice.ensures.value) ∙ sym c.in-Ok-Some.ensures.fault ∙ ap told c.in-Ok-Some.field-0-is in
    elim c.fault_or_want.ensures [
      | inl want ↦ inl want
      | inr told_is ↦ inr (first ∙ ap Some (sym told_is))
    ]

pub returns-clause-memory : goal.returns-clause-memory
unfolding flaw
returns-clause-memory c = λ e.
    inr (ap is_some (ap (λ xs. first_fault (items_faults [] xs)) (sym c.as_slice.ensures.value) ∙ sym c.in-Ok-Some.ensures.fault ∙ ap told c.in-Ok-Some.field-0-is))
