use Rattle.std.proofs.Common.{◌≡◌, ◌∙◌, None, sym, ap}
use Rattle.lang_model.specs.Types.{Fits}
use Rattle.rv_types.specs.Shaping.{types_of}
use Rattle.rv_types.proofs.Bound.{first_assigned}
use Rattle.rv_types.proofs.typing_steps.assign.Goals as goal

pub returns-in-Ok : goal.returns-in-Ok
returns-in-Ok c =
    let ns = c.args.names.now.items in
    let none : types_of ns c.args.name.now ≡ None = (λ i. types_of (sym c.as_slice.ensures.value i) (sym c.bytes.ensures i)) ∙ sym c.find.ensures ∙ c.in-None.is in
    first_assigned ns c.args.at c.args.name.now c.args.shape none ∙ ap (λ xs. Fits (types_of xs)) (sym c.in-Ok.ensures)
