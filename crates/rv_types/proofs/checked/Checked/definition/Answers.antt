use Rattle.std.proofs.Common.{◌≡◌, ◌∙◌, Some, None, sym, ap, subst}
use Rattle.std.specs.List.{position_from, slice_get}
use Rattle.std.specs.Option.{option_copied}
use Rattle.lang_model.specs.Defining.{defines}
use Rattle.rv_types.specs.Defining.{IsDefinition}
use Rattle.rv_types.proofs.Defining.{at_position, copied_found, IsDefinition-position}
use Rattle.rv_types.proofs.checked.Checked.definition.Goals as goal

pub returns-in-None : goal.returns-in-None
returns-in-None c =
    let name = c.args.name.now in
    let script = c.self.inside.script in
    let items = script.items.items in
    let at : None ≡ position_from (defines name) 0 items = c.in-None.ensures ∙ c.self.invariant.1 name in
    let it : IsDefinition items name None = subst (λ o. IsDefinition items name (at_position items o)) (sym at) (IsDefinition-position script name c.self.invariant.0) in
    subst (λ s. IsDefinition s.items.items name None) c.self.view_is it

pub returns-in-Some : goal.returns-in-Some
returns-in-Some c =
    let name = c.args.name.now in
    let script = c.self.inside.script in
    let items = script.items.items in
    let number = c.in-Some.number in
    let at : Some number ≡ position_from (defines name) 0 items = c.in-Some.ensures ∙ c.self.invariant.1 name in
    let it : IsDefinition items name (slice_get items number) = subst (λ o. IsDefinition items name (at_position items o)) (sym at) (IsDefinition-position script name c.self.invariant.0) in
    let found = copied_found c.deref.result.now number c.get.result c.get.ensures.lookup.3 c.get.ensures.lookup.1 ∙ ap (λ xs. slice_get xs number) c.deref.ensures.value in
    subst (λ s. IsDefinition s.items.items name (option_copied c.get.result)) c.self.view_is (subst (IsDefinition items name) (sym found) it)
