use Rattle.std.proofs.Common.{◌≡◌, ◌∙◌, ◌∷◌, [], cond, nat_eq, Some, None, sym, ap}
use Rattle.std.proofs.lemmas.List.{map-append}
use Rattle.std.specs.Map.{lookup}
use Rattle.std.specs.Option.{option_or}
use Rattle.std.specs.Cmp.Lexicographic.{pointwise}
use Rattle.indexmap.proofs.CallerLemmas.{insert_entry-new}
use Rattle.lang_model.specs.Tokens.{same_text}
use Rattle.rv_types.specs.Defining.{number_beside}
use Rattle.rv_types.proofs.Defining.{numbered, lookup-numbered, number_beside-push, number_beside-present}
use Rattle.rv_types.proofs.items_by_name.ItemsByName.add.Goals as goal

pub returns-in_ok-insert-in-None : goal.returns-in_ok-insert-in-None
returns-in_ok-insert-in-None c n =
    let map = c.self.inside.numbers in
    let key = c.in_ok-key-in-None.key in
    let number = c.args.number in
    let absent : lookup (λ k. pointwise nat_eq key.items k.items) map.entries ≡ None =
    lookup-numbered (λ k. k.items) map.entries key.items ∙ ap (number_beside (numbered (λ k. k.items) map.entries)) c.in_ok-key-in-None.ensures.items
    ∙ ap (λ es. number_beside es c.args.name.now) c.self.view_is ∙ sym c.in-None.ensures in
    ap (λ es. number_beside (numbered (λ k. k.items) es) n) (c.in_ok-insert-in-None.ensures.entries ∙ insert_entry-new _ map key number absent)
    ∙ ap (λ es. number_beside es n) (map-append (λ e. (e.0.items, e.1)) map.entries ((key, number) ∷ []))
    ∙ number_beside-push (numbered (λ k. k.items) map.entries) key.items number n
    ∙ (λ i. option_or (number_beside (c.self.view_is i) n) (cond (same_text (c.in_ok-key-in-None.ensures.items i) n) (Some number) None))

pub returns-in-Some : goal.returns-in-Some
returns-in-Some c = number_beside-present c.args.self.now c.args.name.now c.in-Some.field-0 c.args.number c.in-Some.ensures
