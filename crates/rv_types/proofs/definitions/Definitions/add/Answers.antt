use Rattle.std.proofs.Common.{◌≡◌, ◌∙◌, ◌++◌, ◌∷◌, [], nat_eq, Option, None, Some, option_map, refl, sym, ap}
use Rattle.std.proofs.lemmas.List.{map-append}
use Rattle.std.specs.Map.{lookup}
use Rattle.std.specs.Cmp.Lexicographic.{pointwise}
use Rattle.indexmap.proofs.CallerLemmas.{insert_entry-new}
use Rattle.lang_model.specs.Checking.{Known, definition_of}
use Rattle.rv_types.specs.Definitions.{known_as, summary_of}
use Rattle.rv_types.proofs.Naming.{at_error, knowns, lookup-knowns, definition_of-present}
use Rattle.rv_types.proofs.definitions.Definitions.add.Goals as goal

-- a name that is not found has no definition
none_mapped : (o : Option Known) → None ≡ option_map summary_of o → o ≡ None
none_mapped None e = refl
none_mapped (Some known) e = cc

pub returns-in_ok-insert-in-None-clause-known : goal.returns-in_ok-insert-in-None-clause-known
returns-in_ok-insert-in-None-clause-known c n =
    let map = c.self.inside.by_name in
    let key = c.in_ok-key-in-None.key in
    let summary = c.args.summary in
    let absent : lookup (λ k. pointwise nat_eq key.items k.items) map.entries ≡ None =
    lookup-knowns (λ k. k.items) map.entries key.items ∙ ap (λ t. option_map summary_of (definition_of (knowns (λ k. k.items) map.entries) t)) c.in_ok-key-in-None.ensures.items
    ∙ ap (λ ds. option_map summary_of (definition_of ds c.args.name.now)) c.self.view_is ∙ sym c.in-None.ensures in
    ap (λ es. definition_of (knowns (λ k. k.items) es) n) (c.in_ok-insert-in-None.ensures.entries ∙ insert_entry-new _ map key summary absent)
    ∙ ap (λ ds. definition_of ds n) (map-append (λ e. known_as e.0.items e.1) map.entries ((key, summary) ∷ []))
    ∙ (λ i. definition_of (c.self.view_is i ++ known_as (c.in_ok-key-in-None.ensures.items i) summary ∷ []) n)

pub returns-in-Some-clause-known : goal.returns-in-Some-clause-known
returns-in-Some-clause-known c = definition_of-present c.args.self.now (known_as c.args.name.now c.args.summary) c.in-Some.field-0 c.in-Some.ensures

pub returns-in_err-key-in-None-clause-memory : goal.returns-in_err-key-in-None-clause-memory
returns-in_err-key-in-None-clause-memory c = at_error c.from_residual.result _ (none_mapped (definition_of c.args.self.now c.args.name.now) c.in-None.ensures)

pub returns-in_err-insert-in-None-clause-memory : goal.returns-in_err-insert-in-None-clause-memory
returns-in_err-insert-in-None-clause-memory c = at_error c.from_residual-in_err-insert-in-None.result _ (none_mapped (definition_of c.args.self.now c.args.name.now) c.in-None.ensures)
