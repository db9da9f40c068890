use Rattle.std.proofs.Common.{◌∙◌, ap, sym, subst}
use Rattle.run_model.specs.Names.{lookup, set, IsIncreasing}
use Rattle.run_model.proofs.Ordering.{names_laws}
use Rattle.name_map.proofs.Entries.{insert_entry-set, lookup-lookup}
use Rattle.name_map.proofs.map.NameMap.put.Goals as goal

pub invariant_of-self-2 : goal.invariant_of-self-2
invariant_of-self-2 g c =
    let m = c.self.inside.map.entries in
    subst IsIncreasing (sym (c.in-Ok.ensures.entries ∙ insert_entry-set m c.args.name c.args.value)) (names_laws.set_in_order c.args.name c.args.value m c.self.invariant)

pub returns-clause-value : goal.returns-clause-value
returns-clause-value g c =
    let m = c.self.inside.map.entries in
    c.in-Ok.ensures.entries ∙ insert_entry-set m c.args.name c.args.value ∙ ap (set c.args.name c.args.value) c.self.view_is

pub returns-clause-had : goal.returns-clause-had
returns-clause-had g c =
    let m = c.self.inside.map.entries in
    c.in-Ok.ensures.old ∙ lookup-lookup m c.args.name ∙ ap (λ x. lookup x c.args.name) c.self.view_is
