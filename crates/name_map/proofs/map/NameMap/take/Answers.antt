use Rattle.std.proofs.Common.{◌∙◌, ap, sym, subst, is_some}
use Rattle.run_model.specs.Names.{lookup, remove, IsIncreasing}
use Rattle.run_model.proofs.Ordering.{names_laws}
use Rattle.name_map.proofs.Entries.{remove_entry-remove, lookup-lookup}
use Rattle.name_map.proofs.map.NameMap.take.Goals as goal

pub invariant_of-self : goal.invariant_of-self
invariant_of-self g c =
    let m = c.self.inside.map.entries in
    let n = c.args.name.now in
    subst IsIncreasing (sym (c.remove.ensures.entries ∙ remove_entry-remove m n c.self.invariant)) (names_laws.removed_in_order n m c.self.invariant)

pub returns-clause-had : goal.returns-clause-had
returns-clause-had g c =
    let m = c.self.inside.map.entries in
    let n = c.args.name.now in
    c.is_some.ensures ∙ ap is_some (c.remove.ensures.value ∙ lookup-lookup m n ∙ ap (λ x. lookup x n) c.self.view_is)

pub returns-clause-value : goal.returns-clause-value
returns-clause-value g c =
    let m = c.self.inside.map.entries in
    let n = c.args.name.now in
    c.remove.ensures.entries ∙ remove_entry-remove m n c.self.invariant ∙ ap (remove n) c.self.view_is
