use Rattle.std.proofs.Common.{◌≡◌, ◌∙◌, ap, sym, subst, is_some, None}
use Rattle.std.specs.Prelude.{IsSome}
use Rattle.std.specs.Option.{option_copied_mut}
use Rattle.std.specs.BTreeMap.{is_at}
use Rattle.std.proofs.lemmas.Bool.{false≢true}
use Rattle.run_model.specs.Names.{compare, lookup, set, IsIncreasing}
use Rattle.name_map.proofs.Entries.{lookup-lookup, set_value-set, set_value_in_order}
use Rattle.name_map.proofs.map.NameMap.change.Goals as goal

pub returns-in_default : goal.returns-in_default
returns-in_default g c some =
    let m = c.self.inside.map.entries in
    let n = c.args.name.now in
    let none : lookup c.args.self.now n ≡ None =
    sym (ap (λ x. lookup x n) c.self.view_is) ∙ sym (lookup-lookup m n) ∙ sym c.get_mut.ensures.value ∙ ap option_copied_mut c.in_default.is in
    absurd (false≢true (sym (ap is_some none) ∙ some))

pub invariant_of-self-2 : goal.invariant_of-self-2
invariant_of-self-2 g c =
    let m = c.self.inside.map.entries in
    subst IsIncreasing (sym (c.get_mut.follows.holds c.args.value).0) (set_value_in_order (is_at (compare c.args.name.now)) m c.args.value c.self.invariant)

pub returns : goal.returns
returns g c some =
    let m = c.self.inside.map.entries in
    let n = c.args.name.now in
    (c.get_mut.follows.holds c.args.value).0
    ∙ set_value-set m n c.args.value c.self.invariant (subst IsSome (sym (ap (λ x. lookup x n) c.self.view_is)) some)
    ∙ ap (set n c.args.value) c.self.view_is
