-- The map of versions counts the events that change each name.
use Rattle.std.proofs.Common.{◌≡◌, ◌+◌, ℕ, Bool, cond, List, [], ◌∷◌, Some, sym, ap, ◌∙◌, inl, inr, arith}
use Rattle.std.specs.Ordering.{eq_by_cmp}
use Rattle.std.proofs.lemmas.Bool.{cases_Bool}
use Rattle.run_model.specs.declared.event.Act.{Act}
use Rattle.run_model.specs.declared.event.Act.TheVariants.{Read, Assign, Remove}
use Rattle.run_model.specs.Names.{compare, lookup}
use Rattle.run_model.specs.Versions.{changes, version, Versions, number_or_0, noted, raised, all_raised, changed_by, VersionsAreCounted}
use Rattle.run_model.proofs.Ordering.{names_laws, one_name}

abbrev once : Bool → ℕ
once b = cond b 1 0

-- a name that is raised has one more, and all others stay
noted_raised : (other name : List ℕ) (versions : Versions) → noted (raised other versions) name ≡ once (eq_by_cmp compare name other) + noted versions name
noted_raised other name versions =
    ap number_or_0 (names_laws.set_name name other (noted versions other + 1) versions) ∙ elim (cases_Bool (eq_by_cmp compare name other)) [
      | inl t ↦
          let e : noted versions other ≡ noted versions name = ap (noted versions) (sym (one_name name other t)) in
          ap (λ b. number_or_0 (cond b (Some (noted versions other + 1)) (lookup versions name))) t
          ∙ ((let f = e in omega (arith, f)) ∙ sym (ap (λ b. once b + noted versions name) t))
      | inr f ↦
          ap (λ b. number_or_0 (cond b (Some (noted versions other + 1)) (lookup versions name))) f
          ∙ (none_more (noted versions name) ∙ sym (ap (λ b. once b + noted versions name) f))
    ]
  where
    none_more : (n : ℕ) → n ≡ 0 + n
    none_more n = omega arith

act_counts : (a : Act) (name : List ℕ) (versions : Versions) → noted (all_raised (changed_by a) versions) name ≡ once (changes name a) + noted versions name
act_counts Read name versions = none_more (noted versions name)
  where
    none_more : (n : ℕ) → n ≡ 0 + n
    none_more n = omega arith
act_counts (Assign other rel) name versions = noted_raised other name versions
act_counts (Remove other) name versions = noted_raised other name versions

-- by induction on the log: an event raises the names that it changes by one, and the later events count on from there
pub versions_are_counted : VersionsAreCounted
versions_are_counted versions [] name = none_more (noted versions name)
  where
    none_more : (n : ℕ) → n ≡ n + 0
    none_more n = omega arith
versions_are_counted versions (e ∷ es) name =
    let i = versions_are_counted (all_raised (changed_by e.act) versions) es name in
    let c = act_counts e.act name versions in
    i ∙ (ap (λ n. n + version name es) c ∙ moved (once (changes name e.act)) (noted versions name) (version name es))
  where
    moved : (a b c : ℕ) → (a + b) + c ≡ b + (a + c)
    moved a b c = omega arith
