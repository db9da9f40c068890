-- Versions of names: how often a name was assigned or removed. An atomic block is refused if a name that it read has
-- another version when it commits.
use Rattle.std.specs.Prelude.{◌≡◌, ◌+◌, nat_eq, ℕ, Bool, false, cond, List, [], ◌∷◌, Option, Some, None}
use Rattle.std.specs.Ordering.{eq_by_cmp}
use Rattle.run_model.specs.declared.event.Event.{Event}
use Rattle.run_model.specs.declared.event.Act.{Act}
use Rattle.run_model.specs.declared.event.Act.TheVariants.{Read, Assign, Remove}
use Rattle.run_model.specs.Names.{compare, Names, lookup, set}

-- whether an act assigns or removes the name
abbrev pub changes : List ℕ → Act → Bool
changes name Read = false
changes name (Assign other rel) = eq_by_cmp compare name other
changes name (Remove other) = eq_by_cmp compare name other

-- how many of these events assigned or removed the name
abbrev pub version : List ℕ → List Event → ℕ
version name [] = 0
version name (e ∷ es) = cond (changes name e.act) 1 0 + version name es

-- noted versions; a name that is absent has version 0
abbrev pub Versions : Type 0
Versions = Names ℕ

-- the number, or 0 if there is none
abbrev pub number_or_0 : Option ℕ → ℕ
number_or_0 None = 0
number_or_0 (Some n) = n

-- the noted version of a name
abbrev pub noted : Versions → List ℕ → ℕ
noted versions name = number_or_0 (lookup versions name)

-- the version after events, given the one noted before them
abbrev pub version_behind : Versions → List Event → List ℕ → ℕ
version_behind versions es name = noted versions name + version name es

-- a name's version is raised by one
abbrev pub raised : List ℕ → Versions → Versions
raised name versions = set name (noted versions name + 1) versions

-- the version of each of these names is raised by one, once for each occurrence
abbrev pub all_raised : List (List ℕ) → Versions → Versions
all_raised [] versions = versions
all_raised (name ∷ names) versions = all_raised names (raised name versions)

-- the name that an act assigns or removes
abbrev pub changed_by : Act → List (List ℕ)
changed_by Read = []
changed_by (Assign name rel) = name ∷ []
changed_by (Remove name) = name ∷ []

-- the versions after events, as a map
abbrev pub versions_after : Versions → List Event → Versions
versions_after versions [] = versions
versions_after versions (e ∷ es) = versions_after (all_raised (changed_by e.act) versions) es

-- the map has the version of each name
abbrev pub VersionsAreCounted : Type 0
VersionsAreCounted =
    (versions : Versions) (es : List Event) (name : List ℕ)
    → noted (versions_after versions es) name ≡ version_behind versions es name

-- a name that was changed between a read and a commit, and its versions at both
pub record Change : Type 0 where
  pub name : List ℕ
  pub seen : ℕ
  pub found : ℕ

-- the first of these names whose two versions differ
abbrev pub first_changed : (List ℕ → ℕ) → (List ℕ → ℕ) → List (List ℕ) → Option Change
first_changed seen found [] = None
first_changed seen found (name ∷ names) =
    cond (nat_eq (seen name) (found name)) (first_changed seen found names)
    (Some (record { name = name; seen = seen name; found = found name }))
