-- Which names a read takes.
use Rattle.std.specs.Prelude.{ℕ, Bool, List, Option, Some, None}
use Rattle.std.specs.List.{list_any}
use Rattle.std.specs.Ordering.{eq_by_cmp}
use Rattle.std.specs.FinMap.Entries.{where_key}
use Rattle.rel_model.specs.declared.Rel.{Rel}
use Rattle.run_model.specs.Names.{compare, set}
use Rattle.run_model.specs.Carried.{Carried}

-- the name is one of the given names
abbrev pub is_among : List (List ℕ) → List ℕ → Bool
is_among wanted name = list_any (eq_by_cmp compare name) wanted

-- those names that are wanted, each once, in order, with their relations
abbrev pub among : List (List ℕ) → Carried → Carried
among wanted names = where_key compare (is_among wanted) names

-- those names that are wanted, or all of them
abbrev pub picked : Option (List (List ℕ)) → Carried → Carried
picked None names = names
picked (Some wanted) names = among wanted names

-- with one more name, if it has a relation
abbrev pub with_name : List ℕ → Option Rel → Carried → Carried
with_name name None names = names
with_name name (Some rel) names = set name rel names
