-- Laws of the states of names.
use Rattle.std.specs.Prelude.{◌≡◌, ◌≢◌, ℕ, List, Some, None}
use Rattle.rel_model.specs.Relation.{Relation}
use Rattle.lang_model.specs.State.{State, nothing, assigned, removed}

-- at first no name has a relation; assigning or removing a name changes that name only
pub record StateLaws : Type 0 where
  pub at_first : (n : List ℕ) → nothing n ≡ None
  pub assigned_name : (name : List ℕ) (r : Relation) (state : State) → assigned name r state name ≡ Some r
  pub other_names_stay : (name n : List ℕ) (r : Relation) (state : State) → name ≢ n → assigned name r state n ≡ state n
  pub removed_name : (name : List ℕ) (state : State) → removed name state name ≡ None
  pub others_stay : (name n : List ℕ) (state : State) → name ≢ n → removed name state n ≡ state n
