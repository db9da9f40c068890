-- The names of an evaluation and their relations. If a name occurs several times, its first entry counts.
use Rattle.std.specs.Prelude.{◌≡◌, ℕ, cond, List, [], ◌∷◌, Option, Some, None, option_and_then, option_map}
use Rattle.rel_model.specs.declared.Rel.{Rel}
use Rattle.rel_model.specs.Operators.{empty}
use Rattle.rel_model.specs.Worker.{Worker, Stands, set_of}
use Rattle.lang_model.specs.Tokens.{same_text}
use Rattle.lang_model.specs.declared.faults.StaticShape.{StaticShape}
use Rattle.lang_model.specs.State.{State}
use Rattle.lang_model.specs.Types.{known}

-- what is bound to a name: its first entry
abbrev pub first_of : {X : Type 0} → List (List ℕ × X) → List ℕ → Option X
first_of [] name = None
first_of (n ∷ ns) name = cond (same_text n.0 name) (Some n.1) (first_of ns name)

-- the relation of a name
abbrev pub rel_of : List (List ℕ × Rel) → List ℕ → Option Rel
rel_of names name = first_of names name

-- the state that the names mean in a worker
abbrev pub state_of : Worker → List (List ℕ × Rel) → State
state_of w names name = option_and_then w.relation (rel_of names name)

-- the state in which each name has the empty relation of its sizes
abbrev pub sized : List (List ℕ × Rel) → State
sized names name = option_map (λ r. empty r.rows r.cols) (rel_of names name)

-- a name with the type of its relation
abbrev pub typed_pair_of : List ℕ × Rel → List ℕ × StaticShape
typed_pair_of n = (n.0, known n.1.rows n.1.cols)

-- all relations of the names stand
abbrev pub AllStand : Worker → List (List ℕ × Rel) → Type 0
AllStand w names = (name : List ℕ) (r : Rel) → rel_of names name ≡ Some r → Stands w r

-- the sizes of a relation that stands are those of its set
pub record HasSizes (w : Worker) : Type 0 where
  pub rows : (r : Rel) → Stands w r → (set_of w r).rows ≡ r.rows
  pub cols : (r : Rel) → Stands w r → (set_of w r).cols ≡ r.cols

-- binds the first parameter to the first value; the given function binds the others
abbrev pub beside_first : {X : Type 0} → List ℕ → (List X → List (List ℕ × X)) → List X → List (List ℕ × X)
beside_first p rest [] = []
beside_first p rest (v ∷ vs) = (p, v) ∷ rest vs

-- parameters paired with their values, as far as there are both
abbrev pub beside : {X : Type 0} → List (List ℕ) → List X → List (List ℕ × X)
beside [] = λ vs. []
beside (p ∷ ps) = beside_first p (beside ps)
