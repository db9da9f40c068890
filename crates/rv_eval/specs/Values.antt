-- The names of the walk, which have values of either form, and what a value owes: the nodes that it takes to make it
-- whole.
use Rattle.std.specs.Prelude.{◌≡◌, ℕ, max, List, [], ◌∷◌, Option, Some, option_and_then}
use Rattle.rel_model.specs.declared.Rel.{Rel}
use Rattle.rel_model.specs.Relation.{Relation}
use Rattle.rel_model.specs.Worker.{Worker}
use Rattle.rel_slices.specs.declared.thin.Value.{Value}
use Rattle.rel_slices.specs.declared.thin.Value.TheVariants.{Whole, Lines}
use Rattle.rel_slices.specs.Thin.{thin_of}
use Rattle.rel_values.specs.Values.{Fits, owed}
use Rattle.lang_model.specs.State.{State}
use Rattle.rv_eval.specs.Names.{first_of}

-- what a value means in a worker, if it is lines, or whole and standing
abbrev pub meant : Worker → Value → Option Relation
meant w (Whole r) = w.relation r
meant w (Lines s) = Some (thin_of w s)

-- the state that the names mean in a worker
abbrev pub state_by : Worker → List (List ℕ × Value) → State
state_by w names name = option_and_then (meant w) (first_of names name)

-- a name with its relation as a value
abbrev pub whole_pair_of : List ℕ × Rel → List ℕ × Value
whole_pair_of n = (n.0, Whole n.1)

-- all values of the names fit
abbrev pub AllFit : Worker → List (List ℕ × Value) → Type 0
AllFit w names = (name : List ℕ) (v : Value) → first_of names name ≡ Some v → Fits w v

-- the greatest measure of an element; 0 if there is none
abbrev pub most : {X : Type 0} → (X → ℕ) → List X → ℕ
most measure [] = 0
most measure (x ∷ xs) = max (measure x) (most measure xs)

-- the greatest measure of what is bound to a name
abbrev pub most_named : {X : Type 0} → (X → ℕ) → List (List ℕ × X) → ℕ
most_named measure names = most (λ n. measure n.1) names

-- the most that the value of a name owes
abbrev pub names_owe : ℕ → List (List ℕ × Value) → ℕ
names_owe least names = most_named (owed least) names

-- the most that a value of a list owes
abbrev pub values_owe : ℕ → List Value → ℕ
values_owe least values = most (owed least) values
