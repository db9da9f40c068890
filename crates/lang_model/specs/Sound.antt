-- Static sizes are the sizes of values.
use Rattle.std.specs.Prelude.{◌≡◌, ℕ, List, Option, Some, None}
use Rattle.lang_model.specs.declared.syntax.Expr.{Expr}
use Rattle.lang_model.specs.declared.syntax.Script.{Script}
use Rattle.lang_model.specs.declared.faults.StaticShape.{StaticShape}
use Rattle.rel_model.specs.Relation.{Relation}
use Rattle.lang_model.specs.State.{State}
use Rattle.lang_model.specs.Outcomes.{Answer, Got, Not}
use Rattle.lang_model.specs.Types.{Passed, Fits, Misfit}
use Rattle.lang_model.specs.Mean.{meaning}
use Rattle.lang_model.specs.Shape.{Types, static_type}

-- if the size is known, it is this one
abbrev pub IsSize : Option ℕ → ℕ → Type 0
IsSize None n = Unit {0}
IsSize (Some m) n = m ≡ n

-- the known sizes of a type are those of the relation
pub record Describes (s : StaticShape) (r : Relation) : Type 0 where
  pub row_size : IsSize s.rows r.rows
  pub col_size : IsSize s.cols r.cols

-- if a type was found and a value computed, the type describes the value
abbrev pub Agree : {A B : Type 0} → (A → B → Type 0) → Passed A → Answer B → Type 0
Agree describes (Fits s) (Got r n) = describes s r
Agree describes (Fits s) (Not why) = Unit {0}
Agree describes (Misfit fault) answer = Unit {0}

-- if there is a relation, there is a type that describes it
abbrev pub CoversAt : Option StaticShape → Option Relation → Type 0
CoversAt t None = Unit {0}
CoversAt None (Some r) = ⊥
CoversAt (Some s) (Some r) = Describes s r

-- each name with a relation has a type that describes it
abbrev pub Covers : Types → State → Type 0
Covers types state = (name : List ℕ) → CoversAt (types name) (state name)

-- a static size of an expression, if known, is the size of its value
abbrev pub StaticSizesHold : Type 0
StaticSizesHold = (script : Script) (types : Types) (state : State) (e : Expr) (n : ℕ) → Covers types state
    → Agree Describes (static_type script types e) (meaning script state e n).answer
