-- The result of an expression of a command on a state: refused before anything is computed, or its meaning.
use Rattle.std.specs.Prelude.{◌≡◌, ℕ, List, [], ◌∷◌, ◌++◌, Option, Some, None, option_map}
use Rattle.std.specs.List.{AllByRecursion}
use Rattle.lang_model.specs.declared.syntax.Place.{Place}
use Rattle.lang_model.specs.declared.syntax.Expr.{
  Expr,
  Ref,
  Call',
  Base',
  Inject,
  Pair',
  Minus',
  Turned',
  Chain',
  Row_of-Expr,
  end_of-Expr,
  more_of-Expr,
  Row_of-Link,
  end_of-Link,
  more_of-Link,
}
use Rattle.lang_model.specs.declared.syntax.Script.{Script}
use Rattle.lang_model.specs.declared.faults.TypeFault.{TypeFault}
use Rattle.lang_model.specs.declared.faults.TypeFault.TheVariants.{Unknown}
use Rattle.rel_model.specs.Relation.{Relation}
use Rattle.lang_model.specs.State.{State}
use Rattle.lang_model.specs.Trees.{tree_of}
use Rattle.lang_model.specs.Rewriting.{calmed}
use Rattle.lang_model.specs.Missing.{missing, first_of_both}
use Rattle.lang_model.specs.Outcomes.{Came}
use Rattle.lang_model.specs.Types.{Fits, Misfit, Typed, sizes}
use Rattle.lang_model.specs.Shape.{Types, static_type}
use Rattle.lang_model.specs.Mean.{meaning, meaning_of_tree}

-- an expression is refused before anything is computed, or evaluated to what it means
pub data Evaluated : Type 0 where
  Ahead : TypeFault → Evaluated
  Comes : Came Relation → Evaluated

-- the types of the relations of a state
abbrev pub types_in : State → Types
types_in state name = option_map sizes (state name)

-- a static fault comes before the meaning
abbrev pub unless_misfit : Typed → Came Relation → Evaluated
unless_misfit (Misfit fault) came = Ahead fault
unless_misfit (Fits shape) came = Comes came

-- an unknown name comes before both
abbrev pub unless_missing : Option (Place × List ℕ) → Evaluated → Evaluated
unless_missing (Some name) rest = Ahead (Unknown name.0 name.1)
unless_missing None rest = rest

-- the result of one evaluation, at the cost of another
abbrev pub at_cost_of : {T : Type 0} → Came T → Came T → Came T
at_cost_of other came = record { answer = came.answer; cost = other.cost }

-- what an expression of a command means, at the cost of its calm tree, which is what is evaluated and has the same
-- result
abbrev pub meaning_when_calm : Script → State → Expr → ℕ → Came Relation
meaning_when_calm script state e turns =
    at_cost_of (meaning_of_tree script state (calmed (tree_of e)) turns) (meaning script state e turns)

-- the leftmost name that the state lacks, or the first static fault, or the meaning with this number of turns
unfoldable pub evaluated : Script → State → Expr → ℕ → Evaluated
evaluated script state e turns =
    unless_missing (missing state e)
    (unless_misfit (static_type script (types_in state) e) (meaning_when_calm script state e turns))

-- a static fault, if there is one
abbrev pub misfit_of : Typed → Option TypeFault
misfit_of (Misfit fault) = Some fault
misfit_of (Fits shape) = None

-- the early fault, found before anything is computed: the leftmost name that the state lacks, or else the first static
-- fault
unfoldable pub early_fault : Script → State → Expr → Option TypeFault
early_fault script state e =
    first_of_both (option_map (λ name. Unknown name.0 name.1) (missing state e))
    (misfit_of (static_type script (types_in state) e))

-- an early fault comes before any computed result
abbrev pub unless_early : Option TypeFault → Came Relation → Evaluated
unless_early (Some fault) came = Ahead fault
unless_early None came = Comes came

-- an expression with an early fault is refused with it, and any other has its meaning as its result
abbrev pub ComesUnlessEarly : Type 0
ComesUnlessEarly = (script : Script) (state : State) (e : Expr) (turns : ℕ)
    → evaluated script state e turns
    ≡ unless_early (early_fault script state e) (meaning_when_calm script state e turns)

-- the cost of a result; an early fault costs nothing
abbrev pub cost_of_value : ℕ → Evaluated → ℕ
cost_of_value leaf (Ahead fault) = 0
cost_of_value leaf (Comes came) = came.cost leaf

-- an expression that is not just a name
abbrev pub IsCompound : Expr → Type 0
IsCompound (Ref at name) = ⊥
IsCompound (Call' at name shape args) = Unit {0}
IsCompound (Base' at base shape args) = Unit {0}
IsCompound (Inject at base domain) = Unit {0}
IsCompound (Pair' at p left q right) = Unit {0}
IsCompound (Minus' at p of) = Unit {0}
IsCompound (Turned' at p of times) = Unit {0}
IsCompound (Chain' p first shape rest) = Unit {0}

-- ---- the names of an expression
-- the relation names that an expression of a command uses, from left to right, with repeats
abbrev mutual
  -- the names of one expression
  pub names_in : Expr → List (List ℕ)
  names_in (Ref at name) = name ∷ []
  names_in (Call' at name shape args) = names_in_all args
  names_in (Base' at base shape args) = names_in_all args
  names_in (Inject at base domain) = []
  names_in (Pair' at p left q right) = names_in left ++ names_in right
  names_in (Minus' at p of) = names_in of
  names_in (Turned' at p of times) = names_in of
  names_in (Chain' p first shape rest) = names_in first ++ names_along rest

  -- the names of arguments
  pub names_in_all : {m : _} → Row_of-Expr m → List (List ℕ)
  names_in_all end_of-Expr = []
  names_in_all (more_of-Expr e rest) = names_in e ++ names_in_all rest

  -- the names of the links of a chain
  pub names_along : {m : _} → Row_of-Link m → List (List ℕ)
  names_along end_of-Link = []
  names_along (more_of-Link at op right rest) = names_in right ++ names_along rest

-- two states give these names the same relations
abbrev pub AgreeOn : State → State → List (List ℕ) → Type 0
AgreeOn s t = AllByRecursion (λ name. s name ≡ t name)

-- the result of an expression, and its early fault, depend only on the relations of the names that it uses
pub record EvaluatedByNames : Type 0 where
  pub value : (script : Script) (s t : State) (e : Expr) (turns : ℕ)
      → AgreeOn s t (names_in e) → evaluated script s e turns ≡ evaluated script t e turns
  pub early : (script : Script) (s t : State) (e : Expr)
      → AgreeOn s t (names_in e) → early_fault script s e ≡ early_fault script t e
