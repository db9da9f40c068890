-- Rewriting keeps the meaning: a tree and its calm tree have the same result, in an expression of a command whose types
-- fit.
use Rattle.std.specs.Prelude.{◌≡◌, ◌<◌, ℕ, List, true, Some, None, IfSome}
use Rattle.std.specs.List.{AllByRecursion}
use Rattle.lang_model.specs.declared.syntax.Expr.{Expr}
use Rattle.lang_model.specs.declared.syntax.Script.{Script}
use Rattle.lang_model.specs.declared.faults.StaticShape.{StaticShape}
use Rattle.rel_model.specs.Relation.{IsRelation}
use Rattle.lang_model.specs.State.{State}
use Rattle.lang_model.specs.Trees.{Tree, tree_of}
use Rattle.lang_model.specs.Types.{Fits}
use Rattle.lang_model.specs.Shape.{static_type, static_type_of_tree}
use Rattle.lang_model.specs.Mean.{meaning, meaning_of_tree}
use Rattle.lang_model.specs.Eval.{types_in}
use Rattle.lang_model.specs.Rewriting.{Step, is_step, next_step, weight, steps_of, calmed}

-- the values of the names of a state are valid relations
abbrev pub AreRelations : State → Type 0
AreRelations state = (name : List ℕ) → IfSome (state name) IsRelation

-- if the static types of an expression of a command fit, its calm tree has the same static type, and the same value
-- with the same turns left, or the same refusal, for any number of turns
pub record CalmMeansTheSame : Type 0 where
  pub meaning : (script : Script) (state : State) (e : Expr) (type : StaticShape) (n : ℕ) → AreRelations state
      → static_type script (types_in state) e ≡ Fits type
      → (meaning_of_tree script state (calmed (tree_of e)) n).answer ≡ (meaning script state e n).answer
  pub type : (script : Script) (state : State) (e : Expr) (type : StaticShape) → AreRelations state
      → static_type script (types_in state) e ≡ Fits type
      → static_type_of_tree script (types_in state) (calmed (tree_of e)) ≡ Fits type

-- each step lowers the weight, so a tree has at most as many steps as its weight, and no rule applies in a calm tree
pub record StepsEnd : Type 0 where
  pub lower : (t : Tree) (step : Step) (u : Tree) → next_step t ≡ Some (step, u) → weight u < weight t
  pub last : (t : Tree) → next_step (calmed t) ≡ None

-- every step listed for a tree is a valid step
abbrev pub StepsAreSteps : Type 0
StepsAreSteps = (t : Tree) → AllByRecursion (λ s. is_step s ≡ true) (steps_of t)
