-- What the public call answers.
use Rattle.std.specs.Prelude.{◌≡◌, ◌≤◌, ◌+◌, ℕ, List, Option, Some, None, Result, Ok, Err, IfOk, IsErrOf}
use Rattle.std.specs.declared.alloc.Global.{Global}
use Rattle.std.specs.declared.vec.Vec.{Vec}
use Rattle.lang_model.specs.Rewriting.{Step as Rewritten}
use Rattle.rv_rewrite.specs.declared.step.Step.{Step}
use Rattle.rv_rewrite.specs.Steps.{steps_by_trees}
use Rattle.rel_model.specs.declared.Rel.{Rel}
use Rattle.rel_model.specs.declared.Lack.TheVariants.{Full, NoMemory as NO_MEMORY}
use Rattle.lang_model.specs.declared.faults.TypeFault.{TypeFault}
use Rattle.lang_model.specs.declared.faults.TypeFault.TheVariants.{NoMemory as FAULT_NO_MEMORY}
use Rattle.rel_model.specs.Relation.{Relation, size_limit}
use Rattle.rel_model.specs.Worker.{Worker, set_of, Rose, MissesNothing, Keeps, MakesAtMost}
use Rattle.rel_slices.specs.declared.thin.Value.{Value}
use Rattle.rel_slices.specs.Thin.{value_of, IsLines}
use Rattle.rel_values.specs.Values.{Fits, owed}
use Rattle.lang_model.specs.declared.syntax.Expr.{Expr}
use Rattle.lang_model.specs.Outcomes.{Ill, Size, Turns, Answer, Got, Not}
use Rattle.lang_model.specs.Eval.{Evaluated, Ahead, Comes, cost_of_value, IsCompound}
use Rattle.rv_eval.specs.declared.halt.Halt.{Halt}
use Rattle.rv_eval.specs.declared.halt.Halt.TheVariants.{Ill as ILL, Size as SIZE, Turns as TURNS, Lack as LACK}
use Rattle.rv_eval.specs.declared.halt.Refused.{Refused}
use Rattle.rv_eval.specs.declared.halt.Refused.TheVariants.{Ill as IllRefused, Size as SizeRefused, Turns as TurnsRefused, Nodes, NoMemory}

-- a fault as a refusal; if the fault is that memory ran out, the refusal is too
abbrev pub told_ill : TypeFault → Refused
told_ill FAULT_NO_MEMORY = NoMemory
told_ill fault = IllRefused fault

-- a refusal, with the limit that was passed
abbrev pub told : ℕ → Halt → Refused
told turns (ILL fault) = told_ill fault
told turns (SIZE at wanted) = SizeRefused at wanted size_limit
told turns (TURNS at) = TurnsRefused at turns
told turns (LACK Full) = Nodes
told turns (LACK NO_MEMORY) = NoMemory

-- The answer is that of the meaning: its value, of which x is a form if `is x` is its relation, or its refusal with the
-- limit that was passed; or else the table was full, or memory ran out.
abbrev pub IsAnswerBy : {X : Type 0} → (X → Relation) → Worker → Worker → ℕ → Answer Relation → Result X Refused
    → Type 0
IsAnswerBy is old new turns answer (Ok x) = (left : ℕ) × (answer ≡ Got (is x) left)
IsAnswerBy is old new turns answer (Err (IllRefused fault)) = answer ≡ Not (Ill fault)
IsAnswerBy is old new turns answer (Err (SizeRefused at wanted limit)) =
    (answer ≡ Not (Size at wanted)) × (limit ≡ size_limit)
IsAnswerBy is old new turns answer (Err (TurnsRefused at limit)) = (answer ≡ Not (Turns at)) × (limit ≡ turns)
IsAnswerBy is old new turns answer (Err Nodes) = Rose old.misses new.misses
IsAnswerBy is old new turns answer (Err NoMemory) = Unit {0}

-- an expression that is refused before anything is computed is refused for this fault, or because memory ran out
abbrev pub IsRefusedFor : {X : Type 0} → TypeFault → Result X Refused → Type 0
IsRefusedFor fault (Ok x) = ⊥
IsRefusedFor fault (Err (IllRefused own)) = own ≡ fault
IsRefusedFor fault (Err (SizeRefused at wanted limit)) = ⊥
IsRefusedFor fault (Err (TurnsRefused at limit)) = ⊥
IsRefusedFor fault (Err Nodes) = ⊥
IsRefusedFor fault (Err NoMemory) = Unit {0}

-- the answer is what the expression evaluates to; if it has a fault that is found before anything is computed, the
-- misses do not rise
abbrev pub IsEvaluatedBy : {X : Type 0} → (X → Relation) → Worker → Worker → ℕ → Evaluated → Result X Refused → Type 0
IsEvaluatedBy is old new turns (Ahead fault) result = IsRefusedFor fault result × MissesNothing old new
IsEvaluatedBy is old new turns (Comes came) result = IsAnswerBy is old new turns came.answer result

-- What an evaluation of a command's expression promises, if its result is e and its answer a value in either form.
pub record Evaluates (least : ℕ) (old new : Worker) (turns : ℕ) (expr : Expr) (e : Evaluated)
    (result : Result Value Refused) : Type 0 where
  pub answer : IsEvaluatedBy (value_of new) old new turns e result
  -- a plain name is never refused for a full table, and never lines
  pub compound : IsErrOf result Nodes → IsCompound expr
  pub lines : IfOk result (λ v. IsLines v → IsCompound expr)
  -- that memory ran out is an answer of its own, no fault
  pub memory : IsErrOf result (IllRefused FAULT_NO_MEMORY) → ⊥
  pub fits : IfOk result (Fits new)
  -- everything that stood still stands
  pub keeps : Keeps old new
  pub room : MakesAtMost (cost_of_value least e) old new
  -- making the value whole is within the cost too
  pub owes : IfOk result (λ v. new.made + owed least v ≤ old.made + cost_of_value least e)

-- the same of a whole relation
abbrev pub IsEvaluated : Worker → Worker → ℕ → Evaluated → Result Rel Refused → Type 0
IsEvaluated old new turns e result = IsEvaluatedBy (set_of new) old new turns e result

-- a refusal before anything is computed is for this fault, or because memory ran out
abbrev pub IsRefusedAhead : Option TypeFault → Refused → Type 0
IsRefusedAhead early (IllRefused own) = early ≡ Some own
IsRefusedAhead early (SizeRefused at wanted limit) = ⊥
IsRefusedAhead early (TurnsRefused at limit) = ⊥
IsRefusedAhead early Nodes = ⊥
IsRefusedAhead early NoMemory = Unit {0}

-- the steps are these, and there is no fault found before anything is computed; or it is refused for such a fault, or
-- memory ran out
abbrev pub IsExplained : Option TypeFault → List Rewritten → Result (Vec Step Global) Refused → Type 0
IsExplained early steps (Ok told) = (early ≡ None) × (steps_by_trees told.items ≡ steps)
IsExplained early steps (Err refused) = IsRefusedAhead early refused
