-- What the evaluator answers, compared with the meaning.
use Rattle.std.specs.Prelude.{◌≡◌, ◌≤◌, ◌+◌, ℕ, List, Result, Ok, Err, IfOk, IfErr}
use Rattle.rel_model.specs.declared.Rel.{Rel}
use Rattle.rel_slices.specs.declared.thin.Value.{Value}
use Rattle.rel_slices.specs.declared.thin.Value.TheVariants.{Whole}
use Rattle.rel_slices.specs.Thin.{value_of}
use Rattle.rel_values.specs.Values.{Fits, owed}
use Rattle.rel_model.specs.declared.Lack.{Lack}
use Rattle.lang_model.specs.declared.syntax.Place.{Place}
use Rattle.rel_model.specs.declared.faults.DomainError.{DomainError}
use Rattle.rel_model.specs.declared.faults.DomainError.TheVariants.{Size as DOMAIN_SIZE, Full as DOMAIN_FULL, NoMemory as DOMAIN_NO_MEMORY}
use Rattle.rel_model.specs.declared.Lack.TheVariants.{Full, NoMemory}
use Rattle.rel_model.specs.Relation.{Relation}
use Rattle.rel_model.specs.Worker.{Worker, Keeps, MakesAtMost, Rose}
use Rattle.lang_model.specs.State.{State}
use Rattle.rv_eval.specs.Values.{state_by, names_owe}
use Rattle.rv_eval.specs.declared.halt.Halt.{Halt}
use Rattle.rv_eval.specs.declared.halt.Halt.TheVariants.{Ill as ILL, Size as SIZE, Turns as TURNS, Lack as LACK}
use Rattle.lang_model.specs.Outcomes.{Ill, Size, Turns, Answer, Got, Not, Came, Operation, with_turns}

-- why there is no value: the meaning is this refusal, or the table was full, or memory ran out
abbrev pub HasHalted : {T : Type 0} → Worker → Worker → Answer T → Halt → Type 0
HasHalted old new answer (ILL fault) = answer ≡ Not (Ill fault)
HasHalted old new answer (SIZE at wanted) = answer ≡ Not (Size at wanted)
HasHalted old new answer (TURNS at) = answer ≡ Not (Turns at)
HasHalted old new answer (LACK Full) = Rose old.misses new.misses
HasHalted old new answer (LACK NoMemory) = Unit {0}

-- An evaluation ends as its meaning does, in a worker whose leaves have height leaf. A value owes the nodes that making
-- it whole would take: the values at hand owe at most start, and an answer x owes at most owing x.
pub record Ends (leaf : ℕ) {T X : Type 0} (old new : Worker) (before left start : ℕ) (came : Came T) (is : X → T)
    (owing : X → ℕ) (result : Result X Halt) : Type 0 where
  -- a value is that of the meaning, and as many turns are left
  pub value : IfOk result (λ x. came.answer ≡ Got (is x) left)
  -- anything else has its cause
  pub halted : IfErr result (HasHalted old new came.answer)
  -- everything that stood still stands
  pub keeps : Keeps old new
  -- at most as many nodes were made as the meaning costs
  pub room : MakesAtMost (came.cost leaf) old new
  -- with the nodes that the answer owes, at most as many as the meaning costs and were owed at the start
  pub owes : IfOk result (λ x. new.made + owing x ≤ old.made + (start + came.cost leaf))
  pub turns : left ≤ before

-- an operation on values ends: it takes no turn, and its own cost covers what its operands owe
abbrev pub EndsOnce : ℕ → Worker → Worker → Operation → Result Value Halt → Type 0
EndsOnce leaf old new o result = Ends leaf old new 0 0 0 (with_turns o 0) (value_of new) (owed leaf) result

-- an operation on values is performed: it ends, and its value fits
pub record Performs (leaf : ℕ) (old new : Worker) (o : Operation) (result : Result Value Halt) : Type 0 where
  pub ends : EndsOnce leaf old new o result
  pub fits : IfOk result (Fits new)

-- an evaluation ends with a value, or as its meaning does
abbrev pub EndsWith : ℕ → Worker → Worker → ℕ → ℕ → ℕ → Came Relation → Result Value Halt → Type 0
EndsWith leaf old new before left start came result =
    Ends leaf old new before left start came (value_of new) (owed leaf) result

-- statements end with new values of the names, or as their meaning does
abbrev pub EndsRun : ℕ → Worker → Worker → ℕ → ℕ → List (List ℕ × Value) → List (List ℕ × Value) → Came State
    → Result Unit Halt → Type 0
EndsRun leaf old new before left names after came result =
    Ends leaf old new before left (names_owe leaf names) came (λ x. state_by new after) (λ x. names_owe leaf after)
    result

-- the result of an operation, as a whole value
abbrev pub wholly : {X : Type 0} → Result Rel X → Result Value X
wholly (Ok rel) = Ok (Whole rel)
wholly (Err e) = Err e

-- the result of an operation on values, as an evaluation reports it
abbrev pub lifted : Result Value Lack → Result Value Halt
lifted (Ok v) = Ok v
lifted (Err lack) = Err (LACK lack)

-- the same for an operation whose result may be too large
abbrev pub domain_lifted : Place → Result Value DomainError → Result Value Halt
domain_lifted at (Ok v) = Ok v
domain_lifted at (Err (DOMAIN_SIZE wanted limit)) = Err (SIZE at wanted)
domain_lifted at (Err DOMAIN_FULL) = Err (LACK Full)
domain_lifted at (Err DOMAIN_NO_MEMORY) = Err (LACK NoMemory)
