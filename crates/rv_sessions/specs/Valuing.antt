-- The result of an expression on names, whatever its value is wanted for.
use Rattle.std.specs.Prelude.{◌≡◌, ◌⊎◌, ℕ, List, Result, Ok, Err}
use Rattle.rel_model.specs.declared.Rel.{Rel}
use Rattle.rel_model.specs.Relation.{Relation}
use Rattle.rel_model.specs.Worker.{Worker, Stands, set_of, Keeps, MakesAtMost, Rose}
use Rattle.rel_slices.specs.declared.thin.Value.{Value}
use Rattle.rel_slices.specs.Thin.{value_of}
use Rattle.rel_values.specs.Values.{Fits}
use Rattle.lang_model.specs.declared.syntax.Expr.{Expr}
use Rattle.lang_model.specs.declared.syntax.Script.{Script}
use Rattle.lang_model.specs.Eval.{Evaluated, Ahead, Comes, IsCompound, evaluated, cost_of_value}
use Rattle.run_model.specs.declared.outcome.Outcome.{Outcome}
use Rattle.run_model.specs.declared.outcome.Outcome.TheVariants.{
  Done,
  Parse,
  Ill,
  Size,
  Turns,
  Nodes as NODES,
  TooLarge,
  TooLong,
  NoFile,
  BadFile as BAD_FILE,
  NoMemory as NO_MEMORY,
  Changed,
}
use Rattle.run_model.specs.Due.{When, Due, Refused as REFUSED, due_of_value}
use Rattle.rv_eval.specs.Names.{state_of}
use Rattle.rv_eval.specs.declared.halt.Refused.{Refused}
use Rattle.rv_eval.specs.declared.halt.Refused.TheVariants.{Ill as ILL_REFUSED, Size as SIZE_REFUSED, Turns as TURNS_REFUSED, Nodes, NoMemory}

-- the outcome for a refusal of the evaluator
abbrev pub outcome_told : Refused → Outcome
outcome_told (ILL_REFUSED fault) = Ill fault
outcome_told (SIZE_REFUSED at wanted limit) = Size at wanted limit
outcome_told (TURNS_REFUSED at limit) = Turns at limit
outcome_told Nodes = NODES
outcome_told NoMemory = NO_MEMORY

-- a refusal that may be due: not a full table, not lack of memory, and not a change at a commit
abbrev pub IsRefusal : Outcome → Type 0
IsRefusal Done = ⊥
IsRefusal (Parse fault) = Unit {0}
IsRefusal (Ill fault) = Unit {0}
IsRefusal (Size at wanted limit) = Unit {0}
IsRefusal (Turns at limit) = Unit {0}
IsRefusal NODES = ⊥
IsRefusal (TooLarge wanted counted) = Unit {0}
IsRefusal (TooLong bits) = Unit {0}
IsRefusal (NoFile name) = Unit {0}
IsRefusal (BAD_FILE name kind) = Unit {0}
IsRefusal NO_MEMORY = ⊥
IsRefusal (Changed name seen found) = ⊥

-- an expression without an early fault
abbrev pub IsNotAhead : Evaluated → Type 0
IsNotAhead (Ahead fault) = ⊥
IsNotAhead (Comes came) = Unit {0}

-- the table was full: the expression is not just a name and has no early fault, and the misses rose
pub record WasFull (old new : Worker) (expr : Expr) (e : Evaluated) : Type 0 where
  pub compound : IsCompound expr
  pub not_ahead : IsNotAhead e
  pub rose : Rose old.misses new.misses

-- a refusal: it is what is due if the value is wanted for this; or the table was full; or memory ran out
abbrev pub Stopped : Worker → Worker → Expr → ℕ → Evaluated → (Relation → Due) → Outcome → Type 0
Stopped old new expr turns e then o =
    ((when : When) × (due_of_value then turns e ≡ REFUSED when o) × IsRefusal o)
    ⊎ (((o ≡ NODES) × WasFull old new expr e) ⊎ (o ≡ NO_MEMORY))

-- the result of an expression: an x that stands, for the relation `is x`; or a refusal, whatever the value is wanted
-- for
abbrev pub CameBy : {X : Type 0} → (X → Type 0) → (X → Relation) → Worker → Worker → Expr → ℕ → Evaluated
    → Result X Outcome → Type 0
CameBy stands is old new expr turns e (Ok x) =
    stands x × ((then : Relation → Due) → due_of_value then turns e ≡ then (is x))
CameBy stands is old new expr turns e (Err o) = (then : Relation → Due) → Stopped old new expr turns e then o

-- the result as a whole relation
abbrev pub CameTo : Worker → Worker → Expr → ℕ → Evaluated → Result Rel Outcome → Type 0
CameTo old new = CameBy (Stands new) (set_of new) old new

-- the result as a value, which may be lines
abbrev pub CameToValue : Worker → Worker → Expr → ℕ → Evaluated → Result Value Outcome → Type 0
CameToValue old new = CameBy (Fits new) (value_of new) old new

-- an expression was computed over names: it came to a result of this kind, everything that stood still stands, and no
-- more nodes were made than it may cost
pub record CameOver {R : Type 0} (Came : Worker → Worker → Expr → ℕ → Evaluated → R → Type 0) (leaf : ℕ)
    (script : Script) (names : List (List ℕ × Rel)) (expr : Expr) (turns : ℕ) (old new : Worker) (result : R)
    : Type 0 where
  pub came : Came old new expr turns (evaluated script (state_of old names) expr turns) result
  pub keeps : Keeps old new
  pub room : MakesAtMost (cost_of_value leaf (evaluated script (state_of old names) expr turns)) old new
