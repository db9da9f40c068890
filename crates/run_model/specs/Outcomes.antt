-- Which outcomes are lawful for an item, given what is due of it.
use Rattle.std.specs.Prelude.{◌≡◌, ◌⊎◌, ℕ, List, Option, Some, None, IsSome}
use Rattle.std.specs.List.{AllByRecursion}
use Rattle.lang_model.specs.Eval.{IsCompound}
use Rattle.lang_model.specs.declared.syntax.Command.{Command}
use Rattle.lang_model.specs.declared.syntax.Command.TheVariants.{
  Relation as RELATION,
  Let,
  Print as PRINT,
  List as LIST,
  Count,
  Typed,
  Remove as DROP,
  Snap,
  At,
  Load,
  Save,
  LoadAll,
  SaveAll,
  Atomic,
  Explain,
}
use Rattle.lang_model.specs.declared.syntax.Item.{Item}
use Rattle.lang_model.specs.declared.syntax.Item.TheVariants.{Function, Program, Command as COMMAND}
use Rattle.lang_model.specs.declared.syntax.Script.{Script}
use Rattle.run_model.specs.declared.outcome.Outcome.{Outcome}
use Rattle.run_model.specs.declared.outcome.Outcome.TheVariants.{Done, Nodes, NoMemory, Changed}
use Rattle.run_model.specs.Inputs.{Input}
use Rattle.run_model.specs.Due.{
  When,
  Early,
  Late,
  Due,
  Nothing,
  Value,
  Values,
  Bytes,
  Explained,
  Refused,
  outcome_due,
}
use Rattle.run_model.specs.Blocks.{AnyCompound}
use Rattle.lang_model.specs.declared.syntax.Let.{Let as BlockLet}
use Rattle.run_model.specs.Steps.{Step, due_at}

-- a command that makes a relation or applies an operator, so that it may be refused by a full table
abbrev pub WantsNodes : Command → Type 0
WantsNodes (RELATION name rows rows_at cols cols_at list) = Unit {0}
WantsNodes (Let name e) = IsCompound e
WantsNodes (PRINT e) = IsCompound e
WantsNodes (LIST e) = IsCompound e
WantsNodes (Count e) = IsCompound e
WantsNodes (Typed e) = IsCompound e
WantsNodes (DROP at name) = ⊥
WantsNodes (Snap name) = ⊥
WantsNodes (At at name e) = IsCompound e
WantsNodes (Load name file) = Unit {0}
WantsNodes (Save e file) = IsCompound e
WantsNodes (LoadAll file) = Unit {0}
WantsNodes (SaveAll file) = ⊥
WantsNodes (Atomic lets) = AnyCompound lets.items
WantsNodes (Explain e) = ⊥

-- a late refusal; an early one comes before any node is asked for
abbrev pub IsLate : When → Type 0
IsLate Early = ⊥
IsLate Late = Unit {0}

-- no early refusal is due
abbrev pub IsNotEarly : Due → Type 0
IsNotEarly Nothing = Unit {0}
IsNotEarly (Value r) = Unit {0}
IsNotEarly (Values gifts) = Unit {0}
IsNotEarly (Bytes bytes) = Unit {0}
IsNotEarly (Explained steps) = Unit {0}
IsNotEarly (Refused when outcome) = IsLate when

-- the table may have been full for a command that needs nodes, unless an early refusal is due
abbrev pub MayLackNodes : Item → Due → Type 0
MayLackNodes (COMMAND command) d = WantsNodes command × IsNotEarly d
MayLackNodes (Function at name params body) d = ⊥
MayLackNodes (Program at name params decls body result) d = ⊥

-- memory may have run out for any command, but for no definition
abbrev pub MayLackMemory : Item → Type 0
MayLackMemory (COMMAND command) = Unit {0}
MayLackMemory (Function at name params body) = ⊥
MayLackMemory (Program at name params decls body result) = ⊥

-- the assignments of an atomic block; other items have none
abbrev pub lets_of : Item → Option (List BlockLet)
lets_of (COMMAND (Atomic lets)) = Some lets.items
lets_of item = None

-- an atomic block may be refused at its commit, if it is due to be done
abbrev pub MayBeChanged : Item → Due → Type 0
MayBeChanged item d = IsSome (lets_of item) × (outcome_due d ≡ Done)

-- a name was changed before the commit of an item
abbrev pub IsChanged : Outcome → Type 0
IsChanged outcome = (name : List ℕ) × (seen found : ℕ) × (outcome ≡ Changed name seen found)

-- the outcome is the one that is due; or the table was full; or memory ran out; or a block was refused at its commit,
-- and `CommitsFrom` in `Legal.antt` says when
abbrev pub IsOutcome : Item → Due → Outcome → Type 0
IsOutcome item d outcome =
    (outcome ≡ outcome_due d)
    ⊎ (((outcome ≡ Nodes) × MayLackNodes item d) ⊎ (((outcome ≡ NoMemory) × MayLackMemory item)
    ⊎ (IsChanged outcome × MayBeChanged item d)))

-- each step's outcome is lawful
abbrev pub AreOutcomes : Input → Script → List Step → Type 0
AreOutcomes input script = AllByRecursion (λ step. IsOutcome step.item (due_at input script step) step.outcome)
