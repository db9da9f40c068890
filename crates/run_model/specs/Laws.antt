-- What items see of the workspace.
use Rattle.std.specs.Prelude.{◌≡◌, ℕ, Bool, true, false, List, [], ◌∷◌, Option, Some, None}
use Rattle.lang_model.specs.declared.syntax.Command.{Command}
use Rattle.lang_model.specs.declared.syntax.Command.TheVariants.{
  Relation as RELATION,
  Let,
  Print as PRINT,
  List as LIST,
  Count,
  Typed,
  Remove as DROP,
  Snap,
  At,
  Load,
  Save,
  LoadAll,
  SaveAll,
  Atomic,
  Explain,
}
use Rattle.lang_model.specs.declared.syntax.Item.{Item}
use Rattle.lang_model.specs.declared.syntax.Item.TheVariants.{Function, Program, Command as COMMAND}
use Rattle.lang_model.specs.declared.syntax.Script.{Script}
use Rattle.lang_model.specs.Eval.{names_in, AgreeOn}
use Rattle.run_model.specs.Names.{lookup}
use Rattle.run_model.specs.Inputs.{Input}
use Rattle.run_model.specs.Due.{
  Early,
  Late,
  Workspace,
  Due,
  Nothing,
  Value,
  Values,
  Bytes,
  Explained,
  Refused,
  due_of_block,
  due,
}
use Rattle.lang_model.specs.Blocks.{names_read}
use Rattle.run_model.specs.Blocks.{block_reads}
use Rattle.run_model.specs.declared.event.Event.{Event}
use Rattle.lang_model.specs.declared.syntax.Let.{Let as BlockLet}
use Rattle.run_model.specs.States.{before_second, state_after, state_for}
use Rattle.run_model.specs.Legal.{change_for}
use Rattle.run_model.specs.Outcomes.{WantsNodes}
use Rattle.run_model.specs.Cost.{cost_of_command, cost_of_item}

-- the names whose relations a command takes from the workspace
abbrev pub names_of_command : Command → List (List ℕ)
names_of_command (RELATION name rows rows_at cols cols_at list) = []
names_of_command (Let name e) = names_in e
names_of_command (PRINT e) = names_in e
names_of_command (LIST e) = names_in e
names_of_command (Count e) = names_in e
names_of_command (Typed e) = names_in e
names_of_command (DROP at name) = name ∷ []
names_of_command (Snap name) = []
names_of_command (At at name e) = []
names_of_command (Load name file) = []
names_of_command (Save e file) = names_in e
names_of_command (LoadAll file) = []
names_of_command (SaveAll file) = []
names_of_command (Atomic lets) = names_read lets.items
names_of_command (Explain e) = names_in e

-- the names whose relations a command takes from the snapshot that it asks for
abbrev pub names_of_snapshot : Command → List (List ℕ)
names_of_snapshot (RELATION name rows rows_at cols cols_at list) = []
names_of_snapshot (Let name e) = []
names_of_snapshot (PRINT e) = []
names_of_snapshot (LIST e) = []
names_of_snapshot (Count e) = []
names_of_snapshot (Typed e) = []
names_of_snapshot (DROP at name) = []
names_of_snapshot (Snap name) = []
names_of_snapshot (At at name e) = names_in e
names_of_snapshot (Load name file) = []
names_of_snapshot (Save e file) = []
names_of_snapshot (LoadAll file) = []
names_of_snapshot (SaveAll file) = []
names_of_snapshot (Atomic lets) = []
names_of_snapshot (Explain e) = []

-- whether a command takes all relations of the workspace
abbrev pub all_of_command : Command → Bool
all_of_command (RELATION name rows rows_at cols cols_at list) = false
all_of_command (Let name e) = false
all_of_command (PRINT e) = false
all_of_command (LIST e) = false
all_of_command (Count e) = false
all_of_command (Typed e) = false
all_of_command (DROP at name) = false
all_of_command (Snap name) = true
all_of_command (At at name e) = false
all_of_command (Load name file) = false
all_of_command (Save e file) = false
all_of_command (LoadAll file) = false
all_of_command (SaveAll file) = true
all_of_command (Atomic lets) = false
all_of_command (Explain e) = false

-- the same for items
abbrev pub takes_all : Item → Bool
takes_all (COMMAND command) = all_of_command command
takes_all (Function at name params body) = false
takes_all (Program at name params decls body result) = false

-- two states are equal if an item takes all relations
abbrev pub OneWhereAll : Bool → Workspace → Workspace → Type 0
OneWhereAll false s t = Unit {0}
OneWhereAll true s t = s ≡ t

-- the names whose relations an item takes from the workspace; a definition takes none
abbrev pub names_taken : Item → List (List ℕ)
names_taken (COMMAND command) = names_of_command command
names_taken (Function at name params body) = []
names_taken (Program at name params decls body result) = []

-- the names whose relations an item takes from the snapshot that it asks for
abbrev pub names_asked : Item → List (List ℕ)
names_asked (COMMAND command) = names_of_snapshot command
names_asked (Function at name params body) = []
names_asked (Program at name params decls body result) = []

-- two states look alike to an item: they have the same relations of the names that it takes, and are equal if it takes
-- all
abbrev pub LooksAlike : Item → Workspace → Workspace → Type 0
LooksAlike item s t = AgreeOn (lookup s) (lookup t) (names_taken item) × OneWhereAll (takes_all item) s t

-- either both snapshots exist and have the same relations of these names, or neither exists
abbrev pub SnapsAgree : Option Workspace → Option Workspace → List (List ℕ) → Type 0
SnapsAgree None None names = Unit {0}
SnapsAgree (Some s) (Some t) names = AgreeOn (lookup s) (lookup t) names
SnapsAgree None (Some t) names = ⊥
SnapsAgree (Some s) None names = ⊥

-- What is due of an item, and its cost, depend only on the relations that it takes. So a session that took those with
-- the values that they have in a history has due what the history makes due.
abbrev pub DueByNames : Type 0
DueByNames =
    (input : Input) (script : Script) (item : Item) (s t : Workspace) (snap other : Option Workspace)
    → LooksAlike item s t → SnapsAgree snap other (names_asked item)
    → (due input script item s snap ≡ due input script item t other)
    × ((leaf : ℕ) (d : Due) → cost_of_item leaf input script item s snap d
    ≡ cost_of_item leaf input script item t other d)

-- an early refusal is due
abbrev pub IsEarly : Due → Type 0
IsEarly Nothing = ⊥
IsEarly (Value r) = ⊥
IsEarly (Values gifts) = ⊥
IsEarly (Bytes bytes) = ⊥
IsEarly (Explained steps) = ⊥
IsEarly (Refused Early outcome) = Unit {0}
IsEarly (Refused Late outcome) = ⊥

-- No node is asked for before an early refusal, nor by a command that cannot be refused by a full table.
pub record FreeCommands : Type 0 where
  pub early : (leaf : ℕ) (input : Input) (script : Script) (item : Item) (s : Workspace) (snap : Option Workspace) →
      IsEarly (due input script item s snap) → cost_of_item leaf input script item s snap
      (due input script item s snap) ≡ 0
  pub plain : (leaf : ℕ) (input : Input) (script : Script) (command : Command) (s : Workspace)
      (snap : Option Workspace) (d : Due) →
      (WantsNodes command → ⊥) → cost_of_command leaf input script command s snap d ≡ 0

-- If no name that a block reads has another version before its second event than before its first, the same is due of
-- the block on the state just before its second event, which is its first assignment, as on the state that it read. So
-- a block that is done cannot be distinguished from one that read and assigned in a single moment.
abbrev pub BlocksAreAtOnce : Type 0
BlocksAreAtOnce =
    (input : Input) (script : Script) (history : List Event) (s c : ℕ) (lets : List BlockLet) (log : List Event)
    → before_second s c history ≡ Some log → change_for history s c (block_reads lets) ≡ None
    → due_of_block input script lets (state_for input history s c)
    ≡ due_of_block input script lets (state_after input log)
