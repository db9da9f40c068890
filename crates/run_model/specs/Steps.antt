-- The steps of a session: each item with what it sees and its outcome. All that is asked of a run is a function of
-- these: its events, its outcomes, its page, its saves and its cost. A session that knows only the states that it took
-- itself has its steps on those, and one history for all sessions has them on its own.
use Rattle.std.specs.Prelude.{◌+◌, ℕ, List, [], ◌∷◌, Option, Some, None, option_and_then}
use Rattle.lang_model.specs.declared.syntax.Command.{Command}
use Rattle.lang_model.specs.declared.syntax.Command.TheVariants.{
  Relation as RELATION,
  Let,
  Print as PRINT,
  List as LIST,
  Count,
  Typed,
  Remove as DROP,
  Snap,
  At,
  Load,
  Save,
  LoadAll,
  SaveAll,
  Atomic,
  Explain,
}
use Rattle.lang_model.specs.declared.syntax.Item.{Item}
use Rattle.lang_model.specs.declared.syntax.Item.TheVariants.{Function, Program, Command as COMMAND}
use Rattle.lang_model.specs.declared.syntax.Script.{Script}
use Rattle.run_model.specs.declared.outcome.Outcome.{Outcome}
use Rattle.run_model.specs.declared.outcome.Outcome.TheVariants.{
  Done,
  Parse,
  Ill,
  Size,
  Turns,
  Nodes,
  TooLarge,
  TooLong,
  NoFile,
  BadFile as BAD_FILE,
  NoMemory,
  Changed,
}
use Rattle.run_model.specs.Names.{Names, no_names, lookup, set}
use Rattle.run_model.specs.Inputs.{Input}
use Rattle.run_model.specs.Due.{Workspace, Due, due}

-- ---- how an item ended
-- it is done, refused, refused at its commit, or memory ran out
pub data Ending : Type 0 where
  Succeeds : Ending
  Fails : Ending
  -- an atomic block was refused at its commit
  Changes : Ending
  LacksMemory : Ending

-- the ending given by an outcome
abbrev pub ending : Outcome → Ending
ending Done = Succeeds
ending (Parse fault) = Fails
ending (Ill fault) = Fails
ending (Size at wanted limit) = Fails
ending (Turns at limit) = Fails
ending Nodes = Fails
ending (TooLarge wanted counted) = Fails
ending (TooLong bits) = Fails
ending (NoFile name) = Fails
ending (BAD_FILE name kind) = Fails
ending NoMemory = LacksMemory
ending (Changed name seen found) = Changes

-- ---- snapshots
-- the snapshots of a session
abbrev pub Snapshots : Type 0
Snapshots = Names Workspace

-- the name under which a command keeps a snapshot
abbrev pub snapped_by : Command → Option (List ℕ)
snapped_by (RELATION name rows rows_at cols cols_at list) = None
snapped_by (Let name e) = None
snapped_by (PRINT e) = None
snapped_by (LIST e) = None
snapped_by (Count e) = None
snapped_by (Typed e) = None
snapped_by (DROP at name) = None
snapped_by (Snap name) = Some name
snapped_by (At at name e) = None
snapped_by (Load name file) = None
snapped_by (Save e file) = None
snapped_by (LoadAll file) = None
snapped_by (SaveAll file) = None
snapped_by (Atomic lets) = None
snapped_by (Explain e) = None

-- the name of the snapshot that a command asks for
abbrev pub asked_by : Command → Option (List ℕ)
asked_by (RELATION name rows rows_at cols cols_at list) = None
asked_by (Let name e) = None
asked_by (PRINT e) = None
asked_by (LIST e) = None
asked_by (Count e) = None
asked_by (Typed e) = None
asked_by (DROP at name) = None
asked_by (Snap name) = None
asked_by (At at name e) = Some name
asked_by (Load name file) = None
asked_by (Save e file) = None
asked_by (LoadAll file) = None
asked_by (SaveAll file) = None
asked_by (Atomic lets) = None
asked_by (Explain e) = None

-- the name under which an item keeps a snapshot
abbrev pub snapped : Item → Option (List ℕ)
snapped (COMMAND command) = snapped_by command
snapped (Function at name params body) = None
snapped (Program at name params decls body result) = None

-- the name of the snapshot that an item asks for
abbrev pub asked : Item → Option (List ℕ)
asked (COMMAND command) = asked_by command
asked (Function at name params body) = None
asked (Program at name params decls body result) = None

-- a snapshot of this name, if one is to be kept, replaces an earlier one
abbrev pub keep : Option (List ℕ) → Workspace → Snapshots → Snapshots
keep None state snaps = snaps
keep (Some name) state snaps = set name state snaps

-- the snapshots after a command with this ending; a SNAP that is done keeps the state that it read
abbrev pub kept_at : Ending → Item → Workspace → Snapshots → Snapshots
kept_at Succeeds item state snaps = keep (snapped item) state snaps
kept_at Fails item state snaps = snaps
kept_at Changes item state snaps = snaps
kept_at LacksMemory item state snaps = snaps

-- the snapshots after an item that saw this state
abbrev pub snaps_behind : Item → Outcome → Workspace → Snapshots → Snapshots
snaps_behind item outcome = kept_at (ending outcome) item

-- the snapshot that an item asks for, if the session has it
abbrev pub snap_for : Item → Snapshots → Option Workspace
snap_for item snaps = option_and_then (lookup snaps) (asked item)

-- ---- steps
-- an item of a session: its number, the state that it sees, the snapshot that it asks for, and its outcome
pub record Step : Type 0 where
  pub number : ℕ
  pub item : Item
  pub state : Workspace
  pub snap : Option Workspace
  pub outcome : Outcome

-- what is due of a step
abbrev pub due_at : Input → Script → Step → Due
due_at input script step = due input script step.item step.state step.snap

-- the steps of items from number c on, where the command of each number sees the state of that number
abbrev pub steps_from : (ℕ → Workspace) → ℕ → Snapshots → List Item → List Outcome → List Step
steps_from state_of c snaps [] outcomes = []
steps_from state_of c snaps (item ∷ items) [] = []
steps_from state_of c snaps (item ∷ items) (outcome ∷ outcomes) =
    record { number = c; item = item; state = state_of c; snap = snap_for item snaps; outcome = outcome }
    ∷ steps_from state_of (c + 1) (snaps_behind item outcome (state_of c) snaps) items outcomes

-- the steps of a script
unfoldable pub steps : (ℕ → Workspace) → Script → List Outcome → List Step
steps state_of script outcomes = steps_from state_of 1 no_names script.items.items outcomes
