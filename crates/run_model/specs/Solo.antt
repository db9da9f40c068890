-- The one run of a script that runs alone, if neither nodes nor memory run out: a function of the input.
use Rattle.std.specs.Prelude.{◌≡◌, ◌≢◌, ◌+◌, ◌↔◌, ℕ, List, [], ◌∷◌, ◌++◌, map}
use Rattle.std.specs.List.{AllByRecursion}
use Rattle.lang_model.specs.declared.syntax.Command.{Command}
use Rattle.lang_model.specs.declared.syntax.Command.TheVariants.{
  Relation as RELATION,
  Let,
  Print as PRINT,
  List as LIST,
  Count,
  Typed,
  Remove as DROP,
  Snap,
  At,
  Load,
  Save,
  LoadAll,
  SaveAll,
  Atomic,
  Explain,
}
use Rattle.lang_model.specs.declared.syntax.Item.{Item}
use Rattle.lang_model.specs.declared.syntax.Item.TheVariants.{Function, Program, Command as COMMAND}
use Rattle.lang_model.specs.declared.syntax.Script.{Script}
use Rattle.run_model.specs.declared.event.Event.{Event}
use Rattle.run_model.specs.declared.outcome.Outcome.{Outcome}
use Rattle.run_model.specs.declared.outcome.Outcome.TheVariants.{Parse, Ill, Nodes, NoMemory}
use Rattle.run_model.specs.Names.{no_names, set, remove}
use Rattle.run_model.specs.Inputs.{Input, Reading, NoScript, Flawed, Runs}
use Rattle.run_model.specs.Due.{
  Workspace,
  Due,
  Nothing,
  Value,
  Values,
  Bytes,
  Explained,
  Refused,
  Gifts,
  outcome_due,
  due,
  gives,
}
use Rattle.run_model.specs.Steps.{Snapshots, snaps_behind, snap_for}
use Rattle.run_model.specs.Events.{Deed, Entry, entry_of, entries, done_deeds, reads_of}
use Rattle.run_model.specs.Legal.{IsLegal}

-- the outcomes of a script, and its events apart from the roots of their relations
pub record Told : Type 0 where
  pub outcomes : List Outcome
  pub log : List Entry

-- ---- one item
-- the names of gifts get their values
abbrev pub set_all : Gifts → Workspace → Workspace
set_all [] state = state
set_all (gift ∷ gifts) state = set_all gifts (set gift.0 gift.1 state)

-- the workspace without the name that a command removes
abbrev pub without_dropped : Command → Workspace → Workspace
without_dropped (RELATION name rows rows_at cols cols_at list) state = state
without_dropped (Let name e) state = state
without_dropped (PRINT e) state = state
without_dropped (LIST e) state = state
without_dropped (Count e) state = state
without_dropped (Typed e) state = state
without_dropped (DROP at name) state = remove name state
without_dropped (Snap name) state = state
without_dropped (At at name e) state = state
without_dropped (Load name file) state = state
without_dropped (Save e file) state = state
without_dropped (LoadAll file) state = state
without_dropped (SaveAll file) state = state
without_dropped (Atomic lets) state = state
without_dropped (Explain e) state = state

-- the same for items
abbrev pub without : Item → Workspace → Workspace
without (COMMAND command) state = without_dropped command state
without (Function at name params body) state = state
without (Program at name params decls body result) state = state

-- the workspace after an item, given what is due of it; a refused item leaves it unchanged
abbrev pub state_behind : Item → Due → Workspace → Workspace
state_behind item Nothing state = set_all (gives item Nothing) (without item state)
state_behind item (Value r) state = set_all (gives item (Value r)) (without item state)
state_behind item (Values gifts) state = set_all (gives item (Values gifts)) (without item state)
state_behind item (Bytes bytes) state = set_all (gives item (Bytes bytes)) (without item state)
state_behind item (Explained steps) state = set_all (gives item (Explained steps)) (without item state)
state_behind item (Refused when outcome) state = state

-- the deeds of an item, given what is due of it
abbrev pub deeds_due : Item → Due → List Deed
deeds_due item Nothing = done_deeds item Nothing
deeds_due item (Value r) = done_deeds item (Value r)
deeds_due item (Values gifts) = done_deeds item (Values gifts)
deeds_due item (Bytes bytes) = done_deeds item (Bytes bytes)
deeds_due item (Explained steps) = done_deeds item (Explained steps)
deeds_due item (Refused when outcome) = reads_of item

-- ---- all items
-- one more outcome, and its entries, in front of the others
abbrev pub telling : Outcome → List Entry → Told → Told
telling outcome mine rest = record { outcomes = outcome ∷ rest.outcomes; log = mine ++ rest.log }

-- items from number c on, from this workspace and these snapshots: each has the outcome that is due
abbrev pub solo_from : Input → Script → ℕ → Workspace → Snapshots → List Item → Told
solo_from input script c state snaps [] = record { outcomes = []; log = [] }
solo_from input script c state snaps (item ∷ items) =
    let d = due input script item state (snap_for item snaps) in
    telling (outcome_due d) (entries 1 c (deeds_due item d))
    (solo_from input script (c + 1) (state_behind item d state) (snaps_behind item (outcome_due d) state snaps) items)

-- one script: its one fault, or its items from the empty workspace on
unfoldable pub solo : Input → Reading → Told
solo input (NoScript fault) = record { outcomes = Parse fault ∷ []; log = [] }
solo input (Flawed fault) = record { outcomes = Ill fault ∷ []; log = [] }
solo input (Runs script) = solo_from input script 1 no_names no_names script.items.items

-- an outcome for which neither nodes nor memory ran out
abbrev pub Suffices : Outcome → Type 0
Suffices outcome = (outcome ≢ Nodes) × (outcome ≢ NoMemory)

-- the run of one script in which nothing ran out is lawful if and only if it is the one that the script determines; no
-- name changes between the read and the commit of a block, so no block is refused at its commit
abbrev pub SoloIsLegal : Type 0
SoloIsLegal =
    (input : Input) (reading : Reading) (history : List Event) (outcomes : List Outcome)
    → input.readings ≡ reading ∷ [] → AllByRecursion Suffices outcomes
    → IsLegal input history (outcomes ∷ [])
    ↔ ((outcomes ≡ (solo input reading).outcomes) × (map entry_of history ≡ (solo input reading).log))
