-- What the first items of a session's script did.
use Rattle.std.specs.Prelude.{◌≡◌, ◌≤◌, ◌+◌, ◌-◌, ◌^◌, min, ℕ, List, [], ◌∷◌, map, length}
use Rattle.std.specs.List.{AllByRecursion}
use Rattle.rel_model.specs.Worker.{Worker, set_of, Keeps, MakesAtMost}
use Rattle.lang_model.specs.declared.syntax.Item.{Item}
use Rattle.lang_model.specs.declared.syntax.Script.{Script}
use Rattle.run_model.specs.declared.outcome.Outcome.{Outcome}
use Rattle.run_model.specs.declared.outcome.Outcome.TheVariants.{
  Done,
  Parse,
  Ill,
  Size,
  Turns,
  Nodes,
  TooLarge,
  TooLong,
  NoFile,
  BadFile as BAD_FILE,
  NoMemory,
  Changed,
}
use Rattle.run_model.specs.Names.{no_names}
use Rattle.run_model.specs.Inputs.{Input}
use Rattle.run_model.specs.Due.{Workspace}
use Rattle.run_model.specs.Steps.{Snapshots, snaps_behind}
use Rattle.run_model.specs.Events.{entry_of, AreEvents}
use Rattle.run_model.specs.Outcomes.{AreOutcomes}
use Rattle.run_model.specs.Page.{SavedFile, replies, saves_of}
use Rattle.run_model.specs.Cost.{cost_of_steps}
use Rattle.run_model.specs.Turns.{Turn, puts_of, IsTurn, AssignsOnce, state_taken, change_taken}
use Rattle.run_model.specs.Legal.{CommitsFrom}
use Rattle.run_model.specs.Sessions.{HasValues, steps_taken}
use Rattle.turn_book.specs.Views.{View}
use Rattle.rv_sessions.specs.Standing.{first_names, first_versions, TurnsStand, Kept, KeptStand, meant_all}
use Rattle.rv_sessions.specs.Doing.{GoesThrough}

-- 1 for a full table
abbrev pub one_for_nodes : Outcome → ℕ
one_for_nodes Done = 0
one_for_nodes (Parse fault) = 0
one_for_nodes (Ill fault) = 0
one_for_nodes (Size at wanted limit) = 0
one_for_nodes (Turns at limit) = 0
one_for_nodes Nodes = 1
one_for_nodes (TooLarge wanted counted) = 0
one_for_nodes (TooLong bits) = 0
one_for_nodes (NoFile name) = 0
one_for_nodes (BAD_FILE name kind) = 0
one_for_nodes NoMemory = 0
one_for_nodes (Changed name seen found) = 0

-- how many outcomes report a full table
abbrev pub nodes_in : List Outcome → ℕ
nodes_in [] = 0
nodes_in (o ∷ os) = one_for_nodes o + nodes_in os

-- misses rose at least by this count, or are at their maximum
abbrev pub RoseBy : ℕ → ℕ → ℕ → Type 0
RoseBy count before now = min (before + count) (2 ^ 64 - 1) ≤ now

-- the snapshots after items from number c on
abbrev pub snaps_after : (ℕ → Workspace) → ℕ → Snapshots → List Item → List Outcome → Snapshots
snaps_after state_of c snaps [] outcomes = snaps
snaps_after state_of c snaps (item ∷ items) [] = snaps
snaps_after state_of c snaps (item ∷ items) (outcome ∷ outcomes) =
    snaps_after state_of (c + 1) (snaps_behind item outcome (state_of c) snaps) items outcomes

-- a turn belongs to session s, and its events to one of the first k commands
pub record IsAmong (s k : ℕ) (t : Turn) : Type 0 where
  pub turn : IsTurn s t
  pub numbers : AllByRecursion (λ e. (1 ≤ e.command) × (e.command ≤ k)) t.put

-- the first items of a script, as many as there are outcomes
pub record RanSoFar (leaf : ℕ) (input : Input) (script : Script) (s : ℕ) (old new : Worker) (before after : View)
    (snaps : Kept) (outcomes : List Outcome) (text : List ℕ) (saved : List SavedFile) : Type 0 where
  pub ts : List Turn
  pub through : GoesThrough ts before after
  pub own : AllByRecursion (IsAmong s (length outcomes)) ts
  pub once : AssignsOnce ts
  pub stand : TurnsStand new (first_names before) ts
  pub snaps_are : meant_all new snaps ≡ snaps_after (state_taken (first_names before) (set_of new) ts) 1
      no_names script.items.items outcomes
  pub snaps_stand : KeptStand new snaps
  pub few : length outcomes ≤ length script.items.items
  pub events : AreEvents input script s
      (steps_taken (first_names before) (set_of new) ts script outcomes) (map entry_of (puts_of ts))
  pub outcomes_due : AreOutcomes input script
      (steps_taken (first_names before) (set_of new) ts script outcomes)
  pub values : AllByRecursion (HasValues input script (set_of new) (puts_of ts))
      (steps_taken (first_names before) (set_of new) ts script outcomes)
  pub commits : CommitsFrom (change_taken (first_versions before) ts) 1 script.items.items outcomes
  pub text_is : text ≡ replies input script s
      (steps_taken (first_names before) (set_of new) ts script outcomes)
  pub saved_is : saved ≡ saves_of input script
      (steps_taken (first_names before) (set_of new) ts script outcomes)
  pub room : MakesAtMost (cost_of_steps leaf input script
      (steps_taken (first_names before) (set_of new) ts script outcomes)) old new
  pub missed : RoseBy (nodes_in outcomes) old.misses new.misses
  pub keeps : Keeps old new
