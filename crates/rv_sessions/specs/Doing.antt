-- What one item of a session did: its turns, and its events, outcome, reply, save and cost on the state that it took.
use Rattle.std.specs.Prelude.{◌≡◌, ◌++◌, ◌⊎◌, ℕ, true, List, [], ◌∷◌, map, Option, Some, None, option_and_then}
use Rattle.std.specs.Option.{option_map}
use Rattle.std.specs.List.{AllByRecursion, flat_map}
use Rattle.rel_model.specs.declared.Rel.{Rel}
use Rattle.rel_model.specs.Worker.{Worker, set_of, Keeps, MakesAtMost, Rose}
use Rattle.lang_model.specs.declared.syntax.Item.{Item}
use Rattle.lang_model.specs.declared.syntax.Script.{Script}
use Rattle.run_model.specs.declared.event.Event.{Event}
use Rattle.run_model.specs.declared.outcome.Outcome.{Outcome}
use Rattle.run_model.specs.declared.outcome.Outcome.TheVariants.{Nodes}
use Rattle.run_model.specs.Names.{no_names, lookup, set}
use Rattle.run_model.specs.Inputs.{Input}
use Rattle.run_model.specs.Due.{Workspace, Due, due, gives}
use Rattle.run_model.specs.Steps.{Ending, Succeeds, Fails, Changes, LacksMemory, ending, snapped, asked}
use Rattle.run_model.specs.Events.{Deed, deed_of, HasDeeds}
use Rattle.run_model.specs.Outcomes.{IsOutcome, lets_of}
use Rattle.run_model.specs.Page.{SavedFile, reply, save_at}
use Rattle.run_model.specs.Cost.{cost_of_item}
use Rattle.run_model.specs.Carried.{Carried, carried_from}
use Rattle.run_model.specs.Legal.{is_assign, CommitsItem}
use Rattle.run_model.specs.Turns.{Turn, puts_of, IsOne, AreTurns, AssignsOnce, change_taken}
use Rattle.run_model.specs.Sessions.{rel_of, HasValuesAt}
use Rattle.turn_book.specs.Views.{View, IsKept}
use Rattle.rv_sessions.specs.Standing.{first_names, first_versions, TurnsStand, Kept, KeptStand, meant}

-- ---- turns
-- a turn belongs to this command: it put one event of it, or assignments of it
pub record IsBy (s c : ℕ) (t : Turn) : Type 0 where
  pub each : AllByRecursion (λ e. (e.session ≡ s) × (e.command ≡ c)) t.put
  pub kind : IsOne t.put ⊎ AllByRecursion (λ e. is_assign e.act ≡ true) t.put

-- the first of a command's turns put an event, if there is a turn
abbrev pub BeginsWithEvent : List Turn → Type 0
BeginsWithEvent [] = Unit {0}
BeginsWithEvent (t ∷ ts) = (e : Event) × (rest : List Event) × (t.put ≡ e ∷ rest)

-- the relations of names after the log that the first of a command's turns took, given those they had at first; none if
-- there is no turn
abbrev pub names_took : Carried → List Turn → Carried
names_took first [] = no_names
names_took first (t ∷ ts) = carried_from first t.took

-- what turns do
abbrev pub deeds_by : List Turn → List Deed
deeds_by ts = map (λ e. deed_of e.act) (puts_of ts)

-- the relations that turns assign
abbrev pub rels_by : List Turn → List Rel
rels_by ts = flat_map (λ e. rel_of e.act) (puts_of ts)

-- a pass went through these turns, whose events are its own
pub record GoesThrough (ts : List Turn) (before after : View) : Type 0 where
  pub turns : AreTurns ts before.seen after.seen
  pub mine : after.mine ≡ before.mine ++ puts_of ts
  pub kept : IsKept before after

-- ---- snapshots
-- a snapshot of this name, if one is to be kept, replaces an earlier one
abbrev pub keep : Option (List ℕ) → Carried → Kept → Kept
keep None state snaps = snaps
keep (Some name) state snaps = set name state snaps

-- the snapshots after an item with this ending; a SNAP that is done keeps what it took
abbrev pub kept_behind : Ending → Item → Carried → Kept → Kept
kept_behind Succeeds item state snaps = keep (snapped item) state snaps
kept_behind Fails item state snaps = snaps
kept_behind Changes item state snaps = snaps
kept_behind LacksMemory item state snaps = snaps

-- the snapshot that an item asks for, as its relations mean in a worker
abbrev pub snap_meant : Worker → Item → Kept → Option Workspace
snap_meant w item snaps = option_map (meant w) (option_and_then (lookup snaps) (asked item))

-- ---- items
-- the workspace that the first of an item's turns took
abbrev pub state_of_turns : Worker → Carried → List Turn → Workspace
state_of_turns w first ts = meant w (names_took first ts)

-- what is due of an item on what it took
abbrev pub due_on : Input → Script → Item → Worker → Kept → Carried → List Turn → Due
due_on input script item w snaps first ts =
    due input script item (state_of_turns w first ts) (snap_meant w item snaps)

-- item c of session s, in a worker with leaves of this height, on what its turns took, given how the book began
pub record Did (leaf : ℕ) (input : Input) (script : Script) (s c : ℕ) (item : Item) (old new : Worker)
    (before after : View) (snaps left : Kept) (outcome : Outcome) (text : List ℕ)
    (saved : List SavedFile) : Type 0 where
  pub ts : List Turn
  pub through : GoesThrough ts before after
  pub own : AllByRecursion (IsBy s c) ts
  pub begun : BeginsWithEvent ts
  pub once : AssignsOnce ts
  pub stand : TurnsStand new (first_names before) ts
  pub deeds : HasDeeds (ending outcome) item (due_on input script item new snaps (first_names before) ts)
      (deeds_by ts)
  pub lawful : IsOutcome item (due_on input script item new snaps (first_names before) ts) outcome
  pub values : HasValuesAt (ending outcome) (set_of new) (rels_by ts)
      (gives item (due_on input script item new snaps (first_names before) ts))
  pub commits : CommitsItem (change_taken (first_versions before) ts c) (lets_of item) outcome
  pub text_is : text ≡ reply s c item (due_on input script item new snaps (first_names before) ts) outcome
  pub saved_is : saved ≡ save_at (ending outcome) item
      (due_on input script item new snaps (first_names before) ts)
  pub snaps_left : left ≡ kept_behind (ending outcome) item (names_took (first_names before) ts) snaps
  pub snaps_stand : KeptStand new left
  pub room : MakesAtMost (cost_of_item leaf input script item (state_of_turns new (first_names before) ts)
      (snap_meant new item snaps) (due_on input script item new snaps (first_names before) ts)) old new
  pub missed : outcome ≡ Nodes → Rose old.misses new.misses
  pub keeps : Keeps old new
