-- The workspace after events, by what is due of the commands that assigned.
use Rattle.std.specs.Prelude.{
  ◌==◌,
  ◌&&◌,
  ◌+◌,
  ℕ,
  Bool,
  cond,
  List,
  [],
  ◌∷◌,
  filter,
  Option,
  Some,
  None,
  option_map,
  slice_get,
}
use Rattle.std.specs.List.{list_any}
use Rattle.std.specs.Option.{option_map_or}
use Rattle.lang_model.specs.declared.syntax.Item.{Item}
use Rattle.lang_model.specs.declared.syntax.Script.{Script}
use Rattle.run_model.specs.declared.event.Event.{Event}
use Rattle.run_model.specs.declared.event.Act.{Act}
use Rattle.run_model.specs.declared.event.Act.TheVariants.{Read, Assign, Remove}
use Rattle.rel_model.specs.Relation.{Relation}
use Rattle.run_model.specs.Names.{Names, no_names, set, remove}
use Rattle.run_model.specs.Inputs.{Input, script_at, item_at}
use Rattle.run_model.specs.Due.{Workspace, Gifts, due, gives}

-- ---- events of commands
-- whether the event belongs to this command
abbrev pub is_of : ℕ → ℕ → Event → Bool
is_of s c e = (e.session == s) && (e.command == c)

-- the events of a session
abbrev pub events_of : ℕ → List Event → List Event
events_of s = filter (λ e. e.session == s)

-- the events before the first of a command
abbrev pub events_before : ℕ → ℕ → List Event → List Event
events_before s c [] = []
events_before s c (e ∷ es) = cond (is_of s c e) [] (e ∷ events_before s c es)

-- the same, if the command has an event
abbrev pub before_first : ℕ → ℕ → List Event → Option (List Event)
before_first s c [] = None
before_first s c (e ∷ es) = cond (is_of s c e) (Some []) (option_map (λ xs. e ∷ xs) (before_first s c es))

-- the events before the second of a command, if it has one
abbrev pub before_second : ℕ → ℕ → List Event → Option (List Event)
before_second s c [] = None
before_second s c (e ∷ es) =
    option_map (λ xs. e ∷ xs) (cond (is_of s c e) (before_first s c es) (before_second s c es))

-- ---- replay
-- what names have now; what they had at the last read of each command, which is nothing if it has none; and how many
-- names each command has assigned so far
pub record Replay (V : Type 0) : Type 0 where
  pub now : Names V
  pub at_read : ℕ → ℕ → Names V
  pub given : ℕ → ℕ → ℕ

-- a new value for one command, replacing the old one
abbrev pub at_command : {V : Type 0} → ℕ → ℕ → V → (ℕ → ℕ → V) → ℕ → ℕ → V
at_command s c v f t d = cond ((t == s) && (d == c)) v (f t d)

-- before the first event, when names have these values
abbrev pub begun : {V : Type 0} → Names V → Replay V
begun names = record { now = names; at_read = λ s c. no_names; given = λ s c. 0 }

-- before the first event of a run
abbrev pub start : {V : Type 0} → Replay V
start = begun no_names

-- a name gets the value of a gift, if there is one
abbrev pub set_by : List ℕ → Option (List ℕ × Relation) → Workspace → Workspace
set_by name None state = state
set_by name (Some gift) state = set name gift.1 state

-- An event's step: a read changes no name; the j-th assignment of a command gives its name the j-th value that is due
-- of the command, on the state at its last read; a removal removes its name.
abbrev pub replay_act : (ℕ → ℕ → Workspace → Gifts) → ℕ → ℕ → Act → Replay Relation → Replay Relation
replay_act gifts s c Read p = record { now = p.now; at_read = at_command s c p.now p.at_read; given = p.given }
replay_act gifts s c (Assign name rel) p = record {
  now = set_by name (slice_get (gifts s c (p.at_read s c)) (p.given s c)) p.now;
  at_read = p.at_read;
  given = at_command s c (p.given s c + 1) p.given;
}
replay_act gifts s c (Remove name) p = record { now = remove name p.now; at_read = p.at_read; given = p.given }

-- the steps of events in order
abbrev pub replay : (ℕ → ℕ → Workspace → Gifts) → Replay Relation → List Event → Replay Relation
replay gifts p [] = p
replay gifts p (e ∷ es) = replay gifts (replay_act gifts e.session e.command e.act p) es

-- ---- states of a run
-- what an item assigns on a state; no command that assigns anything asks for a snapshot
abbrev pub gifts_of_item : Input → Script → Workspace → Item → Gifts
gifts_of_item input script state item = gives item (due input script item state None)

-- what command c of a script assigns on a state
abbrev pub gifts_of_script : Input → ℕ → Workspace → Script → Gifts
gifts_of_script input c state script = option_map_or (gifts_of_item input script state) (item_at script c) []

-- what command c of session s assigns on a state
unfoldable pub gifts_due : Input → ℕ → ℕ → Workspace → Gifts
gifts_due input s c state = option_map_or (gifts_of_script input c state) (script_at input s) []

-- the workspace after these events
unfoldable pub state_after : Input → List Event → Workspace
state_after input es = (replay (gifts_due input) start es).now

-- the workspace just before the first event of command c of session s; empty if it has none
unfoldable pub state_for : Input → List Event → ℕ → ℕ → Workspace
state_for input history s c =
    cond (list_any (is_of s c) history) (state_after input (events_before s c history)) no_names
