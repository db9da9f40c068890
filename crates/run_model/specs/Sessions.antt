-- What one session promises, whatever the others do: its turns, and its events, outcomes, values and commits on the
-- states that it took. The replies and saves of its transcript, and its cost, are those of the same steps.
use Rattle.std.specs.Prelude.{Some, ◌≡◌, ◌==◌, ℕ, Bool, cond, List, [], ◌∷◌, ◌++◌, length, map}
use Rattle.std.specs.List.{AllByRecursion}
use Rattle.rel_model.specs.declared.Rel.{Rel}
use Rattle.lang_model.specs.declared.syntax.Script.{Script}
use Rattle.run_model.specs.declared.event.Event.{Event}
use Rattle.run_model.specs.declared.event.Act.{Act}
use Rattle.run_model.specs.declared.event.Act.TheVariants.{Read, Assign, Remove}
use Rattle.run_model.specs.declared.outcome.Outcome.{Outcome}
use Rattle.run_model.specs.declared.outcome.Outcome.TheVariants.{Parse, Ill}
use Rattle.rel_model.specs.Relation.{Relation}
use Rattle.run_model.specs.Inputs.{Input, Reading, NoScript, Flawed, Runs, script_at}
use Rattle.run_model.specs.Due.{Gifts, gives}
use Rattle.run_model.specs.Steps.{Ending, Succeeds, Fails, Changes, LacksMemory, ending, Step, due_at, steps}
use Rattle.run_model.specs.Events.{entry_of, AreEvents}
use Rattle.run_model.specs.Outcomes.{AreOutcomes}
use Rattle.run_model.specs.States.{begun, events_of, gifts_due}
use Rattle.run_model.specs.Carried.{Carried, First, AllHaveDue}
use Rattle.run_model.specs.Turns.{
  BeginsLog,
  Turn,
  puts_of,
  AreTurns,
  IsTurn,
  AssignsOnce,
  StandsBehind,
  state_taken,
  change_taken,
}
use Rattle.run_model.specs.Legal.{CommitsFrom, RunsScript}

-- ---- values
-- the relation of an act that assigns
abbrev pub rel_of : Act → List Rel
rel_of Read = []
rel_of (Assign name rel) = rel ∷ []
rel_of (Remove name) = []

-- the relations that command c assigns in these events, in order
abbrev pub rels_of : ℕ → List Event → List Rel
rels_of c [] = []
rels_of c (e ∷ es) = cond (e.command == c) (rel_of e.act ++ rels_of c es) (rels_of c es)

-- relations have the values of gifts, in order
abbrev pub HaveValues : (Rel → Relation) → List Rel → Gifts → Type 0
HaveValues means [] [] = Unit {0}
HaveValues means (rel ∷ rels) (gift ∷ gifts) = (means rel ≡ gift.1) × HaveValues means rels gifts
HaveValues means [] (gift ∷ gifts) = ⊥
HaveValues means (rel ∷ rels) [] = ⊥

-- the relations of an item with this ending: those of one that is done have the values that it assigns
abbrev pub HasValuesAt : Ending → (Rel → Relation) → List Rel → Gifts → Type 0
HasValuesAt Succeeds means rels gifts = HaveValues means rels gifts
HasValuesAt Fails means rels gifts = Unit {0}
HasValuesAt Changes means rels gifts = Unit {0}
HasValuesAt LacksMemory means rels gifts = Unit {0}

-- the relations of a step, among its session's events
abbrev pub HasValues : Input → Script → (Rel → Relation) → List Event → Step → Type 0
HasValues input script means events step =
    HasValuesAt (ending step.outcome) means (rels_of step.number events) (gives step.item (due_at input script step))

-- ---- a session
-- the steps of a session on the states that it took
abbrev pub steps_taken : Carried → (Rel → Relation) → List Turn → Script → List Outcome → List Step
steps_taken first means ts script outcomes = steps (state_taken first means ts) script outcomes

-- session s of a batch that began like this, which had seen the old log, ran its script in these turns with these
-- outcomes, and then saw the new log
pub record RunsTurns (input : Input) (first : First) (means : Rel → Relation) (s : ℕ) (script : Script)
    (outcomes : List Outcome) (ts : List Turn) (old new : List Event) : Type 0 where
  pub turns : AreTurns ts old new
  -- each turn put one event, or the assignments of one command
  pub own : AllByRecursion (IsTurn s) ts
  -- no other event comes between assignments of one command, since they are put in one turn
  pub once : AssignsOnce ts
  pub each : length outcomes ≡ length script.items.items
  pub events : AreEvents input script s (steps_taken first.names means ts script outcomes) (map entry_of (puts_of ts))
  pub outcomes_due : AreOutcomes input script (steps_taken first.names means ts script outcomes)
  pub values : AllByRecursion (HasValues input script means (puts_of ts))
      (steps_taken first.names means ts script outcomes)
  -- a block commits if no name that it read has another version, and otherwise reports the first that has
  pub commits : CommitsFrom (change_taken first.versions ts) 1 script.items.items outcomes

-- If the log of the batch comes after earlier events and before later ones, and these have none of its number, a
-- session that ran its script in turns ran it on the states of the history.
abbrev pub TurnsRunScript : Type 0
TurnsRunScript =
    (input : Input) (kind : ℕ → Bool) (means : Rel → Relation) (first : First) (s : ℕ) (script : Script)
    (outcomes : List Outcome) (ts : List Turn) (done seen log later : List Event)
    → StandsBehind input kind means first done log → RunsTurns input first means s script outcomes ts [] seen
    → BeginsLog seen log → events_of s log ≡ puts_of ts → events_of s done ≡ [] → events_of s later ≡ []
    → RunsScript input (done ++ (log ++ later)) s script outcomes

-- session s ran its script in turns that are in the closed log of its batch, which has no other events of its number
pub record RanIn (input : Input) (first : First) (means : Rel → Relation) (log : List Event) (s : ℕ) : Type 0 where
  pub script : Script
  pub is_script : script_at input s ≡ Some script
  pub outcomes : List Outcome
  pub ts : List Turn
  pub seen : List Event
  pub runs : RunsTurns input first means s script outcomes ts [] seen
  pub begins : BeginsLog seen log
  pub all : events_of s log ≡ puts_of ts

-- if each event belongs to a session that ran like this, each assigned relation has the value that is due
abbrev pub SessionsMakeDue : Type 0
SessionsMakeDue =
    (input : Input) (first : First) (means : Rel → Relation) (log : List Event)
    → AllByRecursion (λ e. RanIn input first means log e.session) log
    → AllHaveDue (gifts_due input) means (begun first.names) log

-- session s ran what its bytes are read as: either the one fault and no event, or its script in turns that are in the
-- log
abbrev pub SessionRan : Input → First → (Rel → Relation) → List Event → ℕ → Reading → List Outcome → Type 0
SessionRan input first means log s (NoScript fault) outcomes = (outcomes ≡ Parse fault ∷ []) × (events_of s log ≡ [])
SessionRan input first means log s (Flawed fault) outcomes = (outcomes ≡ Ill fault ∷ []) × (events_of s log ≡ [])
SessionRan input first means log s (Runs script) outcomes =
    (ts : List Turn) × (seen : List Event) × RunsTurns input first means s script outcomes ts [] seen
    × BeginsLog seen log × (events_of s log ≡ puts_of ts)
