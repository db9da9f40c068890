-- Which histories and outcomes are lawful for scripts that ran concurrently, in any order of their turns.
use Rattle.std.specs.Prelude.{
  ◌≡◌,
  ◌≤◌,
  ◌⊎◌,
  ◌+◌,
  ◌&&◌,
  ℕ,
  Bool,
  true,
  false,
  List,
  [],
  ◌∷◌,
  length,
  map,
  Option,
  Some,
  None,
}
use Rattle.std.specs.List.{list_any, AllByRecursion}
use Rattle.lang_model.specs.declared.syntax.Script.{Script}
use Rattle.run_model.specs.declared.event.Event.{Event}
use Rattle.run_model.specs.declared.event.Act.{Act}
use Rattle.run_model.specs.declared.event.Act.TheVariants.{Read, Assign, Remove}
use Rattle.run_model.specs.declared.outcome.Outcome.{Outcome}
use Rattle.run_model.specs.declared.outcome.Outcome.TheVariants.{
  Done,
  Parse,
  Ill,
  Size,
  Turns,
  Nodes,
  TooLarge,
  TooLong,
  NoFile,
  BadFile,
  NoMemory,
  Changed,
}
use Rattle.lang_model.specs.declared.syntax.Item.{Item}
use Rattle.lang_model.specs.declared.syntax.Let.{Let as BlockLet}
use Rattle.run_model.specs.Inputs.{Input, Reading, NoScript, Flawed, Runs, batch_of}
use Rattle.run_model.specs.Versions.{Change, version, first_changed}
use Rattle.run_model.specs.Blocks.{block_reads}
use Rattle.run_model.specs.Steps.{Step, steps}
use Rattle.run_model.specs.Events.{entry_of, AreEvents}
use Rattle.run_model.specs.Outcomes.{AreOutcomes, lets_of}
use Rattle.run_model.specs.States.{is_of, events_of, events_before, before_second, state_for}

-- ---- commits
-- an item with this outcome has this change at its commit, given the names that it reads: a block that is done has no
-- change, and one that is refused at its commit has the change that it reports
abbrev pub IsCommit : Outcome → Option Change → Type 0
IsCommit Done change = change ≡ None
IsCommit (Changed name seen found) change = change ≡ Some (record { name = name; seen = seen; found = found })
IsCommit (Parse fault) change = Unit {0}
IsCommit (Ill fault) change = Unit {0}
IsCommit (Size at wanted limit) change = Unit {0}
IsCommit (Turns at limit) change = Unit {0}
IsCommit Nodes change = Unit {0}
IsCommit (TooLarge wanted counted) change = Unit {0}
IsCommit (TooLong bits) change = Unit {0}
IsCommit (NoFile name) change = Unit {0}
IsCommit (BadFile name kind) change = Unit {0}
IsCommit NoMemory change = Unit {0}

-- the same for items; only a block commits
abbrev pub CommitsItem : (List (List ℕ) → Option Change) → Option (List BlockLet) → Outcome → Type 0
CommitsItem change None outcome = Unit {0}
CommitsItem change (Some lets) outcome = IsCommit outcome (change (block_reads lets))

-- the commits of items from number c on, given for the command of each number the changes of names that it read
abbrev pub CommitsFrom : (ℕ → List (List ℕ) → Option Change) → ℕ → List Item → List Outcome → Type 0
CommitsFrom change c [] outcomes = Unit {0}
CommitsFrom change c (item ∷ items) [] = Unit {0}
CommitsFrom change c (item ∷ items) (outcome ∷ outcomes) =
    CommitsItem (change c) (lets_of item) outcome × CommitsFrom change (c + 1) items outcomes

-- the first of these names whose version in the log before a commit differs from the one seen, if there is one
abbrev pub change_at : (List ℕ → ℕ) → (List Event → List ℕ → ℕ) → Option (List Event) → List (List ℕ) → Option Change
change_at seen versions None names = None
change_at seen versions (Some log) names = first_changed seen (versions log) names

-- the first of these names whose versions differ before the first event of a command, which is its read, and before its
-- second, which is its commit
unfoldable pub change_for : List Event → ℕ → ℕ → List (List ℕ) → Option Change
change_for history s c =
    change_at (λ name. version name (events_before s c history)) (λ log name. version name log)
    (before_second s c history)

-- ---- sessions
-- the steps of session s on the states of the history
abbrev pub steps_in : Input → List Event → ℕ → Script → List Outcome → List Step
steps_in input history s script outcomes = steps (state_for input history s) script outcomes

-- a session runs its script: there is one outcome for each item, and the events, outcomes and commits are those of its
-- steps
pub record RunsScript (input : Input) (history : List Event) (s : ℕ) (script : Script)
    (outcomes : List Outcome) : Type 0 where
  pub each : length outcomes ≡ length script.items.items
  pub events : AreEvents input script s (steps_in input history s script outcomes) (map entry_of (events_of s history))
  pub outcomes_due : AreOutcomes input script (steps_in input history s script outcomes)
  pub commits : CommitsFrom (change_for history s) 1 script.items.items outcomes

-- one session: either its one fault and no event, or its script is run
abbrev pub LegalSession : Input → List Event → ℕ → Reading → List Outcome → Type 0
LegalSession input history s (NoScript fault) outcomes = (outcomes ≡ Parse fault ∷ []) × (events_of s history ≡ [])
LegalSession input history s (Flawed fault) outcomes = (outcomes ≡ Ill fault ∷ []) × (events_of s history ≡ [])
LegalSession input history s (Runs script) outcomes = RunsScript input history s script outcomes

-- the sessions from number s on
abbrev pub LegalSessions : Input → List Event → ℕ → List Reading → List (List Outcome) → Type 0
LegalSessions input history s [] [] = Unit {0}
LegalSessions input history s (reading ∷ readings) (outcomes ∷ others) =
    LegalSession input history s reading outcomes × LegalSessions input history (s + 1) readings others
LegalSessions input history s [] (outcomes ∷ others) = ⊥
LegalSessions input history s (reading ∷ readings) [] = ⊥

-- ---- assignments of one command stand together
-- whether an act assigns
abbrev pub is_assign : Act → Bool
is_assign Read = false
is_assign (Assign name rel) = true
is_assign (Remove name) = false

-- whether an event is an assignment of this command
abbrev pub assigns : ℕ → ℕ → Event → Bool
assigns s c e = is_of s c e && is_assign e.act

-- the first of these events is an assignment of this command
abbrev pub BeginsWithAssign : ℕ → ℕ → List Event → Type 0
BeginsWithAssign s c [] = ⊥
BeginsWithAssign s c (e ∷ es) = assigns s c e ≡ true

-- either the next event is an assignment of the same command, or that command assigns no more
abbrev pub GoesOn : Event → List Event → Type 0
GoesOn e es =
    is_assign e.act ≡ true
    → BeginsWithAssign e.session e.command es ⊎ (list_any (assigns e.session e.command) es ≡ false)

-- between two assignments of one command there is no other event
abbrev pub AssignsTogether : List Event → Type 0
AssignsTogether [] = Unit {0}
AssignsTogether (e ∷ es) = GoesOn e es × AssignsTogether es

-- ---- batches
-- no later event belongs to an earlier batch
abbrev pub IsNotBefore : List ℕ → Event → List Event → Type 0
IsNotBefore ends e = AllByRecursion (λ x. batch_of ends e.session ≤ batch_of ends x.session)

-- the events of each batch come before those of all later ones
abbrev pub BatchesInOrder : List ℕ → List Event → Type 0
BatchesInOrder ends [] = Unit {0}
BatchesInOrder ends (e ∷ es) = IsNotBefore ends e es × BatchesInOrder ends es

-- ---- runs
-- the history and the outcomes are lawful for the input
pub record IsLegal (input : Input) (history : List Event) (outcomes : List (List Outcome)) : Type 0 where
  -- each event belongs to one of the sessions
  pub numbers : AllByRecursion (λ e. (1 ≤ e.session) × (e.session ≤ length input.readings)) history
  pub sessions : LegalSessions input history 1 input.readings outcomes
  pub together : AssignsTogether history
  pub batches : BatchesInOrder input.ends history
