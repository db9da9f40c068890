-- The batches of a run, one after another, each on a table of its own: how the promises of all their sessions make one
-- lawful run.
use Rattle.std.specs.Prelude.{◌≡◌, ◌≤◌, ◌+◌, ℕ, List, [], ◌∷◌, ◌++◌, length, Some, slice_get}
use Rattle.std.specs.List.{AllByRecursion}
use Rattle.rel_model.specs.declared.Rel.{Rel}
use Rattle.run_model.specs.declared.event.Event.{Event}
use Rattle.run_model.specs.declared.outcome.Outcome.{Outcome}
use Rattle.rel_model.specs.Relation.{Relation}
use Rattle.run_model.specs.Names.{no_names}
use Rattle.run_model.specs.Inputs.{Input, Reading, batch_of}
use Rattle.run_model.specs.Due.{Workspace}
use Rattle.run_model.specs.Versions.{noted, version, version_behind}
use Rattle.run_model.specs.States.{state_after}
use Rattle.run_model.specs.Carried.{First, carried_from, valued}
use Rattle.run_model.specs.Sessions.{SessionRan}
use Rattle.run_model.specs.Legal.{IsLegal}

-- a batch: the names and versions that it began with, what relations mean in its table, and its closed log
pub record Batch : Type 0 where
  pub first : First
  pub means : Rel → Relation
  pub log : List Event

-- the logs of batches, one after another
abbrev pub logs_of : List Batch → List Event
logs_of [] = []
logs_of (b ∷ bs) = b.log ++ logs_of bs

-- an event belongs to a session of batch number k
abbrev pub IsOfBatch : Input → ℕ → Event → Type 0
IsOfBatch input k e =
    (1 ≤ e.session) × (e.session ≤ length input.readings) × (batch_of input.ends e.session ≡ k)

-- the names that a batch leaves, with the values of their relations
abbrev pub state_left : Batch → Workspace
state_left b = valued b.means (carried_from b.first.names b.log)

-- the versions that a batch leaves
abbrev pub versions_left : Batch → List ℕ → ℕ
versions_left b = version_behind b.first.versions b.log

-- Batches from number k on, after a batch that left this state and these versions: each begins with relations whose
-- values are those that the one before left, and with its versions, and has only events of its own sessions.
abbrev pub AreBatches : Input → ℕ → Workspace → (List ℕ → ℕ) → List Batch → Type 0
AreBatches input k state versions [] = Unit {0}
AreBatches input k state versions (b ∷ bs) =
    (valued b.means b.first.names ≡ state) × ((name : List ℕ) → noted b.first.versions name ≡ versions name)
    × AllByRecursion (IsOfBatch input k) b.log × AreBatches input (k + 1) (state_left b) (versions_left b) bs

-- before the first batch no name has a relation, and every version is 0
abbrev pub AreAllBatches : Input → List Batch → Type 0
AreAllBatches input batches = AreBatches input 0 no_names (λ name. 0) batches

-- session s ran in its batch
abbrev pub RanInBatch : Input → List Batch → ℕ → Reading → List Outcome → Type 0
RanInBatch input batches s reading outcomes =
    (b : Batch) × (slice_get batches (batch_of input.ends s) ≡ Some b)
    × SessionRan input b.first b.means b.log s reading outcomes

-- the sessions from number s on ran in their batches
abbrev pub SessionsRan : Input → List Batch → ℕ → List Reading → List (List Outcome) → Type 0
SessionsRan input batches s [] [] = Unit {0}
SessionsRan input batches s (reading ∷ readings) (outcomes ∷ others) =
    RanInBatch input batches s reading outcomes × SessionsRan input batches (s + 1) readings others
SessionsRan input batches s [] (outcomes ∷ others) = ⊥
SessionsRan input batches s (reading ∷ readings) [] = ⊥

-- What the sessions promise one by one makes the closed logs of all batches one lawful history, in whatever order the
-- turns came.
abbrev pub ClosedLogsAreLegal : Type 0
ClosedLogsAreLegal =
    (input : Input) (batches : List Batch) (outcomes : List (List Outcome)) → AreAllBatches input batches
    → SessionsRan input batches 1 input.readings outcomes → IsLegal input (logs_of batches) outcomes

-- each batch leaves the state and the versions of the history after its log, given the events before the first batch
abbrev pub LeaveStates : Input → List Event → List Batch → Type 0
LeaveStates input done [] = Unit {0}
LeaveStates input done (b ∷ bs) =
    (state_after input (done ++ b.log) ≡ state_left b)
    × ((name : List ℕ) → version name (done ++ b.log) ≡ versions_left b name)
    × LeaveStates input (done ++ b.log) bs

-- if the sessions of all batches ran, the names and versions that a batch leaves are those of the history at its end
abbrev pub BatchesLeaveStates : Type 0
BatchesLeaveStates =
    (input : Input) (batches : List Batch) (outcomes : List (List Outcome)) → AreAllBatches input batches
    → SessionsRan input batches 1 input.readings outcomes → LeaveStates input [] batches
