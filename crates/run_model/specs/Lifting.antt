-- From the states that a session took to those of a history: what is asked of a run stays the same.
use Rattle.std.specs.Prelude.{◌≡◌, ◌+◌, ℕ, List, [], ◌∷◌}
use Rattle.std.specs.List.{AllByRecursion}
use Rattle.rel_model.specs.declared.Rel.{Rel}
use Rattle.run_model.specs.declared.event.Event.{Event}
use Rattle.rel_model.specs.Relation.{Relation}
use Rattle.lang_model.specs.declared.syntax.Item.{Item}
use Rattle.lang_model.specs.declared.syntax.Script.{Script}
use Rattle.run_model.specs.declared.outcome.Outcome.{Outcome}
use Rattle.run_model.specs.Inputs.{Input}
use Rattle.run_model.specs.Due.{Workspace}
use Rattle.run_model.specs.Steps.{Step, steps}
use Rattle.run_model.specs.Events.{Entry, AreEvents}
use Rattle.run_model.specs.Outcomes.{AreOutcomes}
use Rattle.run_model.specs.Page.{replies, saves_of}
use Rattle.run_model.specs.Cost.{cost_of_steps}
use Rattle.run_model.specs.Laws.{LooksAlike}
use Rattle.run_model.specs.Carried.{First}
use Rattle.run_model.specs.Turns.{Turn, puts_of, state_taken}
use Rattle.run_model.specs.Sessions.{rel_of, HasValues, RunsTurns}

-- for items from number c on, the states for each number look alike
abbrev pub LookAlike : (ℕ → Workspace) → (ℕ → Workspace) → ℕ → List Item → Type 0
LookAlike f g c [] = Unit {0}
LookAlike f g c (item ∷ items) = LooksAlike item (f c) (g c) × LookAlike f g (c + 1) items

-- two lists of steps agree in all that is asked of a run: events, outcomes, values of what is assigned, replies, saves
-- and cost
pub record SameRun (input : Input) (script : Script) (first second : List Step) : Type 0 where
  pub events : (s : ℕ) (log : List Entry) → AreEvents input script s first log → AreEvents input script s second log
  pub outcomes : AreOutcomes input script first → AreOutcomes input script second
  pub values : (means : Rel → Relation) (events : List Event) →
      AllByRecursion (HasValues input script means events) first
      → AllByRecursion (HasValues input script means events) second
  pub replies : (s : ℕ) → replies input script s first ≡ replies input script s second
  pub saves : saves_of input script first ≡ saves_of input script second
  pub cost : (leaf : ℕ) → cost_of_steps leaf input script first ≡ cost_of_steps leaf input script second

-- states that look alike to the items make the same run
abbrev pub LookAlikeRunAlike : Type 0
LookAlikeRunAlike =
    (input : Input) (script : Script) (outcomes : List Outcome) (f g : ℕ → Workspace)
    → LookAlike f g 1 script.items.items → SameRun input script (steps f script outcomes) (steps g script outcomes)

-- relations that events assign mean the same in two workers
abbrev pub MeanAlike : (Rel → Relation) → (Rel → Relation) → List Event → Type 0
MeanAlike means other = AllByRecursion (λ e. AllByRecursion (λ rel. means rel ≡ other rel) (rel_of e.act))

-- what a session promises in its own worker, it promises in any worker in which what it took and assigned means the
-- same
abbrev pub OtherWorkerRunsAlike : Type 0
OtherWorkerRunsAlike =
    (input : Input) (first : First) (means other : Rel → Relation) (s : ℕ) (script : Script) (outcomes : List Outcome)
    (ts : List Turn) (old new : List Event)
    → LookAlike (state_taken first.names means ts) (state_taken first.names other ts) 1 script.items.items
    → MeanAlike means other (puts_of ts)
    → RunsTurns input first means s script outcomes ts old new
    → RunsTurns input first other s script outcomes ts old new
