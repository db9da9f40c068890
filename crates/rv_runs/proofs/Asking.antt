-- What is asked of a session depends on the relation files and the turns of its input alone.
-- 1. What is due of an item, and its cost, are the same by cases on the item.
-- 2. So are the events, outcomes, values, replies, saves and cost of steps, one after another.
use Rattle.std.specs.List.{AllByRecursion}
use Rattle.std.proofs.Common.{◌≡◌, ◌+◌, ◌++◌, ℕ, Bool, List, [], ◌∷◌, Option, Some, None, refl, ap, subst, ◌∙◌, map}
use Rattle.rel_model.specs.declared.Rel.{Rel}
use Rattle.rel_model.specs.Relation.{Relation}
use Rattle.lang_model.specs.declared.syntax.Command.{Command}
use Rattle.lang_model.specs.declared.syntax.Command.TheVariants.{
  Relation as RELATION,
  Let,
  Print as PRINT,
  List as LIST,
  Count,
  Typed,
  Remove as DROP,
  Snap,
  At,
  Load,
  Save,
  LoadAll,
  SaveAll,
  Atomic,
  Explain,
}
use Rattle.lang_model.specs.declared.syntax.Item.{Item}
use Rattle.lang_model.specs.declared.syntax.Item.TheVariants.{Function, Program, Command as COMMAND}
use Rattle.lang_model.specs.declared.syntax.Script.{Script}
use Rattle.run_model.specs.declared.event.Event.{Event}
use Rattle.run_model.specs.declared.outcome.Outcome.{Outcome}
use Rattle.run_model.specs.Inputs.{Input, Reading, RelationFile}
use Rattle.run_model.specs.Due.{Workspace, Due, gives, due, due_of_command}
use Rattle.run_model.specs.Steps.{ending, Step, due_at}
use Rattle.run_model.specs.Events.{Entry, entry_of, HasDeeds, AreEvents}
use Rattle.run_model.specs.Outcomes.{IsOutcome, AreOutcomes}
use Rattle.run_model.specs.Page.{reply, replies, save_at, saves_of}
use Rattle.run_model.specs.Cost.{cost_of_command, cost_of_item, cost_of_step, cost_of_steps}
use Rattle.run_model.specs.Carried.{First}
use Rattle.run_model.specs.Turns.{Turn, puts_of}
use Rattle.run_model.specs.Sessions.{rels_of, HasValuesAt, HasValues, RunsTurns, steps_taken}

module _ (files : List RelationFile) (turns : ℕ) where
  -- an input of these files and turns
  abbrev pub input_of_both : List Reading → Bool → List ℕ → Input
  input_of_both readings history ends =
      record { readings = readings; files = files; turns = turns; history = history; ends = ends }

  module _ (readings others : List Reading) (history asked : Bool) (ends others_end : List ℕ) where
    abbrev one : Input
    one = input_of_both readings history ends

    abbrev other : Input
    other = input_of_both others asked others_end

    command_alike : (script : Script) (c : Command) (s : Workspace) (snap : Option Workspace) →
        due_of_command one script c s snap ≡ due_of_command other script c s snap
    unfolding due_of_command
    command_alike script (RELATION name rows rows_at cols cols_at list) s snap = refl
    command_alike script (Let name e) s snap = refl
    command_alike script (PRINT e) s snap = refl
    command_alike script (LIST e) s snap = refl
    command_alike script (Count e) s snap = refl
    command_alike script (Typed e) s snap = refl
    command_alike script (DROP at name) s snap = refl
    command_alike script (Snap name) s snap = refl
    command_alike script (At at name e) s None = refl
    command_alike script (At at name e) s (Some t) = refl
    command_alike script (Load name file) s snap = refl
    command_alike script (Save e file) s snap = refl
    command_alike script (LoadAll file) s snap = refl
    command_alike script (SaveAll file) s snap = refl
    command_alike script (Atomic lets) s snap = refl
    command_alike script (Explain e) s snap = refl

    due_alike : (script : Script) (item : Item) (s : Workspace) (snap : Option Workspace) →
        due one script item s snap ≡ due other script item s snap
    unfolding due
    due_alike script (COMMAND c) s snap = command_alike script c s snap
    due_alike script (Function at name params body) s snap = refl
    due_alike script (Program at name params decls body result) s snap = refl

    command_costs_alike : (leaf : ℕ) (script : Script) (c : Command) (s : Workspace) (snap : Option Workspace) (d : Due) →
        cost_of_command leaf one script c s snap d ≡ cost_of_command leaf other script c s snap d
    command_costs_alike leaf script (RELATION name rows rows_at cols cols_at list) s snap d = refl
    command_costs_alike leaf script (Let name e) s snap d = refl
    command_costs_alike leaf script (PRINT e) s snap d = refl
    command_costs_alike leaf script (LIST e) s snap d = refl
    command_costs_alike leaf script (Count e) s snap d = refl
    command_costs_alike leaf script (Typed e) s snap d = refl
    command_costs_alike leaf script (DROP at name) s snap d = refl
    command_costs_alike leaf script (Snap name) s snap d = refl
    command_costs_alike leaf script (At at name e) s None d = refl
    command_costs_alike leaf script (At at name e) s (Some t) d = refl
    command_costs_alike leaf script (Load name file) s snap d = refl
    command_costs_alike leaf script (Save e file) s snap d = refl
    command_costs_alike leaf script (LoadAll file) s snap d = refl
    command_costs_alike leaf script (SaveAll file) s snap d = refl
    command_costs_alike leaf script (Atomic lets) s snap d = refl
    command_costs_alike leaf script (Explain e) s snap d = refl

    costs_alike : (leaf : ℕ) (script : Script) (item : Item) (s : Workspace) (snap : Option Workspace) (d : Due) →
        cost_of_item leaf one script item s snap d ≡ cost_of_item leaf other script item s snap d
    costs_alike leaf script (COMMAND c) s snap d = command_costs_alike leaf script c s snap d
    costs_alike leaf script (Function at name params body) s snap d = refl
    costs_alike leaf script (Program at name params decls body result) s snap d = refl

    module _ (script : Script) where
      step_due : (step : Step) → due_at one script step ≡ due_at other script step
      step_due step = due_alike script step.item step.state step.snap

      step_cost : (leaf : ℕ) (step : Step) → cost_of_step leaf one script step ≡ cost_of_step leaf other script step
      unfolding cost_of_step
      step_cost leaf step =
          costs_alike leaf script step.item step.state step.snap (due_at one script step)
          ∙ ap (cost_of_item leaf other script step.item step.state step.snap) (step_due step)

      events_alike : (s : ℕ) (steps : List Step) (log : List Entry) → AreEvents one script s steps log → AreEvents other script s steps log
      events_alike s [] log k = k
      events_alike s (step ∷ steps) log k = (
        k.0,
        k.1,
        k.2,
        subst (λ d. HasDeeds (ending step.outcome) step.item d k.0) (step_due step) k.3,
        events_alike s steps k.1 k.4,
      )

      outcomes_alike : (steps : List Step) → AreOutcomes one script steps → AreOutcomes other script steps
      outcomes_alike [] k = k
      outcomes_alike (step ∷ steps) k = (
        subst (λ d. IsOutcome step.item d step.outcome) (step_due step) k.0,
        outcomes_alike steps k.1,
      )

      values_alike : (means : Rel → Relation) (events : List Event) (steps : List Step) →
          AllByRecursion (HasValues one script means events) steps → AllByRecursion (HasValues other script means events) steps
      values_alike means events [] k = k
      values_alike means events (step ∷ steps) k = (
        subst (λ d. HasValuesAt (ending step.outcome) means (rels_of step.number events) (gives step.item d)) (step_due step) k.0,
        values_alike means events steps k.1,
      )

      pub replies_alike : (s : ℕ) (steps : List Step) → replies one script s steps ≡ replies other script s steps
      unfolding replies
      replies_alike s [] = refl
      replies_alike s (step ∷ steps) =
          (λ i. reply s step.number step.item (step_due step i) step.outcome ++ replies_alike s steps i)

      pub saves_alike : (steps : List Step) → saves_of one script steps ≡ saves_of other script steps
      unfolding saves_of
      saves_alike [] = refl
      saves_alike (step ∷ steps) = (λ i. save_at (ending step.outcome) step.item (step_due step i) ++ saves_alike steps i)

      pub all_costs_alike : (leaf : ℕ) (steps : List Step) → cost_of_steps leaf one script steps ≡ cost_of_steps leaf other script steps
      all_costs_alike leaf [] = refl
      all_costs_alike leaf (step ∷ steps) = (λ i. step_cost leaf step i + all_costs_alike leaf steps i)

      pub turns_alike : (first : First) (means : Rel → Relation) (s : ℕ) (outcomes : List Outcome) (ts : List Turn) (old new : List Event) →
          RunsTurns one first means s script outcomes ts old new → RunsTurns other first means s script outcomes ts old new
      turns_alike first means s outcomes ts old new r = record {
        turns = r.turns;
        own = r.own;
        once = r.once;
        each = r.each;
        events = events_alike s (steps_taken first.names means ts script outcomes) (map entry_of (puts_of ts)) r.events;
        outcomes_due = outcomes_alike (steps_taken first.names means ts script outcomes) r.outcomes_due;
        values = values_alike means (puts_of ts) (steps_taken first.names means ts script outcomes) r.values;
        commits = r.commits;
      }
