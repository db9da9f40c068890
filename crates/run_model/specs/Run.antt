-- A whole run, as its caller sees it.
use Rattle.std.specs.Prelude.{◌≡◌, ℕ, List, [], ◌∷◌, map, length}
use Rattle.std.specs.List.{AllByRecursion}
use Rattle.run_model.specs.declared.event.Event.{Event}
use Rattle.run_model.specs.declared.outcome.Outcome.{Outcome}
use Rattle.run_model.specs.Inputs.{Input, Reading, AreReadings, Rise}
use Rattle.run_model.specs.Events.{entry_of}
use Rattle.run_model.specs.Legal.{IsLegal}
use Rattle.run_model.specs.Page.{SavedFile, page, saves}
use Rattle.run_model.specs.Cost.{cost_of_run, cost_of_batch}
use Rattle.run_model.specs.Solo.{Suffices}

-- a lawful run of scripts: the input is the result of reading their bytes, each batch has at least one script and the
-- last ends with the last script, history and outcomes are lawful for the input, and page and files are theirs
pub record IsRun (scripts : List (List ℕ)) (input : Input) (history : List Event) (outcomes : List (List Outcome))
    (shown : List ℕ) (files : List SavedFile) : Type 0 where
  pub read : AreReadings scripts input.readings
  pub batches : Rise 0 (length input.readings) input.ends
  pub legal : IsLegal input history outcomes
  pub page_shown : shown ≡ page input history outcomes
  pub files_put : files ≡ saves input history outcomes

-- what a run shows, saves and costs does not depend on the roots of its relations
pub record SameWithoutRoots (input : Input) (outcomes : List (List Outcome)) (first second : List Event) : Type 0 where
  pub page : page input first outcomes ≡ page input second outcomes
  pub saves : saves input first outcomes ≡ saves input second outcomes
  pub cost : (leaf : ℕ) → cost_of_run leaf input first outcomes ≡ cost_of_run leaf input second outcomes
  pub cost_of_batches : (leaf b : ℕ) →
      cost_of_batch leaf input first outcomes b ≡ cost_of_batch leaf input second outcomes b

-- histories with the same entries have the same page, files and cost
abbrev pub RootsMeanNothing : Type 0
RootsMeanNothing =
    (input : Input) (outcomes : List (List Outcome)) (first second : List Event)
    → map entry_of first ≡ map entry_of second → SameWithoutRoots input outcomes first second

-- two runs of one script in which nothing ran out have the same outcomes, pages and files
abbrev pub OneScriptOnePage : Type 0
OneScriptOnePage =
    (input : Input) (reading : Reading) (first second : List Event) (os others : List Outcome)
    → input.readings ≡ reading ∷ [] → AllByRecursion Suffices os → AllByRecursion Suffices others
    → IsLegal input first (os ∷ []) → IsLegal input second (others ∷ [])
    → (os ≡ others) × (page input first (os ∷ []) ≡ page input second (others ∷ []))
    × (saves input first (os ∷ []) ≡ saves input second (others ∷ []))
