-- The result of a run in which nothing went wrong: memory did not run out, tables had room, and no call outside failed.
use Rattle.std.specs.Prelude.{◌≡◌, ◌≢◌, ◌<◌, ◌≤◌, ◌⊎◌, ◌+◌, ℕ, true, List, [], ◌∷◌, length, Some}
use Rattle.std.specs.List.{AllByRecursion}
use Rattle.rel_model.specs.Words.{IsFull}
use Rattle.run_model.specs.declared.event.Event.{Event}
use Rattle.run_model.specs.declared.outcome.Outcome.{Outcome}
use Rattle.run_model.specs.declared.outcome.Outcome.TheVariants.{Parse, Ill, NoMemory}
use Rattle.run_model.specs.Inputs.{Input, Reading, NoScript, Flawed, Runs}
use Rattle.lang_model.specs.declared.syntax.Item.{Item}
use Rattle.run_model.specs.Due.{Due, outcome_due}
use Rattle.run_model.specs.Outcomes.{MayBeChanged, IsChanged}
use Rattle.run_model.specs.Steps.{due_at}
use Rattle.run_model.specs.Legal.{steps_in}
use Rattle.run_model.specs.Page.{page, saves}
use Rattle.rv_io.specs.Outside.{Files, Told, Rose}
use Rattle.rv_io.specs.Writing.{Grows}
use Rattle.rv_words.specs.Uses.{Word}
use Rattle.rv_words.specs.Said.{Said, said_by}
use Rattle.rv_ends.specs.Given.{file_words, limit_of}
use Rattle.rv_ends.specs.Writing.{Sunk, HasPut}
use Rattle.relview.specs.Top.{HasRun, Answers, outcomes_of, status_of}
use Rattle.relview.specs.Tables.{nodes_of_batch}
use Rattle.relview.specs.declared.report.Report.{Report}

-- no command ran out of memory
abbrev pub HadMemory : List (List Outcome) → Type 0
HadMemory = AllByRecursion (AllByRecursion (λ outcome. outcome ≢ NoMemory))

-- the outcome is the one that is due of the item; or the item is an atomic block that was due to be done, and it was
-- refused at its commit
abbrev pub IsDue : Item → Due → Outcome → Type 0
IsDue item d outcome = (outcome ≡ outcome_due d) ⊎ (IsChanged outcome × MayBeChanged item d)

-- the outcomes of a session are those that are due, each on what its item saw, except for blocks refused at their
-- commits
abbrev pub CameDue : Input → List Event → ℕ → Reading → List Outcome → Type 0
CameDue input history s (NoScript fault) outcomes = outcomes ≡ Parse fault ∷ []
CameDue input history s (Flawed fault) outcomes = outcomes ≡ Ill fault ∷ []
CameDue input history s (Runs script) outcomes =
    AllByRecursion (λ step. IsDue step.item (due_at input script step) step.outcome)
    (steps_in input history s script outcomes)

-- the same for the sessions from number s on
abbrev pub AllCameDue : Input → List Event → ℕ → List Reading → List (List Outcome) → Type 0
AllCameDue input history s [] [] = Unit {0}
AllCameDue input history s (reading ∷ readings) (outcomes ∷ others) =
    CameDue input history s reading outcomes × AllCameDue input history (s + 1) readings others
AllCameDue input history s [] (outcomes ∷ others) = ⊥
AllCameDue input history s (reading ∷ readings) [] = ⊥

-- no write and no put failed, and neither count of failures has reached its last value
pub record NoneFailed (shelf_old shelf_new : Told) (old new : Sunk) : Type 0 where
  pub writes : Rose old.faults new.faults → ⊥
  pub puts : Rose shelf_old.put_faults shelf_new.put_faults → ⊥

-- the words of each batch have a vacant place
abbrev pub AllVacant : ℕ → ℕ → Report → Type 0
AllVacant bits count report = (b : ℕ) → b < count → IsFull (nodes_of_batch bits report b) → ⊥

-- nothing went wrong in a run: no command ran out of memory, the words of each batch have a vacant place, and no write
-- and no put failed
pub record NothingLacked (words : List Word) (shelf_old shelf_new : Told) (old new : Sunk) (report : Report)
    (run : HasRun words shelf_old shelf_new old new report) : Type 0 where
  pub memory : HadMemory (outcomes_of report)
  pub vacant : AllVacant run.said.nodes (length run.input.ends) report
  pub outside : NoneFailed shelf_old shelf_new old new

-- such a run is complete: each outcome is the one that is due, or says that a name was changed before an atomic block
-- could commit; the page was written in full, its files were put, and the status is that of the outcomes
pub record IsComplete (words : List Word) (shelf_old shelf_new : Told) (old new : Sunk) (report : Report)
    (run : HasRun words shelf_old shelf_new old new report) : Type 0 where
  pub due : AllCameDue run.input report.history.items 1 run.input.readings (outcomes_of report)
  pub written : Grows old.written new.written (page run.input report.history.items (outcomes_of report))
  pub put : HasPut shelf_old.files shelf_new.files (saves run.input report.history.items (outcomes_of report))
  pub status : report.status ≡ status_of (outcomes_of report)

-- a run in which nothing went wrong is complete
abbrev pub CompleteRuns : Type 0
CompleteRuns =
    (words : List Word) (shelf_old shelf_new : Told) (old new : Sunk) (report : Report)
    (run : HasRun words shelf_old shelf_new old new report)
    → NothingLacked words shelf_old shelf_new old new report run
    → IsComplete words shelf_old shelf_new old new report run

-- ---- that a run begins
-- nothing stood in the way of a run: the words are accepted, no pick, read or write failed, the shelf reports its
-- files, and the file of each FILE word is within its limit
pub record NothingStopped (words : List Word) (shelf_old shelf_new : Told) (old new : Sunk) : Type 0 where
  pub said : Said
  pub taken : said_by words ≡ Some said
  pub reads : Rose shelf_old.faults shelf_new.faults → ⊥
  pub writes : Rose old.faults new.faults → ⊥
  pub files : Files
  pub told : shelf_old.files ≡ Some files
  pub within : AllByRecursion (λ word. (bytes : List ℕ) → files word ≡ Some bytes → length bytes ≤ limit_of word)
      (file_words words)

-- if nothing stood in the way, the scripts ran, or memory ran out
abbrev pub RunsBegin : Type 0
RunsBegin =
    (words : List Word) (shelf_old shelf_new : Told) (old new : Sunk) (report : Report)
    → Answers words shelf_old shelf_new old new report → NothingStopped words shelf_old shelf_new old new
    → (report.ran ≡ true) ⊎ (report.status ≡ 5)
