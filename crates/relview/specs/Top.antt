-- What the program promises of each run.
use Rattle.std.specs.Prelude.{◌≡◌, ◌⊎◌, ℕ, Bool, true, false, cond, List, map, Some}
use Rattle.std.specs.List.{list_any, list_all}
use Rattle.std.specs.Bool.{MatchBool}
use Rattle.run_model.specs.declared.outcome.Outcome.{Outcome}
use Rattle.run_model.specs.declared.outcome.Outcome.TheVariants.{Done, NoMemory}
use Rattle.run_model.specs.Inputs.{Input, Reading, AreReadings}
use Rattle.run_model.specs.declared.files.Loaded.{Loaded}
use Rattle.run_model.specs.Legal.{IsLegal}
use Rattle.run_model.specs.Page.{page, saves}
use Rattle.run_model.specs.Stored.{HoldsRun, HoldsNothing}
use Rattle.rv_io.specs.Outside.{Told}
use Rattle.rv_words.specs.Uses.{Word}
use Rattle.rv_words.specs.Said.{Said, said_by}
use Rattle.rv_ends.specs.Given.{IsInput}
use Rattle.rv_ends.specs.Lines.{IsSaid}
use Rattle.rv_ends.specs.Writing.{Sunk, IsWritten, IsOut, IsTold, HasNoPut}
use Rattle.relview.specs.declared.report.Report.{Report}
use Rattle.relview.specs.Finished.{input_with}

-- ---- statuses
-- whether an outcome says that memory ran out
abbrev pub is_no_memory : Outcome → Bool
is_no_memory NoMemory = true
is_no_memory _ = false

-- whether a command was done
abbrev pub is_done : Outcome → Bool
is_done Done = true
is_done _ = false

-- 5 if memory ran out in a command; otherwise 1 if some command or script was refused; otherwise 0
unfoldable pub status_of : List (List Outcome) → ℕ
status_of outcomes = cond (list_any (list_any is_no_memory) outcomes) 5
    (cond (list_all (list_all is_done) outcomes) 0 1)

-- ---- runs
-- the outcomes of a report, session by session
abbrev pub outcomes_of : Report → List (List Outcome)
outcomes_of report = map (λ v. v.items) report.outcomes.items

-- The scripts ran.
pub record HasRun (words : List Word) (shelf_old shelf_new : Told) (old new : Sunk) (report : Report) : Type 0 where
  -- the words are accepted
  pub said : Said
  pub taken : said_by words ≡ Some said
  -- the input: the relation files, the options, and what the scripts, named or generated, are read as. The texts have
  -- many readings; `Readings.antt` says that everything that follows holds for each
  pub input : Input
  pub given : IsInput said shelf_old.files input
  -- in whatever order the sessions took their turns, the history and the outcomes are lawful
  pub legal : IsLegal input report.history.items (outcomes_of report)
  -- the words of each batch, finished or last, are sound. They hold each relation that the batch assigned with its
  -- value, and the relations of the names that live on with theirs. They store at most as many nodes as the uses that
  -- lived on into the batch plus what its commands may cost. If the table was full, the words are full
  pub holds : HoldsRun said.nodes input report.history.items (outcomes_of report) report.old.items report.words.items
  -- the page was written and the files were put, with the status of the outcomes; or part of them, with status 4
  pub told : IsTold shelf_old shelf_new old new (page input report.history.items (outcomes_of report))
      (saves input report.history.items (outcomes_of report)) (status_of (outcomes_of report)) report.status

-- these scripts ran, in batches that end at these places, with these relation files and options; it is the same
-- promise, for what the scripts are read as
pub record RanGiven (bits : ℕ) (scripts : List (List ℕ)) (files : List Loaded) (turns : ℕ) (asked : Bool)
    (ends : List ℕ) (shelf_old shelf_new : Told) (old new : Sunk) (report : Report) : Type 0 where
  pub readings : List Reading
  pub read : AreReadings scripts readings
  pub legal : IsLegal (input_with readings files turns asked ends) report.history.items (outcomes_of report)
  pub holds : HoldsRun bits (input_with readings files turns asked ends) report.history.items (outcomes_of report)
      report.old.items report.words.items
  pub told : IsTold shelf_old shelf_new old new (page (input_with readings files turns asked ends) report.history.items
      (outcomes_of report))
      (saves (input_with readings files turns asked ends) report.history.items (outcomes_of report))
      (status_of (outcomes_of report)) report.status

-- the report has no history, no outcomes, no finished batch and no words
abbrev pub IsEmpty : Report → Type 0
IsEmpty report = HoldsNothing report.history.items (outcomes_of report) report.old.items report.words.items

-- a line was written, whole or in part
pub record Says (words : List Word) (shelf_old shelf_new : Told) (old new : Sunk) (status : ℕ) : Type 0 where
  pub line : List ℕ
  pub whole : ℕ
  pub said : IsSaid words shelf_old shelf_new line whole
  pub written : IsWritten old new line whole status

-- nothing ran because memory ran out: the report is empty, no file was put and nothing was written
pub record GaveUp (shelf_old shelf_new : Told) (old new : Sunk) (report : Report) : Type 0 where
  pub empty : IsEmpty report
  pub no_put : HasNoPut shelf_old shelf_new
  pub answer : IsOut old new report.status

-- Nothing ran: the report is empty and no file was put. A line with the cause was written, or memory ran out.
pub record HasStopped (words : List Word) (shelf_old shelf_new : Told) (old new : Sunk) (report : Report) : Type 0 where
  pub empty : IsEmpty report
  pub no_put : HasNoPut shelf_old shelf_new
  pub answer : Says words shelf_old shelf_new old new report.status ⊎ IsOut old new report.status

-- the run that answers these words: its scripts ran, or nothing did
abbrev pub Answers : List Word → Told → Told → Sunk → Sunk → Report → Type 0
Answers words shelf_old shelf_new old new report =
    MatchBool report.ran (HasRun words shelf_old shelf_new old new report)
    (HasStopped words shelf_old shelf_new old new report)

-- the scripts that were given ran, or nothing did
abbrev pub AnswersGiven : ℕ → List (List ℕ) → List Loaded → ℕ → Bool → List ℕ → Told → Told → Sunk → Sunk → Report
    → Type 0
AnswersGiven bits scripts files turns asked ends shelf_old shelf_new old new report =
    MatchBool report.ran (RanGiven bits scripts files turns asked ends shelf_old shelf_new old new report)
    (GaveUp shelf_old shelf_new old new report)
