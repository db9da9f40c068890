-- Any reading of the texts will do: the run is a run of each.
use Rattle.std.specs.Prelude.{◌≡◌, ℕ, List, Some}
use Rattle.run_model.specs.Inputs.{Input}
use Rattle.run_model.specs.Legal.{IsLegal}
use Rattle.run_model.specs.Page.{page, saves}
use Rattle.run_model.specs.Stored.{HoldsRun}
use Rattle.rv_io.specs.Outside.{Files, Told}
use Rattle.rv_words.specs.Uses.{Word}
use Rattle.rv_words.specs.Said.{Said, said_by}
use Rattle.rv_ends.specs.Given.{IsInput}
use Rattle.rv_ends.specs.Writing.{Sunk, IsTold}
use Rattle.rv_reading.specs.Inputs.{ReadAlike}
use Rattle.relview.specs.declared.report.Report.{Report}
use Rattle.relview.specs.Top.{HasRun, outcomes_of, status_of}

-- the report is that of a run of this input: its history and outcomes are lawful, the words of the tables hold it, and
-- its page and its files were written, or part of them, with status 4
pub record IsRunOf (nodes : ℕ) (input : Input) (shelf_old shelf_new : Told) (old new : Sunk)
    (report : Report) : Type 0 where
  pub legal : IsLegal input report.history.items (outcomes_of report)
  pub holds : HoldsRun nodes input report.history.items (outcomes_of report) report.old.items report.words.items
  pub told : IsTold shelf_old shelf_new old new (page input report.history.items (outcomes_of report))
      (saves input report.history.items (outcomes_of report)) (status_of (outcomes_of report)) report.status

-- if the scripts ran, the report is that of a run of every reading of their texts
abbrev pub EveryReadingHasTheRun : Type 0
EveryReadingHasTheRun =
    (words : List Word) (shelf_old shelf_new : Told) (old new : Sunk) (report : Report)
    (run : HasRun words shelf_old shelf_new old new report) (input : Input)
    → ReadAlike run.given.scripts run.input input → IsRunOf run.said.nodes input shelf_old shelf_new old new report

-- if the shelf reports its files, the report is that of a run of every input that the words and the files give
abbrev pub EveryInputHasTheRun : Type 0
EveryInputHasTheRun =
    (words : List Word) (shelf_old shelf_new : Told) (old new : Sunk) (report : Report) (files : Files)
    (run : HasRun words shelf_old shelf_new old new report) (said : Said) (input : Input)
    → shelf_old.files ≡ Some files → said_by words ≡ Some said → IsInput said shelf_old.files input
    → IsRunOf said.nodes input shelf_old shelf_new old new report

-- ---- two runs
-- two command lines ask for the same run: they differ at most in the number of workers and in the size of the table
pub record AskAlike (said other : Said) : Type 0 where
  pub number : said.number ≡ other.number
  pub scripts : said.scripts ≡ other.scripts
  pub relations : said.relations ≡ other.relations
  pub ends : said.ends ≡ other.ends
  pub turns : said.turns ≡ other.turns
  pub history : said.history ≡ other.history

-- equal words ask for the same run
abbrev pub SameWordsAskAlike : Type 0
SameWordsAskAlike =
    (words : List Word) (said other : Said) → said_by words ≡ Some said → said_by words ≡ Some other
    → AskAlike said other

-- two runs that ask for the same, on shelves that report the same files, read the same texts, with the same relation
-- files and options
abbrev pub SameFilesReadAlike : Type 0
SameFilesReadAlike =
    (words others : List Word) (a b c d : Told) (o n p q : Sunk) (first second : Report) (files : Files)
    → (ran : HasRun words a b o n first) → (again : HasRun others c d p q second)
    → a.files ≡ Some files → c.files ≡ Some files → AskAlike ran.said again.said
    → ReadAlike ran.given.scripts ran.input again.input
