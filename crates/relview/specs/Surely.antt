-- What the program promises over a shelf and a sink whose calls never fail.
use Rattle.std.specs.Prelude.{◌≡◌, ◌≤◌, ◌⊎◌, ℕ, true, List, length, Some}
use Rattle.std.specs.List.{AllByRecursion}
use Rattle.rv_io.specs.Outside.{Files, Told}
use Rattle.rv_words.specs.Uses.{Word}
use Rattle.rv_words.specs.Said.{Said, said_by}
use Rattle.rv_ends.specs.Given.{file_words, limit_of}
use Rattle.rv_ends.specs.Writing.{Sunk}
use Rattle.relview.specs.Top.{HasRun, Answers, outcomes_of}
use Rattle.relview.specs.Complete.{HadMemory, AllVacant, IsComplete}
use Rattle.relview.specs.declared.report.Report.{Report}

-- the file of each FILE word is within its limit
abbrev pub FilesFit : Files → List Word → Type 0
FilesFit files words = AllByRecursion
    (λ word. (bytes : List ℕ) → files word ≡ Some bytes → length bytes ≤ limit_of word) (file_words words)

-- a run answered its words, and no call failed
pub record IsSure (words : List Word) (shelf_old shelf_new : Told) (old new : Sunk) (report : Report) : Type 0 where
  -- the promise of every run
  pub answers : Answers words shelf_old shelf_new old new report
  -- if the words are accepted, and the files are reported and within their limits, the scripts ran, or memory ran out
  pub begins : (said : Said) → said_by words ≡ Some said → (files : Files) → shelf_old.files ≡ Some files
      → FilesFit files words → (report.ran ≡ true) ⊎ (report.status ≡ 5)
  -- if they ran, no command ran out of memory, and the words of each batch have a vacant place, the run is complete
  pub complete : (run : HasRun words shelf_old shelf_new old new report) → HadMemory (outcomes_of report)
      → AllVacant run.said.nodes (length run.input.ends) report
      → IsComplete words shelf_old shelf_new old new report run
