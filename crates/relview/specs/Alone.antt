-- What the program promises of a script that runs alone, and of tables with enough room for their batches.
use Rattle.std.specs.Prelude.{◌≡◌, ◌≢◌, ◌<◌, ◌+◌, ◌^◌, ℕ, List, [], ◌∷◌, length, map, Some, None}
use Rattle.std.specs.List.{AllByRecursion}
use Rattle.rel_model.specs.Trees.{bottom_height}
use Rattle.run_model.specs.declared.outcome.Outcome.{Outcome}
use Rattle.run_model.specs.declared.outcome.Outcome.TheVariants.{Nodes}
use Rattle.run_model.specs.Inputs.{Input, Reading, batch_of}
use Rattle.run_model.specs.Events.{entry_of}
use Rattle.run_model.specs.Page.{SavedFile}
use Rattle.run_model.specs.Solo.{Suffices, solo}
use Rattle.run_model.specs.Cost.{cost_of_run, cost_of_batch}
use Rattle.rv_io.specs.Outside.{Files, Told}
use Rattle.rv_io.specs.Writing.{Grows}
use Rattle.rv_words.specs.Uses.{Word}
use Rattle.rv_words.specs.Said.{Said}
use Rattle.relview.specs.declared.report.Report.{Report}
use Rattle.rv_ends.specs.Writing.{Sunk, HasPut, IsTold}
use Rattle.rv_reading.specs.Inputs.{ReadAlike}
use Rattle.relview.specs.Top.{HasRun, outcomes_of, status_of}
use Rattle.relview.specs.Tables.{uses_into}
use Rattle.relview.specs.Readings.{AskAlike}
use Rattle.relview.specs.Complete.{NothingLacked}

-- ---- one script
-- neither nodes nor memory ran out for any command of any session
abbrev pub AllSuffice : List (List Outcome) → Type 0
AllSuffice outcomes = AllByRecursion (AllByRecursion Suffices) outcomes

-- the words name one script
pub record NameOne (said : Said) : Type 0 where
  pub named : said.number ≡ None
  pub script : Word
  pub alone : said.scripts ≡ script ∷ []

-- the outcomes and the history of a report are those that the input with its one script decides; roots of relations may
-- differ
pub record IsSolo (input : Input) (report : Report) : Type 0 where
  pub reading : Reading
  pub read : input.readings ≡ reading ∷ []
  pub outcomes : outcomes_of report ≡ (solo input reading).outcomes ∷ []
  pub history : map entry_of report.history.items ≡ (solo input reading).log

-- if a script ran alone, and neither nodes nor memory ran out, the result is what the input decides
abbrev pub AloneIsSolo : Type 0
AloneIsSolo =
    (words : List Word) (shelf_old shelf_new : Told) (old new : Sunk) (report : Report)
    → (ran : HasRun words shelf_old shelf_new old new report) → NameOne ran.said → AllSuffice (outcomes_of report)
    → IsSolo ran.input report

-- two reports have the same outcomes, the same history apart from roots, the same page and the same files
pub record AreOneRun (a b : Told) (o n : Sunk) (first : Report) (c d : Told) (p q : Sunk)
    (second : Report) : Type 0 where
  pub outcomes : outcomes_of first ≡ outcomes_of second
  pub history : map entry_of first.history.items ≡ map entry_of second.history.items
  pub page : List ℕ
  pub files : List SavedFile
  pub first_told : IsTold a b o n page files (status_of (outcomes_of first)) first.status
  pub second_told : IsTold c d p q page files (status_of (outcomes_of first)) second.status

-- two runs of one script are one run, whichever way each reads the text, if they read the same text, with the same
-- files and options, and neither nodes nor memory ran out
abbrev pub AloneIsOneRun : Type 0
AloneIsOneRun =
    (words others : List Word) (a b c d : Told) (o n p q : Sunk) (first second : Report)
    → (ran : HasRun words a b o n first) → (again : HasRun others c d p q second) → NameOne ran.said
    → ReadAlike ran.given.scripts ran.input again.input
    → AllSuffice (outcomes_of first) → AllSuffice (outcomes_of second)
    → AreOneRun a b o n first c d p q second

-- two reports have the same outcomes, the same history apart from roots, and the same status; both wrote the same page
-- in full and put the same files
pub record AreOneAnswer (a b : Told) (o n : Sunk) (first : Report) (c d : Told) (p q : Sunk)
    (second : Report) : Type 0 where
  pub outcomes : outcomes_of first ≡ outcomes_of second
  pub history : map entry_of first.history.items ≡ map entry_of second.history.items
  pub status : first.status ≡ second.status
  pub page : List ℕ
  pub first_written : Grows o.written n.written page
  pub second_written : Grows p.written q.written page
  pub files : List SavedFile
  pub first_put : HasPut a.files b.files files
  pub second_put : HasPut c.files d.files files

-- two runs of one script have one answer, whatever the workers and the tables, if they ask for the same, on shelves
-- that report the same files, and nothing went wrong in either
abbrev pub AloneIsOneAnswer : Type 0
AloneIsOneAnswer =
    (words others : List Word) (a b c d : Told) (o n p q : Sunk) (first second : Report) (files : Files)
    → (ran : HasRun words a b o n first) → (again : HasRun others c d p q second) → NameOne ran.said
    → a.files ≡ Some files → c.files ≡ Some files → AskAlike ran.said again.said
    → NothingLacked words a b o n first ran → NothingLacked others c d p q second again
    → AreOneAnswer a b o n first c d p q second

-- ---- room
-- of the sessions from number s on, none that belongs to batch b found its table full
abbrev pub NoneFullIn : List ℕ → ℕ → ℕ → List (List Outcome) → Type 0
NoneFullIn ends b s [] = Unit {0}
NoneFullIn ends b s (outcomes ∷ others) =
    (batch_of ends s ≡ b → AllByRecursion (λ o. o ≢ Nodes) outcomes) × NoneFullIn ends b (s + 1) others

-- no command of a batch finds the table full if the uses of nodes that lived on into the batch and the costs of its
-- commands add up to less than the places that its table has for nodes
abbrev pub EnoughRoom : Type 0
EnoughRoom =
    (words : List Word) (shelf_old shelf_new : Told) (old new : Sunk) (report : Report)
    → (ran : HasRun words shelf_old shelf_new old new report) → (b : ℕ) → b < length ran.input.ends
    → uses_into ran.said.nodes report b
    + cost_of_batch bottom_height ran.input report.history.items (outcomes_of report) b + 2 < 2 ^ ran.said.nodes
    → NoneFullIn ran.input.ends b 1 (outcomes_of report)

-- no command of a run of one batch finds the table full if the commands cost less than the places that it has for nodes
abbrev pub EnoughRoomAtOnce : Type 0
EnoughRoomAtOnce =
    (words : List Word) (shelf_old shelf_new : Told) (old new : Sunk) (report : Report)
    → (ran : HasRun words shelf_old shelf_new old new report) → length ran.input.ends ≡ 1
    → cost_of_run bottom_height ran.input report.history.items (outcomes_of report) + 2 < 2 ^ ran.said.nodes
    → AllByRecursion (AllByRecursion (λ o. o ≢ Nodes)) (outcomes_of report)
