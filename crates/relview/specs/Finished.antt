-- The result of a run over its tables.
use Rattle.std.specs.Prelude.{ℕ, Bool, List, map}
use Rattle.run_model.specs.Inputs.{Input, Reading}
use Rattle.run_model.specs.Run.{IsRun}
use Rattle.run_model.specs.Stored.{HoldsRun}
use Rattle.run_model.specs.declared.files.Loaded.{Loaded}
use Rattle.run_model.specs.Filed.{file_of, saved_all}
use Rattle.relview.specs.declared.batches.Finished.{Finished}

-- what a run is given: its scripts as read, its relation files, the options, and where its batches end
abbrev pub input_with : List Reading → List Loaded → ℕ → Bool → List ℕ → Input
input_with readings files turns history ends = record {
  readings = readings;
  files = map file_of files;
  turns = turns;
  history = history;
  ends = ends;
}

-- A run of these scripts, in batches that end at these places, over tables of 2 ^ bits node words, has finished: its
-- history, outcomes, page and files are a lawful run of what the scripts are read as, and the words of the tables hold
-- it.
pub record IsFinished (bits : ℕ) (scripts : List (List ℕ)) (files : List Loaded) (turns : ℕ) (asked : Bool)
    (ends : List ℕ) (finished : Finished) : Type 0 where
  pub readings : List Reading
  pub run : IsRun scripts (input_with readings files turns asked ends) finished.history.items
      (map (λ v. v.items) finished.outcomes.items) finished.page.items (saved_all finished.saves.items)
  pub holds : HoldsRun bits (input_with readings files turns asked ends) finished.history.items
      (map (λ v. v.items) finished.outcomes.items) finished.old.items finished.words.items
