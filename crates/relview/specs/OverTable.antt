-- The result of a batch over its own table.
use Rattle.std.specs.Prelude.{◌≡◌, ℕ, List, length, Some, IsSome}
use Rattle.std.specs.List.{AllByRecursion}
use Rattle.rel_model.specs.declared.Rel.{Rel}
use Rattle.rel_model.specs.Relation.{Relation}
use Rattle.rel_model.specs.Roots.{relation_in}
use Rattle.rel_model.specs.Trees.{bottom_height}
use Rattle.rel_model.specs.Equations.{node_words}
use Rattle.rel_model.specs.Views.{View}
use Rattle.run_model.specs.declared.files.Loaded.{Loaded}
use Rattle.run_model.specs.Inputs.{Input, AreReadings}
use Rattle.run_model.specs.Versions.{noted}
use Rattle.run_model.specs.Carried.{Carried, First}
use Rattle.run_model.specs.Stored.{LiveIn}
use Rattle.run_model.specs.Batches.{state_left, versions_left}
use Rattle.rv_runs.specs.Past.{scripts_of, Asks, AllTold, IsWithin, Past, batch_of_past}
use Rattle.rv_runs.specs.PastWords.{IsHeld}
use Rattle.rv_runs.specs.Parts.{AreParts}
use Rattle.relview.specs.declared.over_table.OverTable.{OverTable}

-- the relations of these names stand in the words
abbrev pub AllNamed : List ℕ → Carried → Type 0
AllNamed words = AllByRecursion (λ entry. IsSome (relation_in words entry.1))

-- A batch of these scripts is over; its sessions are numbered from number on, and the first seat of its table had seen
-- some words. Its events and what each session answered are these. Relations that stood in the words of the seat kept
-- their values. The words of the table hold the batch, with at most as many nodes as the seat counted and its sessions
-- made. The names and versions are those that it leaves, with their relations in the words.
pub record RanOver (bits : ℕ) (scripts : List (List ℕ)) (number : ℕ) (files : List Loaded) (turns : ℕ) (first : First)
    (seat : View) (ran : OverTable) : Type 0 where
  pub past : Past
  pub first_is : past.first ≡ first
  pub log_is : past.log ≡ ran.events.items
  pub read : AreReadings (scripts_of past.parts) past.readings
  pub promises : (input : Input) → Asks files turns input
      → AllTold bottom_height input past.first past.means past.log number past.readings past.parts
  pub numbers : AllByRecursion (IsWithin number (length past.parts)) past.log
  pub told : AreParts scripts ran.told.items past.parts
  pub kept : (rel : Rel) (r : Relation) → relation_in seat.words rel ≡ Some r → past.means rel ≡ r
  pub held : IsHeld bits seat.made ran.words.items past
  pub live : LiveIn (node_words bits ran.words.items) ran.names (state_left (batch_of_past past))
  pub versions_are : (name : List ℕ) → noted ran.versions name ≡ versions_left (batch_of_past past) name
