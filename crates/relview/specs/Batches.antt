-- The state of a run between its batches.
use Rattle.std.specs.Prelude.{◌≡◌, ◌+◌, ℕ, List, [], ◌∷◌, ◌++◌, length}
use Rattle.rel_model.specs.Equations.{node_words}
use Rattle.rel_model.specs.Trees.{bottom_height}
use Rattle.run_model.specs.declared.files.Loaded.{Loaded}
use Rattle.run_model.specs.Names.{no_names}
use Rattle.run_model.specs.Versions.{noted, version}
use Rattle.run_model.specs.Stored.{LiveIn}
use Rattle.run_model.specs.Batches.{state_left, versions_left}
use Rattle.rv_runs.specs.Past.{Past, batch_of_past, ArePast, parts_of, history_of, ends_from}
use Rattle.rv_runs.specs.PastWords.{uses_behind, IsHeld, AreHeld}
use Rattle.rv_runs.specs.Parts.{AreParts}
use Rattle.relview.specs.declared.batches.SoFar.{SoFar}

-- The batches of these scripts, which end at these places, are over. What is left of each one before the last holds
-- that one; the words of the last one's table hold the last, and its names stand there with the values that it left.
-- The events and the answers of the sessions are all there, and the versions are those that the last batch left,
-- counted over all events.
pub record IsSoFar (bits : ℕ) (files : List Loaded) (turns : ℕ) (scripts : List (List ℕ)) (ends : List ℕ)
    (so_far : SoFar) : Type 0 where
  pub before : List Past
  pub last : Past
  pub are : ArePast bottom_height files turns 1 no_names (λ name. 0) (before ++ last ∷ [])
  pub held : AreHeld bits 0 0 before so_far.old.items
  pub held_last : IsHeld bits (uses_behind bits 0 so_far.old.items) so_far.words.items last
  pub live : LiveIn (node_words bits so_far.words.items) so_far.names (state_left (batch_of_past last))
  pub events_are : so_far.events.items ≡ history_of (before ++ last ∷ [])
  pub told_are : AreParts scripts so_far.told.items (parts_of (before ++ last ∷ []))
  pub versions_are : (name : List ℕ) → noted so_far.versions name ≡ versions_left (batch_of_past last) name
  pub counted : (name : List ℕ) → noted so_far.versions name ≡ version name so_far.events.items
  pub ends_are : ends ≡ ends_from 0 (before ++ last ∷ [])

-- some scripts are done, and the next session has this number
pub record HasDone (bits : ℕ) (files : List Loaded) (turns number : ℕ) (so_far : SoFar) : Type 0 where
  pub scripts : List (List ℕ)
  pub ends : List ℕ
  pub is : IsSoFar bits files turns scripts ends so_far
  pub next : number ≡ 1 + length scripts

-- one more batch is done, with these scripts, and its first session has this number
abbrev pub GoesOn : ℕ → List Loaded → ℕ → ℕ → List (List ℕ) → SoFar → SoFar → Type 0
GoesOn bits files turns number more so_far new =
    (scripts : List (List ℕ)) (ends : List ℕ) → IsSoFar bits files turns scripts ends so_far
    → number ≡ 1 + length scripts
    → IsSoFar bits files turns (scripts ++ more) (ends ++ (length scripts + length more) ∷ []) new
