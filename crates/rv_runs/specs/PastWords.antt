-- What the words of finished batches hold, as batch after batch is added.
use Rattle.std.specs.Prelude.{◌≡◌, ◌≤◌, ◌+◌, ℕ, Bool, List, [], ◌∷◌, ◌++◌, length}
use Rattle.std.specs.List.{AllByRecursion}
use Rattle.rel_model.specs.Words.{stored_count}
use Rattle.rel_model.specs.Equations.{IsSoundTable, node_words}
use Rattle.rel_model.specs.Trees.{bottom_height}
use Rattle.rel_model.specs.Roots.{HasOneRootEach}
use Rattle.run_model.specs.declared.batch.OldBatch.{OldBatch}
use Rattle.run_model.specs.declared.files.Loaded.{Loaded}
use Rattle.run_model.specs.Names.{no_names}
use Rattle.run_model.specs.Due.{Workspace}
use Rattle.run_model.specs.Stored.{AreInWords, FillsWhereFull, LiveIn, uses_of_live, HoldsRun}
use Rattle.run_model.specs.Batches.{state_left, versions_left}
use Rattle.rv_runs.specs.Past.{
  outcomes_of,
  made_in,
  Past,
  batch_of_past,
  ArePast,
  parts_of,
  history_of,
  input_of_past,
}

-- ---- after finished batches
-- the state left by the last of them, or this one if there is none
abbrev pub state_behind : Workspace → List Past → Workspace
state_behind state [] = state
state_behind state (p ∷ ps) = state_behind (state_left (batch_of_past p)) ps

-- the versions left by the last of them, or these if there is none
abbrev pub versions_behind : (List ℕ → ℕ) → List Past → List ℕ → ℕ
versions_behind versions [] = versions
versions_behind versions (p ∷ ps) = versions_behind (versions_left (batch_of_past p)) ps

-- the place in the history that the last of them reached, or this one if there is none
abbrev pub upto_behind : ℕ → List OldBatch → ℕ
upto_behind from [] = from
upto_behind from (old ∷ olds) = upto_behind old.upto olds

-- the uses of nodes that lived on from the last of them, or these if there is none
abbrev pub uses_behind : ℕ → ℕ → List OldBatch → ℕ
uses_behind bits uses [] = uses
uses_behind bits uses (old ∷ olds) =
    uses_behind bits (uses_of_live (node_words bits old.words.items) old.live.items) olds

-- ---- words
-- The words of a batch that began with this many uses of nodes that lived on: they are sound, with one root for each
-- value; the relations of its assignments stand in them; no more nodes are stored than were used before plus those that
-- its sessions made; and if a session found the table full, they are full.
pub record IsHeld (bits uses : ℕ) (words : List ℕ) (p : Past) : Type 0 where
  pub sound : IsSoundTable bits words
  pub one_root : HasOneRootEach (node_words bits words)
  pub in_words : AreInWords (node_words bits words) p.means p.log
  pub room : stored_count (node_words bits words) ≤ uses + made_in p.parts
  pub full : AllByRecursion (FillsWhereFull (node_words bits words)) (outcomes_of p.parts)

-- Finished batches, whose events begin at this place of the history and the first of which began with this many uses of
-- nodes, with what remains of each: its words hold it, its place is the end of its log, and the names that it left
-- stand in its words with their relations.
abbrev pub AreHeld : ℕ → ℕ → ℕ → List Past → List OldBatch → Type 0
AreHeld bits from uses [] [] = Unit {0}
AreHeld bits from uses (p ∷ ps) (old ∷ olds) =
    IsHeld bits uses old.words.items p × (old.upto ≡ from + length p.log)
    × LiveIn (node_words bits old.words.items) old.live.items (state_left (batch_of_past p))
    × AreHeld bits old.upto (uses_of_live (node_words bits old.words.items) old.live.items) ps olds
AreHeld bits from uses [] (old ∷ olds) = ⊥
AreHeld bits from uses (p ∷ ps) [] = ⊥

-- The words of finished batches, and those of the last one, hold the run.
abbrev pub WordsHoldRuns : Type 0
WordsHoldRuns =
    (bits : ℕ) (files : List Loaded) (turns : ℕ) (asked : Bool) (ps : List Past) (p : Past) (olds : List OldBatch)
    (words : List ℕ) → ArePast bottom_height files turns 1 no_names (λ name. 0) (ps ++ p ∷ [])
    → AreHeld bits 0 0 ps olds → IsHeld bits (uses_behind bits 0 olds) words p
    → HoldsRun bits (input_of_past files turns asked (ps ++ p ∷ [])) (history_of (ps ++ p ∷ []))
    (outcomes_of (parts_of (ps ++ p ∷ []))) olds words
