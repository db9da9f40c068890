-- What a batch promises for its scripts, however its sessions take their turns.
use Rattle.std.specs.Prelude.{◌≡◌, ◌≤◌, ◌<◌, ◌+◌, ℕ, List, [], ◌∷◌, length}
use Rattle.std.specs.List.{AllByRecursion}
use Rattle.rel_model.specs.Worker.{Worker, set_of}
use Rattle.rel_model.specs.Seats.{Holds}
use Rattle.run_model.specs.declared.event.Event.{Event}
use Rattle.run_model.specs.declared.files.Loaded.{Loaded}
use Rattle.run_model.specs.declared.outcome.Outcome.{Outcome}
use Rattle.run_model.specs.declared.outcome.Outcome.TheVariants.{Nodes}
use Rattle.run_model.specs.Inputs.{Input, Reading, AreReadings}
use Rattle.run_model.specs.Versions.{noted, version_behind}
use Rattle.run_model.specs.Carried.{Carried, First, carried_from}
use Rattle.run_model.specs.Filed.{saved_all}
use Rattle.rv_workspace.specs.Books.{HistoryStands, AllNamesStand}
use Rattle.rv_sessions.specs.declared.transcript.Transcript.{Transcript}
use Rattle.rv_sessions.specs.Telling.{texts_of}
use Rattle.rv_runs.specs.declared.ended.BatchEnd.{BatchEnd}
use Rattle.rv_runs.specs.Past.{Part, outcomes_of, made_in, Asks, AllTold, IsWithin}

-- a finished session, by its script, its answers, and how many nodes it made
abbrev pub part_of : List ℕ → Transcript → ℕ → Part
part_of bytes told made = record {
  bytes = bytes;
  outcomes = told.outcomes.items;
  text = texts_of told.replies.items;
  saved = saved_all told.saves.items;
  made = made;
}

-- the parts of a batch are its sessions: for each script, in order, its answers and some number of nodes
abbrev pub AreParts : List (List ℕ) → List Transcript → List Part → Type 0
AreParts [] [] [] = Unit {0}
AreParts (bytes ∷ scripts) (t ∷ told) (part ∷ parts) =
    ((made : ℕ) × (part ≡ part_of bytes t made)) × AreParts scripts told parts
AreParts [] [] (part ∷ parts) = ⊥
AreParts [] (t ∷ told) parts = ⊥
AreParts (bytes ∷ scripts) [] parts = ⊥
AreParts (bytes ∷ scripts) (t ∷ told) [] = ⊥

-- if an outcome says that the table was full, a miss is counted
abbrev pub MissedWhereFull : ℕ → List Outcome → Type 0
MissedWhereFull misses = AllByRecursion (λ o. o ≡ Nodes → 0 < misses)

-- A batch from this session number on, which began with these names and versions over the first worker, ended with the
-- second one, with these events, transcripts, names and versions. Each script was read with some result, and its
-- session answered accordingly, with events of its own number only; all relations of first names and of events stand in
-- the second worker, and what stood in the first has the same set there; a full table was counted as a miss; no more
-- nodes were made than by the sessions; the worker is at its table, with as many spare workers; and names and versions
-- are those that the events leave.
pub record CameToEnd (leaf : ℕ) (scripts : List (List ℕ)) (number : ℕ) (files : List Loaded) (turns : ℕ)
    (first : First) (old new : Worker) (log : List Event) (told : List Transcript) (names : Carried)
    (versions : List ℕ → ℕ) : Type 0 where
  pub readings : List Reading
  pub read : AreReadings scripts readings
  pub parts : List Part
  pub are : AreParts scripts told parts
  pub promises : (input : Input) → Asks files turns input
      → AllTold leaf input first (set_of new) log number readings parts
  pub numbers : AllByRecursion (IsWithin number (length parts)) log
  pub stand : HistoryStands new log
  pub first_stand : AllNamesStand new first.names
  pub holds : Holds old new
  pub missed : AllByRecursion (MissedWhereFull new.misses) (outcomes_of parts)
  pub made : new.made ≤ old.made + made_in parts
  pub house : new.house ≡ old.house
  pub spare : new.spare ≡ old.spare
  pub names_are : names ≡ carried_from first.names log
  pub versions_are : (name : List ℕ) → versions name ≡ version_behind first.versions log name

-- what the caller of a batch gets from it
abbrev pub EndsBatch : {E : Type 0} → (E → Worker) → ℕ → List (List ℕ) → ℕ → List Loaded → ℕ → First → Worker
    → BatchEnd E → Type 0
EndsBatch worker leaf scripts number files turns first old ended =
    CameToEnd leaf scripts number files turns first old (worker ended.engine) ended.events.items ended.told.items
    ended.names (noted ended.versions)
