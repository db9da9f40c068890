-- The finished batches of a run: for each, what it began with, the closed log of its sessions, and what each session
-- answered; and that all batches together are one lawful run.
use Rattle.std.specs.Prelude.{
  ◌≡◌,
  ◌<◌,
  ◌≤◌,
  ◌+◌,
  cond,
  ℕ,
  Bool,
  List,
  [],
  ◌∷◌,
  ◌++◌,
  length,
  map,
  Some,
  slice_get,
}
use Rattle.std.specs.List.{AllByRecursion, flat_map}
use Rattle.rel_model.specs.declared.Rel.{Rel}
use Rattle.rel_model.specs.Relation.{Relation}
use Rattle.lang_model.specs.declared.syntax.Script.{Script}
use Rattle.run_model.specs.declared.event.Event.{Event}
use Rattle.run_model.specs.declared.files.Loaded.{Loaded}
use Rattle.run_model.specs.declared.outcome.Outcome.{Outcome}
use Rattle.run_model.specs.declared.outcome.Outcome.TheVariants.{Parse, Ill}
use Rattle.run_model.specs.Names.{no_names}
use Rattle.run_model.specs.Inputs.{Input, Reading, NoScript, Flawed, Runs, AreReadings}
use Rattle.run_model.specs.Due.{Workspace}
use Rattle.run_model.specs.Versions.{noted}
use Rattle.run_model.specs.States.{events_of}
use Rattle.run_model.specs.Carried.{First, valued}
use Rattle.run_model.specs.Turns.{BeginsLog, Turn, puts_of}
use Rattle.run_model.specs.Sessions.{RunsTurns, steps_taken}
use Rattle.run_model.specs.Batches.{Batch, logs_of, state_left, versions_left, AreAllBatches, SessionsRan}
use Rattle.run_model.specs.Page.{SavedFile, replies, refusals, saves_of, event_line}
use Rattle.run_model.specs.Cost.{cost_of_steps, cost_of_batch}
use Rattle.run_model.specs.Filed.{file_of}
use Rattle.run_model.specs.Run.{IsRun}

-- ---- finished sessions
-- a finished session: the bytes of its script, its outcomes, replies and files, and how many nodes it made
pub record Part : Type 0 where
  pub bytes : List ℕ
  pub outcomes : List Outcome
  pub text : List ℕ
  pub saved : List SavedFile
  pub made : ℕ

-- the scripts of sessions
abbrev pub scripts_of : List Part → List (List ℕ)
scripts_of = map (λ part. part.bytes)

-- their outcomes
abbrev pub outcomes_of : List Part → List (List Outcome)
outcomes_of = map (λ part. part.outcomes)

-- their replies, in order
abbrev pub text_of : List Part → List ℕ
text_of = flat_map (λ part. part.text)

-- their files, in order
abbrev pub files_of : List Part → List SavedFile
files_of = flat_map (λ part. part.saved)

-- how many nodes they made
abbrev pub made_in : List Part → ℕ
made_in [] = 0
made_in (part ∷ parts) = part.made + made_in parts

-- the input has these files, and this limit on the turns of loops
abbrev pub Asks : List Loaded → ℕ → Input → Type 0
Asks files turns input = (input.files ≡ map file_of files) × (input.turns ≡ turns)

-- A session of a batch ran its script: in turns that are in the closed log, which has no other events of its number;
-- its replies and files are those of its steps on the states that it took, and it made no more nodes than these may
-- cost.
pub record ToldScript (leaf : ℕ) (input : Input) (first : First) (means : Rel → Relation) (log : List Event) (s : ℕ)
    (script : Script) (part : Part) : Type 0 where
  pub ts : List Turn
  pub seen : List Event
  pub runs : RunsTurns input first means s script part.outcomes ts [] seen
  pub begins : BeginsLog seen log
  pub events : events_of s log ≡ puts_of ts
  pub text : part.text ≡ replies input script s (steps_taken first.names means ts script part.outcomes)
  pub saved : part.saved ≡ saves_of input script (steps_taken first.names means ts script part.outcomes)
  pub cost : part.made ≤ cost_of_steps leaf input script (steps_taken first.names means ts script part.outcomes)

-- a session did not run its script: it has this one outcome, reports it, and has no event, no file and no node
pub record ToldFault (log : List Event) (s : ℕ) (outcome : Outcome) (part : Part) : Type 0 where
  pub only : part.outcomes ≡ outcome ∷ []
  pub no_events : events_of s log ≡ []
  pub text : part.text ≡ refusals s part.outcomes
  pub saved : part.saved ≡ []
  pub cost : part.made ≤ 0

-- a session answered according to the result of reading its bytes
abbrev pub Told : ℕ → Input → First → (Rel → Relation) → List Event → ℕ → Reading → Part → Type 0
Told leaf input first means log s (NoScript fault) part = ToldFault log s (Parse fault) part
Told leaf input first means log s (Flawed fault) part = ToldFault log s (Ill fault) part
Told leaf input first means log s (Runs script) part = ToldScript leaf input first means log s script part

-- so did the sessions from number s on
abbrev pub AllTold : ℕ → Input → First → (Rel → Relation) → List Event → ℕ → List Reading → List Part → Type 0
AllTold leaf input first means log s [] [] = Unit {0}
AllTold leaf input first means log s (reading ∷ readings) (part ∷ parts) =
    Told leaf input first means log s reading part × AllTold leaf input first means log (s + 1) readings parts
AllTold leaf input first means log s [] (part ∷ parts) = ⊥
AllTold leaf input first means log s (reading ∷ readings) [] = ⊥

-- an event belongs to one of this many sessions, from this number on
abbrev pub IsWithin : ℕ → ℕ → Event → Type 0
IsWithin number count e = (number ≤ e.session) × (e.session < number + count)

-- ---- finished batches
-- a finished batch: the results of reading its scripts, the names and versions that it began with, what relations mean
-- in its table, its closed log, and its sessions
pub record Past : Type 0 where
  pub readings : List Reading
  pub first : First
  pub means : Rel → Relation
  pub log : List Event
  pub parts : List Part

-- the batch in terms of the model
abbrev pub batch_of_past : Past → Batch
batch_of_past p = record { first = p.first; means = p.means; log = p.log }

-- Finished batches, the first of whose sessions has this number, after a batch that left this state and these versions:
-- each has some scripts, which were read with these results, and whose sessions answered accordingly; its events belong
-- to its own sessions; and it began with relations whose values are those that the one before left, and with its
-- versions.
abbrev pub ArePast : ℕ → List Loaded → ℕ → ℕ → Workspace → (List ℕ → ℕ) → List Past → Type 0
ArePast leaf files turns number state versions [] = Unit {0}
ArePast leaf files turns number state versions (p ∷ ps) =
    AreReadings (scripts_of p.parts) p.readings
    × ((input : Input) → Asks files turns input
    → AllTold leaf input p.first p.means p.log number p.readings p.parts)
    × AllByRecursion (IsWithin number (length p.parts)) p.log
    × (1 ≤ length p.parts)
    × (valued p.means p.first.names ≡ state)
    × ((name : List ℕ) → noted p.first.versions name ≡ versions name)
    × ArePast leaf files turns (number + length p.parts) (state_left (batch_of_past p))
    (versions_left (batch_of_past p)) ps

-- ---- the run
-- the sessions of all batches
abbrev pub parts_of : List Past → List Part
parts_of = flat_map (λ p. p.parts)

-- the results of reading all scripts
abbrev pub readings_of : List Past → List Reading
readings_of = flat_map (λ p. p.readings)

-- the batches in terms of the model
abbrev pub batches_of : List Past → List Batch
batches_of = map batch_of_past

-- the events of all batches, one log after another
abbrev pub history_of : List Past → List Event
history_of ps = logs_of (batches_of ps)

-- for each batch, the number of scripts up to its end, after this many earlier scripts
abbrev pub ends_from : ℕ → List Past → List ℕ
ends_from count [] = []
ends_from count (p ∷ ps) = (count + length p.parts) ∷ ends_from (count + length p.parts) ps

-- what the run of these batches is given
abbrev pub input_of_past : List Loaded → ℕ → Bool → List Past → Input
input_of_past files turns asked ps = record {
  readings = readings_of ps;
  files = map file_of files;
  turns = turns;
  history = asked;
  ends = ends_from 0 ps;
}

-- the replies of all sessions, and then a line for each event if the history is wanted
abbrev pub page_of_past : Bool → List Past → List ℕ
page_of_past asked ps = text_of (parts_of ps) ++ cond asked (flat_map event_line (history_of ps)) []

-- Finished batches make one lawful run: they are the batches of a run of all their scripts, in which each session ran
-- in its batch; history, outcomes, page and files are those of a lawful run; and each batch made no more nodes than its
-- commands may cost.
pub record IsWhole (leaf : ℕ) (files : List Loaded) (turns : ℕ) (asked : Bool) (ps : List Past) : Type 0 where
  pub batches : AreAllBatches (input_of_past files turns asked ps) (batches_of ps)
  pub ran : SessionsRan (input_of_past files turns asked ps) (batches_of ps) 1 (readings_of ps)
      (outcomes_of (parts_of ps))
  pub run : IsRun (scripts_of (parts_of ps)) (input_of_past files turns asked ps) (history_of ps)
      (outcomes_of (parts_of ps)) (page_of_past asked ps) (files_of (parts_of ps))
  pub costs : (k : ℕ) (p : Past) → slice_get ps k ≡ Some p
      → made_in p.parts ≤ cost_of_batch leaf (input_of_past files turns asked ps) (history_of ps)
      (outcomes_of (parts_of ps)) k

-- finished batches, from the first session on, make one lawful run, in whatever order the turns came in each
abbrev pub WholeRuns : Type 0
WholeRuns =
    (leaf : ℕ) (files : List Loaded) (turns : ℕ) (asked : Bool) (ps : List Past)
    → ArePast leaf files turns 1 no_names (λ name. 0) ps → IsWhole leaf files turns asked ps
