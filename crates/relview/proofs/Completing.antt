-- A run in which nothing was wanting is complete.
--
-- 1. An outcome is the due one, or a full table, or out of memory, or tells of a block that a name was changed before
--    its commit. A full table means full words of its batch, and these have a vacant one; memory did not run out.
-- 2. The steps of a session have its outcomes, so what holds of all outcomes holds of those of the steps.
-- 3. Of the three ways in which a page and its files are told the other two have a count that rose.
use Rattle.std.proofs.Common.{◌≡◌, ◌≢◌, ◌<◌, ◌≤◌, ◌+◌, ℕ, List, [], ◌∷◌, length, inl, inr, refl, subst, arith}
use Rattle.std.specs.List.{AllByRecursion}
use Rattle.lang_model.specs.declared.syntax.Item.{Item}
use Rattle.lang_model.specs.declared.syntax.Script.{Script}
use Rattle.rel_model.specs.Words.{IsFull}
use Rattle.run_model.specs.declared.event.Event.{Event}
use Rattle.run_model.specs.declared.outcome.Outcome.{Outcome}
use Rattle.run_model.specs.declared.outcome.Outcome.TheVariants.{Nodes, NoMemory}
use Rattle.run_model.specs.Inputs.{Input, Reading, NoScript, Flawed, Runs, Rise, batch_of}
use Rattle.run_model.specs.Due.{Workspace, Due}
use Rattle.run_model.specs.Outcomes.{IsOutcome}
use Rattle.run_model.specs.Steps.{Step, Snapshots, steps, steps_from, due_at, snaps_behind}
use Rattle.run_model.specs.Names.{no_names}
use Rattle.run_model.specs.States.{state_for}
use Rattle.run_model.specs.Legal.{LegalSession, LegalSessions, steps_in}
use Rattle.run_model.specs.Page.{page, saves, SavedFile}
use Rattle.run_model.specs.Stored.{FillsWhereFull, FillsInBatch}
use Rattle.rv_io.specs.Outside.{Told}
use Rattle.rv_ends.specs.Writing.{Sunk, IsTold, Told_whole, Unwritten, Unput, HasPut}
use Rattle.rv_io.specs.Writing.{Grows}
use Rattle.rv_words.specs.Uses.{Word}
use Rattle.relview.specs.declared.report.Report.{Report}
use Rattle.relview.specs.Top.{HasRun, outcomes_of, status_of}
use Rattle.relview.specs.Tables.{nodes_of_batch}
use Rattle.relview.proofs.Batched.{batch_within, ends_rise, outcomes_many}
use Rattle.relview.proofs.Tabled.{table_at, batch_count}
use Rattle.relview.specs.Complete.{HadMemory, IsDue, CameDue, AllCameDue, NoneFailed, NothingLacked, CompleteRuns}

-- ---- one outcome
-- neither a full table nor out of memory
abbrev pub Comes : Outcome → Type 0
Comes outcome = (outcome ≢ Nodes) × (outcome ≢ NoMemory)

-- it is the due one, or a change is told
is_due : (item : Item) (d : Due) (outcome : Outcome) → Comes outcome → IsOutcome item d outcome → IsDue item d outcome
is_due item d outcome comes (inl e) = inl e
is_due item d outcome comes (inr (inl n)) = absurd (comes.0 n.0)
is_due item d outcome comes (inr (inr (inl m))) = absurd (comes.1 m.0)
is_due item d outcome comes (inr (inr (inr c))) = inr c

-- what comes of each outcome of a session, where there is a vacant word and memory
each_comes : (words : List ℕ) → (IsFull words → ⊥) → (outcomes : List Outcome)
    → AllByRecursion (λ o. o ≢ NoMemory) outcomes → FillsWhereFull words outcomes → AllByRecursion Comes outcomes
each_comes words vacant [] memory fills = tt
each_comes words vacant (o ∷ os) memory fills =
    (((λ e. vacant (fills.0 e)), memory.0), each_comes words vacant os memory.1 fills.1)

-- ---- one session
-- the steps of items have outcomes of theirs
step_comes : (state_of : ℕ → Workspace) (c : ℕ) (snaps : Snapshots) (items : List Item) (outcomes : List Outcome)
    → AllByRecursion Comes outcomes → AllByRecursion (λ step. Comes step.outcome) (steps_from state_of c snaps items outcomes)
step_comes state_of c snaps [] outcomes h = tt
step_comes state_of c snaps (item ∷ items) [] h = tt
step_comes state_of c snaps (item ∷ items) (o ∷ os) h =
    (h.0, step_comes state_of (c + 1) (snaps_behind item o (state_of c) snaps) items os h.1)

all_due : (input : Input) (script : Script) (ss : List Step) → AllByRecursion (λ step. Comes step.outcome) ss
    → AllByRecursion (λ step. IsOutcome step.item (due_at input script step) step.outcome) ss
    → AllByRecursion (λ step. IsDue step.item (due_at input script step) step.outcome) ss
all_due input script [] h k = tt
all_due input script (s ∷ ss) h k = (is_due s.item (due_at input script s) s.outcome h.0 k.0, all_due input script ss h.1 k.1)

steps_come : (state_of : ℕ → Workspace) (script : Script) (outcomes : List Outcome) → AllByRecursion Comes outcomes
    → AllByRecursion (λ step. Comes step.outcome) (steps state_of script outcomes)
unfolding steps
steps_come state_of script outcomes h = step_comes state_of 1 no_names script.items.items outcomes h

session_due : (input : Input) (history : List Event) (s : ℕ) (reading : Reading) (outcomes : List Outcome)
    → AllByRecursion Comes outcomes → LegalSession input history s reading outcomes → CameDue input history s reading outcomes
session_due input history s (NoScript fault) outcomes h legal = legal.0
session_due input history s (Flawed fault) outcomes h legal = legal.0
session_due input history s (Runs script) outcomes h legal =
    all_due input script (steps_in input history s script outcomes) (steps_come (state_for input history s) script outcomes h)
    legal.outcomes_due

-- ---- all sessions
sessions_due : (input : Input) (history : List Event) (s : ℕ) (readings : List Reading) (all : List (List Outcome))
    → AllByRecursion (AllByRecursion Comes) all → LegalSessions input history s readings all
    → AllCameDue input history s readings all
sessions_due input history s [] [] h legal = tt
sessions_due input history s (r ∷ rs) (os ∷ all) h legal =
    (session_due input history s r os h.0 legal.0, sessions_due input history (s + 1) rs all h.1 legal.1)
sessions_due input history s [] (os ∷ all) h legal = absurd legal
sessions_due input history s (r ∷ rs) [] h legal = absurd legal

-- each session is of a batch, whose words have a vacant place
all_come : (ends : List ℕ) (count : ℕ) (rise : Rise 0 count ends) (some : 1 ≤ length ends) (nodes : ℕ → List ℕ) → ((b : ℕ) → b < length ends → IsFull (nodes b) → ⊥)
    → (s : ℕ) (all : List (List Outcome)) → s + length all ≤ count + 1 → HadMemory all
    → ((b : ℕ) → b < length ends → FillsInBatch ends b (nodes b) s all) → AllByRecursion (AllByRecursion Comes) all
all_come ends count rise some nodes vacant s [] l memory fills = tt
all_come ends count rise some nodes vacant s (os ∷ all) l memory fills =
    let b = batch_of ends s in
    let within = batch_within 0 count ends s rise (omega (arith, l)) some in
    (each_comes (nodes b) (vacant b within) os memory.0 ((fills b within).0 refl), all_come ends count rise some nodes vacant (s + 1) all (omega (arith, l)) memory.1 (λ c w. (fills c w).1))

-- ---- what was told
record ToldWhole (so sn : Told) (o n : Sunk) (text : List ℕ) (files : List SavedFile) (whole status : ℕ) : Type 0 where
  written : Grows o.written n.written text
  put : HasPut so.files sn.files files
  same : status ≡ whole

told_whole : (so sn : Told) (o n : Sunk) (text : List ℕ) (files : List SavedFile) (whole status : ℕ) → NoneFailed so sn o n
    → IsTold so sn o n text files whole status → ToldWhole so sn o n text files whole status
told_whole so sn o n text files whole status none (Told_whole e written put) = record { written = written; put = put; same = e }
told_whole so sn o n text files whole status none (Unwritten sent e part rose no_put) = absurd (none.writes rose)
told_whole so sn o n text files whole status none (Unput e written lost) = absurd (none.puts lost.rose)

-- the words of each batch are full where it found them full
all_filled : (words : List Word) (so sn : Told) (o n : Sunk) (report : Report) (run : HasRun words so sn o n report) (b : ℕ) → b < length run.input.ends
    → FillsInBatch run.input.ends b (nodes_of_batch run.said.nodes report b) 1 (outcomes_of report)
all_filled words so sn o n report run b within =
    let bits = run.said.nodes in
    let count = batch_count bits run.input report.history.items (outcomes_of report) 0 0 0 report.old.items report.words.items run.holds in
    let there = table_at bits run.input report.history.items (outcomes_of report) 0 0 0 report.old.items report.words.items run.holds b (omega (arith, within, count)) in
    subst (λ k. FillsInBatch run.input.ends k (nodes_of_batch bits report b) 1 (outcomes_of report)) (whole b) there.full
  where
    whole : (n : ℕ) → 0 + n ≡ n
    whole n = omega arith

-- so no outcome is a full table or out of memory
pub all_come_due : (words : List Word) (so sn : Told) (o n : Sunk) (report : Report) (run : HasRun words so sn o n report)
    → NothingLacked words so sn o n report run → AllByRecursion (AllByRecursion Comes) (outcomes_of report)
all_come_due words so sn o n report run lacked =
    let outcomes = outcomes_of report in
    let rise = ends_rise words run.said so.files run.input run.taken run.given in
    let many = outcomes_many run.input report.history.items 1 run.input.readings outcomes run.legal.sessions in
    let count = batch_count run.said.nodes run.input report.history.items outcomes 0 0 0 report.old.items report.words.items run.holds in
    all_come run.input.ends (length run.input.readings) rise (omega (arith, count)) (nodes_of_batch run.said.nodes report) lacked.vacant 1 outcomes (omega (arith, many)) lacked.memory
    (all_filled words so sn o n report run)

-- each outcome came as it is due, session by session; and the page, the files and the status were told whole, since no
-- count of faults rose
pub complete_runs_law : CompleteRuns
complete_runs_law words so sn o n report run lacked =
    let outcomes = outcomes_of report in
    let comes = all_come_due words so sn o n report run lacked in
    let told : ToldWhole so sn o n (page run.input report.history.items outcomes)
    (saves run.input report.history.items outcomes) (status_of outcomes) report.status =
    told_whole so sn o n _ _ _ _ lacked.outside run.told in
    record {
      due = sessions_due run.input report.history.items 1 run.input.readings outcomes comes run.legal.sessions;
      written = told.written;
      put = told.put;
      status = told.same;
    }
