-- What each session promises of its batch: its own promise, told of the worker that holds all and of any input that asks
-- the same.
-- 1. A session is known by its script, its worker, its pass and its transcript; of a closed log and of the worker into which
--    all were joined it knows that its own events are those of its number, and that all stands there that stood in its own.
-- 2. A script that did not run made nothing, and has no event.
-- 3. One that ran has the same steps in the other worker, and is asked the same by the other input.
use Rattle.std.proofs.Common.{◌≡◌, ◌≤◌, ◌+◌, ◌++◌, ℕ, Bool, false, List, [], ◌∷◌, sym, ap, subst, ◌∙◌, map, arith}
use Rattle.rel_model.specs.Worker.{Worker, set_of}
use Rattle.lang_model.specs.declared.syntax.Script.{Script}
use Rattle.run_model.specs.declared.event.Event.{Event}
use Rattle.run_model.specs.declared.outcome.Outcome.{Outcome}
use Rattle.run_model.specs.declared.outcome.Outcome.TheVariants.{Parse, Ill}
use Rattle.run_model.specs.Inputs.{Input, Reading, NoScript, Flawed, Runs, AreReadings}
use Rattle.run_model.specs.States.{events_of}
use Rattle.run_model.specs.Page.{replies, refusals, saves_of}
use Rattle.run_model.specs.Cost.{cost_of_steps}
use Rattle.run_model.specs.Carried.{First}
use Rattle.run_model.specs.Turns.{BeginsLog, puts_of}
use Rattle.run_model.specs.Sessions.{RunsTurns, steps_taken}
use Rattle.turn_book.specs.Views.{View}
use Rattle.run_model.specs.declared.files.Loaded.{Loaded}
use Rattle.rv_workspace.specs.Starts.{first_of}
use Rattle.rv_sessions.specs.declared.transcript.Transcript.{Transcript}
use Rattle.run_model.specs.Filed.{file_of, saved_all}
use Rattle.rv_sessions.specs.Telling.{input_of}
use Rattle.rv_sessions.specs.Sessions.{RanScript, Refused, DidReading}
use Rattle.rv_runs.specs.Past.{Part, Asks, ToldScript, ToldFault, Told, AllTold}
use Rattle.rv_runs.specs.Parts.{part_of}
use Rattle.rv_runs.specs.Works.{HasRun, IsAbsorbed}
use Rattle.rv_runs.proofs.Asking.{input_of_both, replies_alike, saves_alike, all_costs_alike, turns_alike}
use Rattle.rv_runs.proofs.Alike.{steps_alike, runs_alike}

-- a session that has ended: its script, its worker, its pass and its transcript
pub record Session : Type 0 where
  pub bytes : List ℕ
  pub own : Worker
  pub pass : View
  pub told : Transcript

-- it as a part of its batch
abbrev pub part_of_session : Session → Part
part_of_session one = part_of one.bytes one.told one.own.made

-- It ran over a book that began so, its worker was joined into one that holds all, and its own events are those of its
-- number in the closed log.
pub record Account (leaf : ℕ) (given : Input) (first : First) (all : Worker) (log : List Event) (s : ℕ)
    (one : Session) : Type 0 where
  pub has_run : HasRun leaf given s one.bytes one.own one.pass one.told
  pub began : first_of one.pass.start ≡ first
  pub absorbed : IsAbsorbed one.own all
  pub begins : BeginsLog one.pass.seen log
  pub events : events_of s log ≡ one.pass.mine

-- so did those from number s on
abbrev pub Accounts : ℕ → Input → First → Worker → List Event → ℕ → List Session → Type 0
Accounts leaf given first all log s [] = Unit {0}
Accounts leaf given first all log s (one ∷ ones) =
    Account leaf given first all log s one × Accounts leaf given first all log (s + 1) ones

-- ---- one session
module _ (leaf : ℕ) (files : List Loaded) (turns : ℕ) (first : First) (all : Worker) (log : List Event) where
  told_fault : (s : ℕ) (outcome : Outcome) (one : Session) → (a : Account leaf (input_of files turns) first all log s one) →
      Refused s outcome a.has_run.first one.own a.has_run.before one.pass one.told → ToldFault log s outcome (part_of_session one)
  told_fault s outcome one a r = record {
    only = r.outcomes;
    no_events = a.events ∙ (r.nothing.mine ∙ a.has_run.no_mine);
    text = r.text ∙ ap (refusals s) (sym r.outcomes);
    saved = ap saved_all r.saved;
    cost = (let m = r.nothing.made in let z = a.has_run.no_made in let c : one.own.made ≤ 0 = omega arith in c);
  }

  module _ (readings : List Reading) (asked : Bool) (ends : List ℕ) where
    abbrev input : Input
    input = input_of_both (map file_of files) turns readings asked ends

    abbrev own_input : Input
    own_input = input_of_both (map file_of files) turns [] false []

    told_script : (s : ℕ) (script : Script) (one : Session) → (a : Account leaf (input_of files turns) first all log s one) →
        RanScript leaf own_input s script a.has_run.first one.own a.has_run.before one.pass one.told → ToldScript leaf input first (set_of all) log s script (part_of_session one)
    told_script s script one a r =
        let h = a.has_run in
        let began = first_of h.before.start in
        let os = one.told.outcomes.items in
        let same = steps_alike one.own all a.absorbed.holds began r.ts script os r.stand in
        let ran = subst (λ old. RunsTurns own_input began (set_of one.own) s script os r.ts old one.pass.seen) h.no_seen r.runs in
        let lifted = runs_alike one.own all a.absorbed.holds began own_input s script os r.ts [] one.pass.seen r.stand ran in
        let those = steps_taken began.names (set_of all) r.ts script os in
        let told : ToldScript leaf input began (set_of all) log s script (part_of_session one) = record {
          ts = r.ts;
          seen = one.pass.seen;
          runs = turns_alike (map file_of files) turns [] readings false asked [] ends script began (set_of all) s os r.ts [] one.pass.seen lifted;
          begins = a.begins;
          events = a.events ∙ (r.mine ∙ ap (λ l. l ++ puts_of r.ts) h.no_mine);
          text = r.text ∙ (ap (replies own_input script s) same ∙ replies_alike (map file_of files) turns [] readings false asked [] ends script s those);
          saved = r.saved ∙ (ap (saves_of own_input script) same ∙ saves_alike (map file_of files) turns [] readings false asked [] ends script those);
          cost = (let m = r.room in let z = h.no_made in
              let e : cost_of_steps leaf own_input script (steps_taken began.names (set_of one.own) r.ts script os) ≡ cost_of_steps leaf input script those =
              ap (cost_of_steps leaf own_input script) same ∙ all_costs_alike (map file_of files) turns [] readings false asked [] ends script leaf those in
              let c : one.own.made ≤ cost_of_steps leaf input script those = omega arith in c);
        } in
        subst (λ f. ToldScript leaf input f (set_of all) log s script (part_of_session one)) (ap first_of (sym h.same_start) ∙ a.began) told

    told_reading : (s : ℕ) (reading : Reading) (one : Session) → (a : Account leaf (input_of files turns) first all log s one) →
        DidReading leaf (input_of files turns) s reading a.has_run.first one.own a.has_run.before one.pass one.told → Told leaf input first (set_of all) log s reading (part_of_session one)
    unfolding input_of
    told_reading s (NoScript fault) one a d = told_fault s (Parse fault) one a d
    told_reading s (Flawed fault) one a d = told_fault s (Ill fault) one a d
    told_reading s (Runs script) one a d = told_script s script one a d

-- ---- all sessions
-- what the scripts are read as
module _ (leaf : ℕ) (given : Input) (first : First) (all : Worker) (log : List Event) where
  pub readings_of : (s : ℕ) (ones : List Session) → Accounts leaf given first all log s ones → List Reading
  readings_of s [] h = []
  readings_of s (one ∷ ones) h = h.0.has_run.ran.reading ∷ readings_of (s + 1) ones h.1

  pub are_readings : (s : ℕ) (ones : List Session) → (h : Accounts leaf given first all log s ones) → AreReadings (map (λ one. one.bytes) ones) (readings_of s ones h)
  unfolding readings_of
  are_readings s [] h = tt
  are_readings s (one ∷ ones) h = (h.0.has_run.ran.reads, are_readings (s + 1) ones h.1)

module _ (leaf : ℕ) (files : List Loaded) (turns : ℕ) (first : First) (all : Worker) (log : List Event) where
  all_told : (readings : List Reading) (asked : Bool) (ends : List ℕ) (s : ℕ) (ones : List Session) → (h : Accounts leaf (input_of files turns) first all log s ones) →
      AllTold leaf (input_of_both (map file_of files) turns readings asked ends) first (set_of all) log s (readings_of leaf (input_of files turns) first all log s ones h) (map part_of_session ones)
  unfolding readings_of
  all_told readings asked ends s [] h = tt
  all_told readings asked ends s (one ∷ ones) h = (
    told_reading leaf files turns first all log readings asked ends s h.0.has_run.ran.reading one h.0 h.0.has_run.ran.did,
    all_told readings asked ends (s + 1) ones h.1,
  )

  -- each told what its script is read as, by any input that has these files and turns
  pub promises : (s : ℕ) (ones : List Session) → (h : Accounts leaf (input_of files turns) first all log s ones) →
      (input : Input) → Asks files turns input → AllTold leaf input first (set_of all) log s (readings_of leaf (input_of files turns) first all log s ones h) (map part_of_session ones)
  promises s ones h input asks =
      let readings = readings_of leaf (input_of files turns) first all log s ones h in
      subst (λ n. AllTold leaf (input_of_both input.files n input.readings input.history input.ends) first (set_of all) log s readings (map part_of_session ones)) (sym asks.1)
      (subst (λ fs. AllTold leaf (input_of_both fs turns input.readings input.history input.ends) first (set_of all) log s readings (map part_of_session ones)) (sym asks.0)
      (all_told input.readings input.history input.ends s ones h))
