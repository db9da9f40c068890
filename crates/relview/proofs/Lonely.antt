-- One script that ran alone.
-- 1. Words that name one script give one reading, and a lawful run of one reading has one list of outcomes.
-- 2. A lawful run of one script for which all sufficed is the one that the script decides (`one_script_has_one_run` of
--    `run_model`), and two such have one page and the same files (`one_script_has_one_page`).
-- 3. Inputs that read the same text are one for a run (`every_reading_runs` of `rv_reading`), so a run of the second is
--    one of the first.
use Rattle.std.proofs.Common.{◌≡◌, ◌∙◌, ℕ, List, [], ◌∷◌, map, Option, refl, sym, ap, subst}
use Rattle.std.specs.List.{AllByRecursion}
use Rattle.run_model.specs.declared.event.Event.{Event}
use Rattle.run_model.specs.declared.outcome.Outcome.{Outcome}
use Rattle.run_model.specs.Inputs.{Input, Reading, AreReadings}
use Rattle.run_model.specs.Legal.{IsLegal, LegalSessions}
use Rattle.run_model.specs.Page.{page, saves}
use Rattle.run_model.specs.Solo.{Suffices}
use Rattle.run_model.specs.Events.{entry_of}
use Rattle.run_model.proofs.Solo.{solo_is_legal}
use Rattle.run_model.proofs.Rootless.{one_script_one_page}
use Rattle.rv_io.specs.Outside.{Files, Told}
use Rattle.rv_io.specs.Writing.{Grows}
use Rattle.rv_words.specs.Uses.{Word}
use Rattle.rv_words.specs.Said.{Said}
use Rattle.rv_ends.specs.Given.{IsInput, AreScripts, AreTaken}
use Rattle.rv_ends.specs.Writing.{Sunk, HasPut, IsTold}
use Rattle.rv_spell.proofs.OneScript.{one_script_law}
use Rattle.rv_reading.specs.Inputs.{ReadAlike, AreOneInput}
use Rattle.rv_reading.proofs.Alike.{texts_are_one_input}
use Rattle.relview.specs.declared.report.Report.{Report}
use Rattle.relview.specs.Top.{HasRun, outcomes_of, status_of}
use Rattle.relview.specs.Alone.{AllSuffice, NameOne, AloneIsSolo, AloneIsOneRun, AloneIsOneAnswer}
use Rattle.relview.proofs.Completing.{all_come_due, complete_runs_law}
use Rattle.relview.proofs.Readings.{turned_round, told_alike, same_files_read_alike}

-- ---- one of each
one_taken : (files : Option Files) (word : Word) (scripts : List (List ℕ)) → AreTaken files (word ∷ []) scripts
    → (bytes : List ℕ) × (scripts ≡ bytes ∷ [])
one_taken files word [] h = absurd h
one_taken files word (bytes ∷ []) h = (bytes, refl)
one_taken files word (bytes ∷ other ∷ rest) h = absurd h.1

one_read : (bytes : List ℕ) (readings : List Reading) → AreReadings (bytes ∷ []) readings
    → (reading : Reading) × (readings ≡ reading ∷ [])
one_read bytes [] h = absurd h
one_read bytes (reading ∷ []) h = (reading, refl)
one_read bytes (reading ∷ other ∷ rest) h = absurd h.1

one_list : (input : Input) (history : List Event) (reading : Reading) (outcomes : List (List Outcome))
    → LegalSessions input history 1 (reading ∷ []) outcomes → (os : List Outcome) × (outcomes ≡ os ∷ [])
one_list input history reading [] h = absurd h
one_list input history reading (os ∷ []) h = (os, refl)
one_list input history reading (os ∷ other ∷ rest) h = absurd h.1

one_reading : (said : Said) (files : Option Files) (input : Input) → NameOne said → IsInput said files input
    → (reading : Reading) × (input.readings ≡ reading ∷ [])
one_reading said files input one given =
    let named = subst (λ ws. AreScripts said.number files ws given.scripts) one.alone given.given in
    let taken = subst (λ m. AreScripts m files (one.script ∷ []) given.scripts) one.named named in
    let first = one_taken files one.script given.scripts taken in
    one_read first.0 input.readings (subst (λ ss. AreReadings ss input.readings) first.1 given.read)

-- ---- a run of one reading
-- its one list of outcomes
pub record RunsOne (input : Input) (history : List Event) (outcomes : List (List Outcome)) (reading : Reading) : Type 0 where
  pub one : List Outcome
  pub is : outcomes ≡ one ∷ []
  pub suffice : AllByRecursion Suffices one
  pub legal : IsLegal input history (one ∷ [])

runs_one : (input : Input) (history : List Event) (outcomes : List (List Outcome)) (reading : Reading)
    → input.readings ≡ reading ∷ [] → IsLegal input history outcomes → AllSuffice outcomes
    → RunsOne input history outcomes reading
runs_one input history outcomes reading read legal all =
    let sessions = subst (λ rs. LegalSessions input history 1 rs outcomes) read legal.sessions in
    let first = one_list input history reading outcomes sessions in record {
      one = first.0;
      is = first.1;
      suffice = (subst AllSuffice first.1 all).0;
      legal = subst (IsLegal input history) first.1 legal;
    }

-- one script gives one reading, and a lawful run of that for which all sufficed is the one that the script decides
pub alone_is_solo : AloneIsSolo
alone_is_solo words a b o n report ran one all =
    let read = one_reading ran.said a.files ran.input one ran.given in
    let runs = runs_one ran.input report.history.items (outcomes_of report) read.0 read.1 ran.legal all in
    let decided = (solo_is_legal ran.input read.0 report.history.items runs.one read.1 runs.suffice).0 runs.legal in record {
      reading = read.0;
      read = read.1;
      outcomes = runs.is ∙ ap (λ os. os ∷ []) decided.0;
      history = decided.1;
    }

-- ---- two runs
-- two runs of inputs that read the same text
record AreOne (a b : Input) (h k : List Event) (os ps : List (List Outcome)) : Type 0 where
  outcomes : os ≡ ps
  history : map entry_of h ≡ map entry_of k
  page : page b k ps ≡ page a h os
  saves : saves b k ps ≡ saves a h os

-- the second is a run of the first input too, and both are the run that this one decides
are_one : (a b : Input) (h k : List Event) (os ps : List (List Outcome)) (reading : Reading) → a.readings ≡ reading ∷ []
    → AreOneInput b a → IsLegal a h os → IsLegal b k ps → AllSuffice os → AllSuffice ps → AreOne a b h k os ps
are_one a b h k os ps reading read same legal lawful all every =
    let runs = runs_one a h os reading read legal all in
    let others = runs_one a k ps reading read (same.legal k ps lawful) every in
    let decided = (solo_is_legal a reading h runs.one read runs.suffice).0 runs.legal in
    let redecided = (solo_is_legal a reading k others.one read others.suffice).0 others.legal in
    let alike = one_script_one_page a reading h k runs.one others.one read runs.suffice others.suffice runs.legal others.legal in
    record {
      outcomes = runs.is ∙ (ap (λ one. one ∷ []) alike.0 ∙ sym others.is);
      history = decided.1 ∙ sym redecided.1;
      page = same.page k ps ∙ (ap (page a k) others.is ∙ (sym alike.1 ∙ ap (page a h) (sym runs.is)));
      saves = same.saves k ps ∙ (ap (saves a k) others.is ∙ (sym alike.2 ∙ ap (saves a h) (sym runs.is)));
    }

runs_are_one : (words others : List Word) (a b c d : Told) (o n p q : Sunk) (first second : Report)
    (ran : HasRun words a b o n first) (again : HasRun others c d p q second) → NameOne ran.said
    → ReadAlike ran.given.scripts ran.input again.input → AllSuffice (outcomes_of first) → AllSuffice (outcomes_of second)
    → AreOne ran.input again.input first.history.items second.history.items (outcomes_of first) (outcomes_of second)
runs_are_one words others a b c d o n p q first second ran again one alike all every =
    let read = one_reading ran.said a.files ran.input one ran.given in
    let same = texts_are_one_input one_script_law ran.given.scripts again.input ran.input
    (turned_round ran.given.scripts ran.input again.input alike) in
    are_one ran.input again.input first.history.items second.history.items (outcomes_of first) (outcomes_of second) read.0
    read.1 same ran.legal again.legal all every

-- both runs have the same outcomes and history, and so one page and the same files: what was told of the second is told
-- of those of the first
pub alone_is_one_run : AloneIsOneRun
alone_is_one_run words others a b c d o n p q first second ran again one alike all every =
    let r = runs_are_one words others a b c d o n p q first second ran again one alike all every in
    let os = outcomes_of second in record {
      outcomes = r.outcomes;
      history = r.history;
      page = page ran.input first.history.items (outcomes_of first);
      files = saves ran.input first.history.items (outcomes_of first);
      first_told = ran.told;
      second_told = subst (λ xs. IsTold c d p q (page ran.input first.history.items (outcomes_of first)) (saves ran.input first.history.items (outcomes_of first)) (status_of xs) second.status) (sym r.outcomes)
          (told_alike c d p q _ _ _ _ (status_of os) second.status r.page r.saves again.told);
    }

-- both runs are complete, so that each wrote its whole page and put all its files; and these are the same, as both are
-- one run
pub alone_is_one_answer : AloneIsOneAnswer
alone_is_one_answer words others a b c d o n p q first second files ran again one told retold ask lacked none =
    let alike = same_files_read_alike words others a b c d o n p q first second files ran again told retold ask in
    let r = runs_are_one words others a b c d o n p q first second ran again one alike
    (all_come_due words a b o n first ran lacked) (all_come_due others c d p q second again none) in
    let x = complete_runs_law words a b o n first ran lacked in
    let y = complete_runs_law others c d p q second again none in record {
      outcomes = r.outcomes;
      history = r.history;
      status = x.status ∙ (ap status_of r.outcomes ∙ sym y.status);
      page = page ran.input first.history.items (outcomes_of first);
      first_written = x.written;
      second_written = subst (Grows p.written q.written) r.page y.written;
      files = saves ran.input first.history.items (outcomes_of first);
      first_put = x.put;
      second_put = subst (HasPut c.files d.files) r.saves y.put;
    }
