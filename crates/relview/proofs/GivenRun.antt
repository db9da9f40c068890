-- A run over a table whose page and files were told answers what was given.
use Rattle.std.proofs.Common.{◌≡◌, ℕ, Bool, true, false, List, map, refl, sym, subst}
use Rattle.std.specs.Prelude.{All}
use Rattle.std.specs.Bool.{MatchBool}
use Rattle.std.specs.Str.{IsUtf8}
use Rattle.run_model.specs.Page.{page}
use Rattle.run_model.specs.declared.files.Loaded.{Loaded}
use Rattle.run_model.specs.Filed.{saved_all}
use Rattle.rv_io.specs.Outside.{Told}
use Rattle.relview.specs.declared.report.Report.{Report}
use Rattle.relview.specs.declared.batches.Finished.{Finished}
use Rattle.relview.specs.Finished.{input_with, IsFinished}
use Rattle.rv_ends.specs.Writing.{Sunk, IsTold}
use Rattle.relview.specs.Top.{RanGiven, GaveUp, AnswersGiven, IsEmpty, status_of}
use Rattle.rv_ends.proofs.SaveNames.{saves_named}

-- the names of its files are text
pub finished_named : (bits : ℕ) (scripts : List (List ℕ)) (files : List Loaded) (turns : ℕ) (asked : Bool) (ends : List ℕ) (finished : Finished) → IsFinished bits scripts files turns asked ends finished
    → All (λ f. IsUtf8 f.name) finished.saves.items
finished_named bits scripts files turns asked ends finished fin =
    saves_named (input_with fin.readings files turns asked ends) finished.history.items (map (λ v. v.items) finished.outcomes.items) scripts finished.saves.items fin.run.read fin.run.files_put

-- a finished run was read and is lawful; the report has its history, outcomes and words, so what was told of its page
-- and files is told of those of the report
pub given_ran : (bits : ℕ) (scripts : List (List ℕ)) (files : List Loaded) (turns : ℕ) (asked : Bool) (ends : List ℕ) (so sn : Told) (o n : Sunk) (report : Report) (finished : Finished)
    → IsFinished bits scripts files turns asked ends finished → report.ran ≡ true → report.history.items ≡ finished.history.items → report.outcomes.items ≡ finished.outcomes.items
    → report.old.items ≡ finished.old.items → report.words.items ≡ finished.words.items
    → IsTold so sn o n finished.page.items (saved_all finished.saves.items) (status_of (map (λ v. v.items) finished.outcomes.items)) report.status
    → AnswersGiven bits scripts files turns asked ends so sn o n report
given_ran bits scripts files turns asked ends so sn o n report finished fin r eh eo ed ew told =
    let input = input_with fin.readings files turns asked ends in
    let outcomes = map (λ v. v.items) finished.outcomes.items in
    let paged = subst (λ p. IsTold so sn o n p (saved_all finished.saves.items) (status_of outcomes) report.status) fin.run.page_shown told in
    let saved = subst (λ s. IsTold so sn o n (page input finished.history.items outcomes) s (status_of outcomes) report.status) fin.run.files_put paged in
    subst (λ b. MatchBool b (RanGiven bits scripts files turns asked ends so sn o n report) (GaveUp so sn o n report)) (sym r) (record {
      readings = fin.readings;
      read = fin.run.read;
      legal = rw (eh, eo) fin.run.legal;
      holds = rw (eh, eo, ed, ew) fin.holds;
      told = rw (eh, eo) saved;
    })

pub given_none : (bits : ℕ) (scripts : List (List ℕ)) (files : List Loaded) (turns : ℕ) (asked : Bool) (ends : List ℕ) (so : Told) (o n : Sunk) (report : Report) → report.ran ≡ false → IsEmpty report → report.status ≡ 5
    → n.written ≡ o.written → AnswersGiven bits scripts files turns asked ends so so o n report
given_none bits scripts files turns asked ends so o n report r empty e silent =
    subst (λ b. MatchBool b (RanGiven bits scripts files turns asked ends so so o n report) (GaveUp so so o n report)) (sym r) (record {
      empty = empty;
      no_put = record { files = refl; put_faults = refl };
      answer = record { out = e; silent = silent };
    })
