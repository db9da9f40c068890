-- From what was given to a run, and what it came to, to the answer to the words.
use Rattle.std.proofs.Common.{◌≡◌, ◌∙◌, ℕ, Bool, true, false, List, [], ◌∷◌, length, map, Some, refl, sym, ap, subst, inr, arith}
use Rattle.std.specs.Bool.{MatchBool}
use Rattle.run_model.specs.Page.{SavedFile}
use Rattle.rv_words.specs.Uses.{Word}
use Rattle.rv_words.specs.Said.{Said, said_by}
use Rattle.run_model.specs.declared.files.Loaded.{Loaded}
use Rattle.run_model.specs.Filed.{file_of}
use Rattle.run_model.specs.Inputs.{Reading, AreReadings}
use Rattle.rv_io.specs.Outside.{Told, Rose}
use Rattle.relview.specs.declared.report.Report.{Report}
use Rattle.rv_ends.specs.Given.{AreScripts, AreTaken, names_of, bytes_of, ends_of}
use Rattle.rv_ends.specs.Writing.{Sunk, IsTold, Told_whole, Unwritten, Unput, HasPut, HasPutBut, HasNoPut}
use Rattle.relview.specs.Finished.{input_with}
use Rattle.relview.specs.Top.{HasRun, HasStopped, RanGiven, GaveUp, Answers, AnswersGiven}

-- what was told of a shelf that stood as another did is told of that one
told_from : (so mid sn : Told) (o n : Sunk) (page : List ℕ) (saves : List SavedFile) (whole status : ℕ) → HasNoPut so mid → IsTold mid sn o n page saves whole status → IsTold so sn o n page saves whole status
told_from so mid sn o n page saves whole status k (Told_whole s a put) = Told_whole s a (subst (λ f. HasPut f sn.files saves) k.files put)
told_from so mid sn o n page saves whole status k (Unwritten sent s h r none) = Unwritten sent s h r (record { files = none.files ∙ k.files; put_faults = none.put_faults ∙ k.put_faults })
told_from so mid sn o n page saves whole status k (Unput s a lost) = Unput s a (record {
  made = lost.made;
  lost = lost.lost;
  rest = lost.rest;
  place = lost.place;
  put = subst (λ f. HasPutBut f sn.files lost.made lost.lost.name) k.files lost.put;
  rose = subst (λ f. Rose f sn.put_faults) k.put_faults lost.rose;
})

-- what the words give a run
pub record GivesRun (words : List Word) (said : Said) (so mid : Told) (scripts : List (List ℕ)) (files : List Loaded) (ends : List ℕ) : Type 0 where
  pub taken : said_by words ≡ Some said
  pub scripts_are : AreScripts said.number so.files said.scripts scripts
  pub named : names_of (map file_of files) ≡ said.relations
  pub loaded : AreTaken so.files said.relations (bytes_of (map file_of files))
  pub no_put : HasNoPut so mid
  pub batches : ends ≡ ends_of said (length scripts)

-- there are as many readings as scripts
as_many : (scripts : List (List ℕ)) (readings : List Reading) → AreReadings scripts readings → length scripts ≡ length readings
as_many [] [] h = refl
as_many [] (r ∷ rs) h = absurd h
as_many (b ∷ bs) [] h = absurd h
as_many (b ∷ bs) (r ∷ rs) h = let rest = as_many bs rs h.1 in omega (arith, rest)

-- what ran over scripts and files ran over what the words give, since these are the scripts, files and options that
-- they name
ran : (words : List Word) (said : Said) (so mid sn : Told) (o n : Sunk) (scripts : List (List ℕ)) (files : List Loaded) (ends : List ℕ) (report : Report) → GivesRun words said so mid scripts files ends
    → RanGiven said.nodes scripts files said.turns said.history ends mid sn o n report → HasRun words so sn o n report
ran words said so mid sn o n scripts files ends report g r = record {
  said = said;
  taken = g.taken;
  input = input_with r.readings files said.turns said.history ends;
  given = record {
    scripts = scripts;
    given = g.scripts_are;
    read = r.read;
    batches = g.batches ∙ ap (ends_of said) (as_many scripts r.readings r.read);
    named = g.named;
    loaded = g.loaded;
    turns = refl;
    history = refl;
  };
  legal = r.legal;
  holds = r.holds;
  told = told_from so mid sn o n _ _ _ _ g.no_put r.told;
}

stopped : (words : List Word) (so mid sn : Told) (o n : Sunk) (report : Report) → HasNoPut so mid → GaveUp mid sn o n report → HasStopped words so sn o n report
stopped words so mid sn o n report k h = record {
  empty = h.empty;
  no_put = record { files = h.no_put.files ∙ k.files; put_faults = h.no_put.put_faults ∙ k.put_faults };
  answer = inr h.answer;
}

-- the answer to the words
pub answers : (words : List Word) (said : Said) (so mid sn : Told) (o n : Sunk) (scripts : List (List ℕ)) (files : List Loaded) (ends : List ℕ) (report : Report) → GivesRun words said so mid scripts files ends
    → AnswersGiven said.nodes scripts files said.turns said.history ends mid sn o n report → Answers words so sn o n report
answers words said so mid sn o n scripts files ends report g h = by_ran report.ran h
  where
    by_ran : (b : Bool) → MatchBool b (RanGiven said.nodes scripts files said.turns said.history ends mid sn o n report) (GaveUp mid sn o n report)
        → MatchBool b (HasRun words so sn o n report) (HasStopped words so sn o n report)
    by_ran true r = ran words said so mid sn o n scripts files ends report g r
    by_ran false r = stopped words so mid sn o n report g.no_put r

-- nothing ran
pub answers_stopped : (words : List Word) (so sn : Told) (o n : Sunk) (report : Report) → report.ran ≡ false → HasStopped words so sn o n report → Answers words so sn o n report
answers_stopped words so sn o n report r h = subst (λ b. MatchBool b (HasRun words so sn o n report) (HasStopped words so sn o n report)) (sym r) h
