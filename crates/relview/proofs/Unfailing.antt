-- Where no count of faults can rise, a run begins and is complete.
use Rattle.std.proofs.Common.{◌≡◌, ℕ, Bool, true, false, List, [], ◌∷◌, Some, ◌&&◌, sym, subst, arith}
use Rattle.std.specs.Prelude.{All, IsTrue}
use Rattle.std.specs.List.{list_all}
use Rattle.std.specs.String.{string_bytes}
use Rattle.std.specs.declared.string.String.{String}
use Rattle.std.specs.declared.alloc.Global.{Global}
use Rattle.std.proofs.lemmas.List.Sums.{AllPass-from_list_all}
use Rattle.rv_io.specs.Outside.{Told, Rose}
use Rattle.rv_words.specs.Uses.{Word}
use Rattle.rv_words.specs.Said.{said_by}
use Rattle.rv_words.specs.Shown.{texts, shown}
use Rattle.rv_words.specs.declared.options.Options.{Options}
use Rattle.rv_ends.specs.Given.{file_words}
use Rattle.rv_ends.specs.Writing.{Sunk}
use Rattle.rv_ends.proofs.Wording.{words_told}
use Rattle.relview.specs.Top.{Answers}
use Rattle.relview.specs.Surely.{IsSure}
use Rattle.relview.specs.declared.report.Report.{Report}
use Rattle.relview.proofs.Completing.{complete_runs_law}
use Rattle.relview.proofs.Beginning.{runs_begin_law}

-- a count that is nothing did not rise
no_rise : (before now : ℕ) → now ≡ 0 → Rose before now → ⊥
no_rise before now e r = omega (arith, e, r)

-- where the counts of faults are nothing in the end, none of them rose: so a run begins, and is complete if memory and
-- nodes sufficed
pub is_sure : (words : List Word) (so sn : Told) (o n : Sunk) (report : Report) → sn.faults ≡ 0 → sn.put_faults ≡ 0
    → n.faults ≡ 0 → Answers words so sn o n report → IsSure words so sn o n report
is_sure words so sn o n report faults put_faults writes answers = record {
  answers = answers;
  begins = λ said taken files told within. runs_begin_law words so sn o n report answers (record {
    said = said;
    taken = taken;
    reads = no_rise so.faults sn.faults faults;
    writes = no_rise o.faults n.faults writes;
    files = files;
    told = told;
    within = within;
  });
  complete = λ run memory vacant. complete_runs_law words so sn o n report run (record {
    memory = memory;
    vacant = vacant;
    outside = record { writes = no_rise o.faults n.faults writes; puts = no_rise so.put_faults sn.put_faults put_faults };
  });
}

-- a test and more tests
both : (b first second : Bool) → (first ≡ true → second ≡ true) → (b && first) ≡ true → (b && second) ≡ true
both true first second f e = f e
both false first second f e = e

-- what passes for all names passes for their texts
texts_pass : (test : List ℕ → Bool) (names : List (String Global)) → list_all (λ name. test (string_bytes name)) names ≡ true → list_all test (texts names) ≡ true
texts_pass test [] e = e
texts_pass test (name ∷ names) e = both (test (string_bytes name)) _ _ (texts_pass test names) e

-- so for the FILE words, where these are the names
pub files_pass : (test : List ℕ → Bool) (words : List Word) (options : Options) → said_by words ≡ Some (shown options) → list_all (λ name. test (string_bytes name)) options.files.items ≡ true → All (λ w. IsTrue (test w)) (file_words words)
files_pass test words options taken e = subst (λ ws. All (λ w. IsTrue (test w)) ws) (sym (words_told words (shown options) taken)) (AllPass-from_list_all test (texts options.files.items) (texts_pass test options.files.items e))
