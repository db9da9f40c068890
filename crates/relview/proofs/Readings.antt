-- Runs with other readings of their texts.
-- 1. Words and told files give one list of scripts and one list of relation files, since a told file has one text.
-- 2. Inputs that read the same texts are one for a run (`every_reading_runs` of `rv_reading`).
use Rattle.std.proofs.Common.{◌≡◌, ◌∙◌, ℕ, cond, List, [], ◌∷◌, length, Option, Some, None, refl, sym, ap, subst}
use Rattle.std.specs.Prelude.{is_some}
use Rattle.std.proofs.lemmas.List.{length-map}
use Rattle.run_model.specs.Inputs.{Input, RelationFile, AreReadings}
use Rattle.run_model.specs.Page.{SavedFile}
use Rattle.rv_io.specs.Outside.{Files, Told}
use Rattle.rv_words.specs.Uses.{Word}
use Rattle.rv_words.specs.Said.{Said, said_by}
use Rattle.rv_ends.specs.Given.{IsInput, AreScripts, AreTaken, names_of, bytes_of}
use Rattle.rv_ends.specs.Writing.{Sunk, IsTold}
use Rattle.rv_spell.proofs.OneScript.{one_script_law}
use Rattle.rv_reading.specs.Inputs.{reading_tree, ReadAlike}
use Rattle.rv_reading.proofs.Alike.{texts_have_one_reading, texts_are_one_input}
use Rattle.relview.specs.declared.report.Report.{Report}
use Rattle.relview.specs.Top.{HasRun, outcomes_of, status_of}
use Rattle.relview.specs.Readings.{IsRunOf, AskAlike, EveryReadingHasTheRun, EveryInputHasTheRun, SameWordsAskAlike, SameFilesReadAlike}

one_some : {X : Type 0} {x y : X} → Some x ≡ Some y → x ≡ y
one_some e = cc

-- ---- what words and told files give
taken_once : (files : Files) (words : List Word) (xs ys : List (List ℕ)) → AreTaken (Some files) words xs
    → AreTaken (Some files) words ys → xs ≡ ys
taken_once files [] [] [] h k = refl
taken_once files (word ∷ words) (x ∷ xs) (y ∷ ys) h k = λ i.
    one_some (sym h.0.0 ∙ k.0.0) i ∷ taken_once files words xs ys h.1 k.1 i
taken_once files [] (x ∷ xs) ys h k = absurd h
taken_once files [] [] (y ∷ ys) h k = absurd k
taken_once files (word ∷ words) [] ys h k = absurd h
taken_once files (word ∷ words) (x ∷ xs) [] h k = absurd k

scripts_once : (number : Option ℕ) (files : Files) (words : List Word) (xs ys : List (List ℕ))
    → AreScripts number (Some files) words xs → AreScripts number (Some files) words ys → xs ≡ ys
scripts_once None files words xs ys h k = taken_once files words xs ys h k
scripts_once (Some number) files words xs ys h k = h ∙ sym k

-- relation files are told by their names and bytes
abbrev zipped : List Word → List (List ℕ) → List RelationFile
zipped [] texts = []
zipped (name ∷ names) [] = []
zipped (name ∷ names) (bytes ∷ texts) = record { name = name; bytes = bytes } ∷ zipped names texts

zipped-files : (files : List RelationFile) → zipped (names_of files) (bytes_of files) ≡ files
zipped-files [] = refl
zipped-files (file ∷ files) = ap (λ fs. file ∷ fs) (zipped-files files)

files_once : (xs ys : List RelationFile) → names_of xs ≡ names_of ys → bytes_of xs ≡ bytes_of ys → xs ≡ ys
files_once xs ys h k = sym (zipped-files xs) ∙ ((λ i. zipped (h i) (k i)) ∙ zipped-files ys)

-- as many readings of one list of texts
as_many : (scripts : List (List ℕ)) (a b : Input) → AreReadings scripts a.readings → AreReadings scripts b.readings
    → length a.readings ≡ length b.readings
as_many scripts a b h k =
    sym (length-map a.readings reading_tree)
    ∙ (ap length (texts_have_one_reading one_script_law scripts a.readings b.readings h k) ∙ length-map b.readings reading_tree)

-- runs that are asked for alike, where files are told
asked_alike : (said other : Said) (f g : Option Files) (files : Files) (a b : Input) → f ≡ Some files → g ≡ Some files
    → AskAlike said other → (x : IsInput said f a) → IsInput other g b → ReadAlike x.scripts a b
asked_alike said other f g files a b e u ask x y =
    let own : AreScripts said.number (Some files) said.scripts x.scripts
    = subst (λ h. AreScripts said.number h said.scripts x.scripts) e x.given in
    let numbered : AreScripts said.number g other.scripts y.scripts
    = subst (λ m. AreScripts m g other.scripts y.scripts) (sym ask.number) y.given in
    let worded : AreScripts said.number g said.scripts y.scripts
    = subst (λ ws. AreScripts said.number g ws y.scripts) (sym ask.scripts) numbered in
    let others : AreScripts said.number (Some files) said.scripts y.scripts
    = subst (λ h. AreScripts said.number h said.scripts y.scripts) u worded in
    let scripts : x.scripts ≡ y.scripts = scripts_once said.number files said.scripts x.scripts y.scripts own others in
    let second : AreReadings x.scripts b.readings = subst (λ ss. AreReadings ss b.readings) (sym scripts) y.read in
    let count = as_many x.scripts a b x.read second in
    let loaded : AreTaken (Some files) said.relations (bytes_of a.files)
    = subst (λ h. AreTaken h said.relations (bytes_of a.files)) e x.loaded in
    let reloaded : AreTaken (Some files) said.relations (bytes_of b.files)
    = subst (λ ws. AreTaken (Some files) ws (bytes_of b.files)) (sym ask.relations)
    (subst (λ h. AreTaken h other.relations (bytes_of b.files)) u y.loaded) in record {
      first = x.read;
      second = second;
      files = files_once a.files b.files (x.named ∙ (ask.relations ∙ sym y.named))
          (taken_once files said.relations (bytes_of a.files) (bytes_of b.files) loaded reloaded);
      turns = x.turns ∙ (ask.turns ∙ sym y.turns);
      history = x.history ∙ (ask.history ∙ sym y.history);
      ends = x.batches ∙ ((λ i. cond (is_some (ask.number i)) (count i ∷ []) (ask.ends i)) ∙ sym y.batches);
    }

pub same_files_read_alike : SameFilesReadAlike
same_files_read_alike words others a b c d o n p q first second files ran again told retold ask =
    asked_alike ran.said again.said a.files c.files files ran.input again.input told retold ask ran.given again.given

one_said : (words : List Word) (said other : Said) → said_by words ≡ Some said → said_by words ≡ Some other → said ≡ other
one_said words said other h k = one_some (sym h ∙ k)

asks_as : (said other : Said) → said ≡ other → AskAlike said other
asks_as said other e = record {
  number = ap (λ (s : Said). s.number) e;
  scripts = ap (λ (s : Said). s.scripts) e;
  relations = ap (λ (s : Said). s.relations) e;
  ends = ap (λ (s : Said). s.ends) e;
  turns = ap (λ (s : Said). s.turns) e;
  history = ap (λ (s : Said). s.history) e;
}

pub same_words_ask_alike : SameWordsAskAlike
same_words_ask_alike words said other h k = asks_as said other (one_said words said other h k)

-- ---- runs
-- the other way round
pub turned_round : (scripts : List (List ℕ)) (a b : Input) → ReadAlike scripts a b → ReadAlike scripts b a
turned_round scripts a b alike = record {
  first = alike.second;
  second = alike.first;
  files = sym alike.files;
  turns = sym alike.turns;
  history = sym alike.history;
  ends = sym alike.ends;
}

-- the same page and the same files were told
pub told_alike : (a b : Told) (o n : Sunk) (text other : List ℕ) (files others : List SavedFile) (whole status : ℕ)
    → text ≡ other → files ≡ others → IsTold a b o n text files whole status → IsTold a b o n other others whole status
told_alike a b o n text other files others whole status e u told =
    subst (λ t. IsTold a b o n t others whole status) e (subst (λ fs. IsTold a b o n text fs whole status) u told)

pub every_reading_has_the_run : EveryReadingHasTheRun
every_reading_has_the_run words a b o n report run input alike =
    let one = texts_are_one_input one_script_law run.given.scripts run.input input alike in
    let history = report.history.items in
    let outcomes = outcomes_of report in record {
      legal = one.legal history outcomes run.legal;
      holds = one.holds run.said.nodes history outcomes report.old.items report.words.items run.holds;
      told = told_alike a b o n _ _ _ _ (status_of outcomes) report.status (one.page history outcomes)
          (one.saves history outcomes) run.told;
    }

pub every_input_has_the_run : EveryInputHasTheRun
every_input_has_the_run words a b o n report files run said input told taken given =
    let same = one_said words run.said said run.taken taken in
    let alike = asked_alike run.said said a.files a.files files run.input input told told (asks_as run.said said same)
    run.given given in
    subst (λ (s : Said). IsRunOf s.nodes input a b o n report) same
    (every_reading_has_the_run words a b o n report run input alike)
