-- A run begins where nothing stands in its way.
use Rattle.std.proofs.Common.{◌≡◌, ◌⊎◌, ◌≤◌, ◌++◌, ◌∙◌, ℕ, Bool, true, false, List, [], ◌∷◌, Option, Some, None, length, refl, sym, ap, subst, inl, inr, arith}
use Rattle.std.specs.Bool.{MatchBool}
use Rattle.std.specs.List.{AllByRecursion}
use Rattle.rv_io.specs.Outside.{Files, Told, IsOver}
use Rattle.rv_words.specs.Uses.{Word}
use Rattle.relview.specs.declared.report.Report.{Report}
use Rattle.rv_ends.specs.Given.{limit_of}
use Rattle.rv_ends.specs.Lines.{IsSaid, Usage, Unread, TooLong}
use Rattle.rv_ends.specs.Writing.{Sunk, IsOut}
use Rattle.relview.specs.Top.{HasRun, HasStopped, Says}
use Rattle.relview.specs.Complete.{NothingStopped, RunsBegin}

-- what holds of all elements holds of one among them
among : (P : List ℕ → Type 0) (xs : List (List ℕ)) (y : List ℕ) (zs : List (List ℕ)) → AllByRecursion P (xs ++ y ∷ zs) → P y
among P [] y zs h = h.0
among P (x ∷ xs) y zs h = among P xs y zs h.1

-- a file that is told within its limit is not over it
not_over : (files : Option Files) (fs : Files) (name : Word) (limit : ℕ) → files ≡ Some fs
    → ((bytes : List ℕ) → fs name ≡ Some bytes → length bytes ≤ limit) → IsOver files name limit → ⊥
not_over None fs name limit e within over = let z : None ≡ Some fs = e in cc
not_over (Some gs) fs name limit e within over =
    let same : gs ≡ fs = cc in
    let l : length over.0 ≤ limit = within over.0 (ap (λ (f : Files). f name) (sym same) ∙ over.1) in omega (arith, l, over.2)

-- no line has a cause
no_line : (words : List Word) (so sn : Told) (o n : Sunk) (line : List ℕ) (whole : ℕ) → NothingStopped words so sn o n
    → IsSaid words so sn line whole → ⊥
no_line words so sn o n line whole can (Usage e) = let z : None ≡ Some can.said = sym e ∙ can.taken in cc
no_line words so sn o n line whole can (Unread name first rose) = can.reads rose
no_line words so sn o n line whole can (TooLong name first over) =
    not_over so.files can.files name (limit_of name) can.told
    (among (λ word. (bytes : List ℕ) → can.files word ≡ Some bytes → length bytes ≤ limit_of word) first.before name first.after
    (subst (AllByRecursion (λ word. (bytes : List ℕ) → can.files word ≡ Some bytes → length bytes ≤ limit_of word)) first.place can.within))
    over

-- a run that stopped is out of memory
stopped : (words : List Word) (so sn : Told) (o n : Sunk) (report : Report) → NothingStopped words so sn o n
    → HasStopped words so sn o n report → report.status ≡ 5
stopped words so sn o n report can h = by_answer h.answer
  where
    by_answer : Says words so sn o n report.status ⊎ IsOut o n report.status → report.status ≡ 5
    by_answer (inl says) = absurd (no_line words so sn o n says.line says.whole can says.said)
    by_answer (inr out) = out.out

either : (b : Bool) (P Q R : Type 0) → MatchBool b P Q → (Q → R) → (b ≡ true) ⊎ R
either true P Q R m f = inl refl
either false P Q R m f = inr (f m)

pub runs_begin_law : RunsBegin
runs_begin_law words so sn o n report answers can =
    either report.ran (HasRun words so sn o n report) (HasStopped words so sn o n report) (report.status ≡ 5) answers
    (stopped words so sn o n report can)
