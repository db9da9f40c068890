-- Runs that did not begin: each line with its cause.
use Rattle.std.proofs.Common.{◌≡◌, ◌⊎◌, ◌∙◌, ℕ, List, Some, refl, sym, subst, inl, inr}
use Rattle.rv_words.specs.Uses.{Word}
use Rattle.rv_words.specs.Said.{Said, said_by}
use Rattle.rv_io.specs.Outside.{Told, Leaves}
use Rattle.relview.specs.declared.report.Report.{Report}
use Rattle.rv_ends.specs.declared.given.Halt.{Halt}
use Rattle.rv_ends.specs.Given.{file_words, IsHalted}
use Rattle.rv_ends.specs.Lines.{IsFirst, IsSaid}
use Rattle.rv_ends.specs.Writing.{Sunk, IsWritten, IsOut, HasNoPut}
use Rattle.relview.specs.Top.{HasStopped, IsEmpty}

-- a line was said
pub by_line : (words : List Word) (so sn : Told) (o n : Sunk) (report : Report) (line : List ℕ) (whole status : ℕ) → IsEmpty report → report.status ≡ status → HasNoPut so sn
    → IsSaid words so sn line whole → IsWritten o n line whole status → HasStopped words so sn o n report
by_line words so sn o n report line whole status empty e none said written = record {
  empty = empty;
  no_put = none;
  answer = inl (record { line = line; whole = whole; said = said; written = subst (λ s. IsWritten o n line whole s) (sym e) written });
}

-- nothing was said, for want of memory
pub by_want : (words : List Word) (so sn : Told) (o n : Sunk) (report : Report) → IsEmpty report → report.status ≡ 5 → HasNoPut so sn → n.written ≡ o.written → HasStopped words so sn o n report
by_want words so sn o n report empty e none silent = record { empty = empty; no_put = none; answer = inr (record { out = e; silent = silent }) }

-- a line was said, or there was no memory for it
pub by_either : (words : List Word) (so sn : Told) (o n : Sunk) (report : Report) (line : List ℕ) (whole status : ℕ) → IsEmpty report → report.status ≡ status → HasNoPut so sn
    → IsSaid words so sn line whole → IsWritten o n line whole status ⊎ IsOut o n status → HasStopped words so sn o n report
by_either words so sn o n report line whole status empty e none said (inl written) = by_line words so sn o n report line whole status empty e none said written
by_either words so sn o n report line whole status empty e none said (inr out) = by_want words so sn o n report empty (e ∙ out.out) none out.silent

-- reading puts no file
pub reading_puts_none : (so sn : Told) → Leaves so sn → HasNoPut so sn
reading_puts_none so sn l = record { files = l.files; put_faults = l.put_faults }

pub stands : (so : Told) → HasNoPut so so
stands so = record { files = refl; put_faults = refl }

-- the FILE word that was not read
pub first_of : (words : List Word) (said : Said) (so sn : Told) (halt : Halt) → said_by words ≡ Some said → IsHalted so sn (file_words words) halt → IsFirst words so halt.name.now
first_of words said so sn halt taken h = record { said = said; taken = taken; before = h.before; after = h.after; place = h.place; within = h.taken }
