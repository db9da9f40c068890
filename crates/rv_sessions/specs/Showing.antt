-- What a value is turned into: a reply in one of four forms, or the bytes of a file.
use Rattle.std.specs.Prelude.{◌≡◌, ◌⊎◌, ℕ, List, Option, Some, None, Result, Ok, Err}
use Rattle.lang_model.specs.declared.faults.TypeFault.{TypeFault}
use Rattle.lang_model.specs.Rewriting.{Step}
use Rattle.rel_model.specs.Relation.{Relation}
use Rattle.rel_model.specs.Worker.{Worker}
use Rattle.lang_model.specs.declared.syntax.Expr.{Expr}
use Rattle.lang_model.specs.Eval.{Evaluated}
use Rattle.run_model.specs.declared.outcome.Outcome.{Outcome}
use Rattle.run_model.specs.declared.outcome.Outcome.TheVariants.{Ill as ILL, NoMemory as NO_MEMORY}
use Rattle.run_model.specs.Due.{Due, Late, Value, Refused as REFUSED, printed, listed, saved, due_of_value}
use Rattle.run_model.specs.Files.{k2}
use Rattle.run_model.specs.Page.{listing, count_text, type_text, explanation}
use Rattle.run_model.specs.Texts.{matrix}
use Rattle.rv_sessions.specs.declared.form.Form.{Form}
use Rattle.rv_sessions.specs.declared.form.Form.TheVariants.{Matrix, Listing, Count, Typed, File}
use Rattle.rv_sessions.specs.Valuing.{IsRefusal, Stopped}

-- what is due of a value that is wanted in a form
abbrev pub wanted_in : Form → Relation → Due
wanted_in Matrix = printed
wanted_in Listing = listed
wanted_in Count = Value
wanted_in Typed = Value
wanted_in File = saved

-- its bytes in that form
abbrev pub bytes_in : Form → Relation → List ℕ
bytes_in Matrix = matrix
bytes_in Listing = listing
bytes_in Count = count_text
bytes_in Typed = type_text
bytes_in File = k2

-- a value is shown; or it has too many cells, pairs or bits to be shown; or memory ran out
abbrev pub IsShown : Form → Relation → Result (List ℕ) Outcome → Type 0
IsShown form r (Ok bytes) = (wanted_in form r ≡ Value r) × (bytes ≡ bytes_in form r)
IsShown form r (Err o) = ((wanted_in form r ≡ REFUSED Late o) × IsRefusal o) ⊎ (o ≡ NO_MEMORY)

-- an expression is shown: its value is due, and these are its bytes; or it is refused
abbrev pub CameShown : Form → Worker → Worker → Expr → ℕ → Evaluated → Result (List ℕ) Outcome → Type 0
CameShown form old new expr turns e (Ok bytes) =
    (r : Relation) × (due_of_value (wanted_in form) turns e ≡ Value r) × (bytes ≡ bytes_in form r)
CameShown form old new expr turns e (Err o) = Stopped old new expr turns e (wanted_in form) o

-- the steps are shown if there is no early fault; otherwise the fault is reported, or memory ran out
abbrev pub CameExplained : Option TypeFault → List Step → Result (List ℕ) Outcome → Type 0
CameExplained early steps (Ok bytes) = (early ≡ None) × (bytes ≡ explanation steps)
CameExplained early steps (Err o) = ((fault : TypeFault) × (early ≡ Some fault) × (o ≡ ILL fault)) ⊎ (o ≡ NO_MEMORY)
