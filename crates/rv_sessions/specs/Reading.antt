-- The result of reading a relation file, and what ran out if it was not read.
use Rattle.std.specs.Prelude.{◌≡◌, ℕ, List, Option, Some, None, Result, Ok, Err}
use Rattle.std.specs.declared.alloc.Global.{Global}
use Rattle.std.specs.declared.vec.Vec.{Vec}
use Rattle.rel_model.specs.declared.Rel.{Rel}
use Rattle.rel_model.specs.Relation.{Relation}
use Rattle.rel_model.specs.Worker.{Worker, Gives, Rose}
use Rattle.rel_model.specs.declared.Lack.{Lack}
use Rattle.rel_model.specs.declared.Lack.TheVariants.{Full, NoMemory}
use Rattle.run_model.specs.declared.outcome.Outcome.{Outcome}
use Rattle.run_model.specs.declared.outcome.Outcome.TheVariants.{Nodes, BadFile as BAD_FILE, NoMemory as NO_MEMORY}
use Rattle.run_model.specs.declared.outcome.BadFile.{BadFile}
use Rattle.run_model.specs.SharedFiles.{shared_fault}
use Rattle.run_model.specs.Due.{Early, Due, Value, Values, Refused, due_of_either, due_of_all}
use Rattle.run_model.specs.Outcomes.{IsNotEarly}
use Rattle.rv_sessions.specs.Blocking.{gifts_in, GiftsStand}
use Rattle.run_model.specs.declared.outcome.BadFile.TheVariants.{Quad, Names as BAD_NAMES, Root, Order, Missing}
use Rattle.run_model.specs.declared.outcome.BadFile.TheVariants.{
  Short,
  Magic,
  Sizes,
  Height,
  Lengths,
  ZeroGroup,
  Outside,
  Padding,
  Rest,
  Full as FILE_FULL,
  NoMemory as FILE_NO_MEMORY,
}

-- ---- what ran out
-- nodes or memory ran out, and the bytes failed no test
abbrev pub lack_in : BadFile → Option Lack
lack_in Short = None
lack_in Magic = None
lack_in Sizes = None
lack_in Height = None
lack_in Lengths = None
lack_in (ZeroGroup at) = None
lack_in (Outside at) = None
lack_in Padding = None
lack_in Rest = None
lack_in (Quad at) = None
lack_in (BAD_NAMES at) = None
lack_in (Root at) = None
lack_in (Order at) = None
lack_in Missing = None
lack_in FILE_FULL = Some Full
lack_in FILE_NO_MEMORY = Some NoMemory

-- the outcome for a file of this name that was not read
abbrev pub outcome_of_file : List ℕ → BadFile → Option Lack → Outcome
outcome_of_file name kind (Some Full) = Nodes
outcome_of_file name kind (Some NoMemory) = NO_MEMORY
outcome_of_file name kind None = BAD_FILE name kind

-- ---- the result for a file
-- A file, given what is due of it by its name, was not read: for a test that it failed, which is due; or the table was
-- full, and no early refusal is due; or memory ran out.
abbrev pub WasRefused : (List ℕ → Due) → Worker → Worker → BadFile → Option Lack → Type 0
WasRefused due old new kind None = (file : List ℕ) → due file ≡ Refused Early (BAD_FILE file kind)
WasRefused due old new kind (Some Full) = ((file : List ℕ) → IsNotEarly (due file)) × Rose old.misses new.misses
WasRefused due old new kind (Some NoMemory) = Unit {0}

-- either the relation that is due of a file was made, or the file was not read
abbrev pub ReadOne : (List ℕ → Due) → Worker → Worker → Result Rel BadFile → Type 0
ReadOne due old new (Ok rel) =
    (r : Relation) × Gives new r.rows r.cols r rel × ((file : List ℕ) → due file ≡ Value r)
ReadOne due old new (Err kind) = WasRefused due old new kind (lack_in kind)

-- the same for all relations of a file, each with its name
abbrev pub ReadAll : (List ℕ → Due) → Worker → Worker → Result (Vec (List ℕ × Rel) Global) BadFile → Type 0
ReadAll due old new (Ok list) =
    GiftsStand new list.items × ((file : List ℕ) → due file ≡ Values (gifts_in new list.items))
ReadAll due old new (Err kind) = WasRefused due old new kind (lack_in kind)

-- what is due of the bytes of a file, if all its relations are wanted
abbrev pub due_of_all_in : List ℕ → List ℕ → Due
due_of_all_in bytes file = due_of_all file bytes (shared_fault bytes)

-- what is due of the bytes of a file, if the relation of a name is wanted
abbrev pub due_of_one_in : List ℕ → List ℕ → List ℕ → Due
due_of_one_in name bytes file = due_of_either name file bytes
