-- What the program does with the words that the system gives it, and the status with which it ends.
use Rattle.std.specs.Prelude.{◌≡◌, List, [], drop, String, Result, Ok, Err}
use Rattle.std.specs.Vec.Iter.{into_iter_items}
use Rattle.std.specs.IoError.{error_kind}
use Rattle.std.specs.Process.{exit_status}
use Rattle.std.specs.declared.alloc.Global.{Global}
use Rattle.std.specs.declared.vec.IntoIter.{IntoIter}
use Rattle.std.specs.declared.io.Error.{Error}
use Rattle.std.specs.declared.io.ErrorKind.TheVariants.{OutOfMemory}
use Rattle.std.specs.declared.process.ExitCode.{ExitCode}
use Rattle.rv_words.specs.Uses.{Word}
use Rattle.rv_words.specs.Shown.{texts}
use Rattle.rv_io.specs.Outside.{Told}
use Rattle.relview.specs.declared.report.Report.{Report}
use Rattle.rv_ends.specs.Writing.{Sunk}
use Rattle.relview.specs.Top.{Answers, GaveUp}

-- what the system gives for the command line: the program's own name and the words after it, or an error
abbrev pub Arguments : Type 0
Arguments = Result (IntoIter (String Global) Global) Error

-- the words after the program's own name; if the system's are not text, no words, which are not accepted
abbrev pub words_in : Arguments → List Word
words_in (Ok args) = texts (drop 1 (into_iter_items args))
words_in (Err error) = []

-- there was no memory for the words
abbrev pub HadNoRoom : Arguments → Type 0
HadNoRoom (Ok args) = ⊥
HadNoRoom (Err error) = error_kind error ≡ OutOfMemory

-- The program ended with the status of a report that answers the words that the system gave. If there was no memory for
-- these words, nothing was read, put or written.
pub record EndsWith (given : Arguments) (shelf_old shelf_new : Told) (old new : Sunk) (code : ExitCode) : Type 0 where
  pub report : Report
  pub status : exit_status code ≡ report.status
  pub answers : Answers (words_in given) shelf_old shelf_new old new report
  pub memory : HadNoRoom given → GaveUp shelf_old shelf_new old new report
