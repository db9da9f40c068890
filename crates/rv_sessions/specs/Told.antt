-- Answers with bytes, as lists.
use Rattle.std.specs.Prelude.{ℕ, List, Result, Ok, Err}
use Rattle.std.specs.declared.vec.Vec.{Vec}
use Rattle.std.specs.declared.alloc.Global.{Global}
use Rattle.run_model.specs.declared.outcome.Outcome.{Outcome}
use Rattle.run_model.specs.declared.outcome.Outcome.TheVariants.{TooLarge, TooLong, NoMemory as NO_MEMORY}
use Rattle.rv_print.specs.declared.refused.PrintRefused.{PrintRefused}
use Rattle.rv_print.specs.declared.refused.PrintRefused.TheVariants.{TooLarge as TOO_LARGE, NoMemory as PRINT_NO_MEMORY}
use Rattle.k2_file.specs.declared.refused.WriteRefused.{WriteRefused}
use Rattle.k2_file.specs.declared.refused.WriteRefused.TheVariants.{TooLong as TOO_LONG, NoMemory as WRITE_NO_MEMORY}

-- the outcome for a refusal of the printer
abbrev pub print_told : PrintRefused → Outcome
print_told (TOO_LARGE wanted unit) = TooLarge wanted unit
print_told PRINT_NO_MEMORY = NO_MEMORY

-- the outcome for a refusal of the writer
abbrev pub write_told : WriteRefused → Outcome
write_told (TOO_LONG bits) = TooLong bits
write_told WRITE_NO_MEMORY = NO_MEMORY

-- bytes as a list
abbrev pub bytes_of : Result (Vec ℕ Global) Outcome → Result (List ℕ) Outcome
bytes_of (Ok bytes) = Ok bytes.items
bytes_of (Err outcome) = Err outcome
