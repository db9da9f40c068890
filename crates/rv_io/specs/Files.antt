-- What a shelf over the files of a runtime has left to read.
use Rattle.std.specs.Prelude.{ℕ, List, [], Option, Some}
use Rattle.std.specs.Option.{option_map_or}
use Rattle.std.specs.declared.io.buffered.BufReader.{BufReader}
use Rattle.std.specs.Io.Buffered.{reader_remaining}

-- the bytes left in the open file, if the runtime's files report them; without an open file, none
abbrev pub left_in : {T A : Type 0} → (T → Option (List ℕ)) → Option (BufReader T A) → Option (List ℕ)
left_in remaining file = option_map_or (reader_remaining remaining) file (Some [])
