-- What a transcript contains, and what a session is given, in the terms of runs.
use Rattle.std.specs.Prelude.{◌≡◌, ◌≢◌, ℕ, false, List, [], ◌∷◌, ◌++◌, map, Option, Some, None, Result, Ok, Err}
use Rattle.std.specs.List.{flat_map}
use Rattle.run_model.specs.declared.outcome.Outcome.TheVariants.{TooLong, NoMemory as NO_MEMORY}
use Rattle.k2_file.specs.declared.refused.WriteRefused.{WriteRefused}
use Rattle.k2_file.specs.declared.refused.WriteRefused.TheVariants.{TooLong as TOO_LONG, NoMemory as WRITE_NO_MEMORY}
use Rattle.run_model.specs.Inputs.{Input}
use Rattle.run_model.specs.Page.{SavedFile}
use Rattle.run_model.specs.Filed.{file_of, saved_of}
use Rattle.run_model.specs.Texts.{prefix, refusal_text}
use Rattle.run_model.specs.declared.files.Loaded.{Loaded}
use Rattle.run_model.specs.declared.files.Save.{Save}
use Rattle.rv_sessions.specs.declared.transcript.Reply.{Reply}
use Rattle.rv_sessions.specs.declared.told.Told.{Told as TOLD}
use Rattle.rel_model.specs.declared.NoMemory.{NoMemory as NO_MEMORY_ERROR}
use Rattle.run_model.specs.declared.outcome.Outcome.{Outcome}
use Rattle.rv_sessions.specs.declared.transcript.Reply.TheVariants.{Nothing, Told, NoMemory}

-- what a session is given besides its script: the relation files, and how many turns the loops of an expression may
-- take
unfoldable pub input_of : List Loaded → ℕ → Input
input_of files turns = record { readings = []; files = map file_of files; turns = turns; history = false; ends = [] }

-- the bytes of a reply
abbrev pub text_of : Reply → List ℕ
text_of Nothing = []
text_of (Told session command body) = prefix session command ++ body.items
text_of (NoMemory session command) = prefix session command ++ refusal_text NO_MEMORY

-- the bytes of replies, one after another
abbrev pub texts_of : List Reply → List ℕ
texts_of = flat_map text_of

-- the file that an item saves
abbrev pub saved_by : Option Save → List SavedFile
saved_by None = []
saved_by (Some s) = saved_of s ∷ []

-- a refusal is reported with its numbers; or memory ran out, which is not a refusal
abbrev pub TellsRefusal : ℕ → ℕ → Outcome → Result TOLD NO_MEMORY_ERROR → Type 0
TellsRefusal s c outcome (Ok told) =
    (told.outcome ≡ outcome) × (text_of told.reply ≡ prefix s c ++ refusal_text outcome) × (told.save ≡ None)
    × (outcome ≢ NO_MEMORY)
TellsRefusal s c outcome (Err lack) = Unit {0}

-- a file of all relations that is not written is reported with its number of bits; or memory ran out
abbrev pub TellsNotWritten : ℕ → ℕ → WriteRefused → Result TOLD NO_MEMORY_ERROR → Type 0
TellsNotWritten s c (TOO_LONG bits) result = TellsRefusal s c (TooLong bits) result
TellsNotWritten s c WRITE_NO_MEMORY result = (lack : NO_MEMORY_ERROR) × (result ≡ Err lack)
