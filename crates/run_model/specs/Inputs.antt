-- What a run is given.
use Rattle.std.specs.Prelude.{
  ◌≡◌,
  ◌+◌,
  ◌-◌,
  ◌<◌,
  nat_lt,
  ℕ,
  Bool,
  cond,
  List,
  [],
  ◌∷◌,
  Option,
  Some,
  None,
  slice_get,
  option_and_then,
}
use Rattle.lang_model.specs.declared.syntax.Item.{Item}
use Rattle.lang_model.specs.declared.syntax.Script.{Script}
use Rattle.lang_model.specs.declared.faults.ParseFault.{ParseFault}
use Rattle.lang_model.specs.declared.faults.TypeFault.{TypeFault}
use Rattle.lang_model.specs.Tokens.{same_text}
use Rattle.lang_model.specs.Spelling.{SpelledBy}
use Rattle.lang_model.specs.Stop.{stop}
use Rattle.lang_model.specs.Checking.{flaw}

-- the result of reading the bytes of a script
pub data Reading : Type 0 where
  -- they are not a script, and this is the first fault
  NoScript : ParseFault → Reading
  -- they are a script with this flaw, so nothing of it runs
  Flawed : TypeFault → Reading
  -- they are a script that runs
  Runs : Script → Reading

-- a relation file named on the command line
pub record RelationFile : Type 0 where
  pub name : List ℕ
  pub bytes : List ℕ

-- what a run is given: its scripts as read, its relation files, and the options that it depends on
pub record Input : Type 0 where
  pub readings : List Reading
  pub files : List RelationFile
  -- how many turns the loops of an expression may take
  pub turns : ℕ
  -- whether the page ends with the history
  pub history : Bool
  -- for each batch, how many scripts there are up to its end
  pub ends : List ℕ

-- numbers increase strictly from an earlier one, and the last of them is this count
abbrev pub Rise : ℕ → ℕ → List ℕ → Type 0
Rise earlier count [] = earlier ≡ count
Rise earlier count (end ∷ ends) = (earlier < end) × Rise end count ends

-- this is the result of reading the bytes
abbrev pub IsReading : List ℕ → Reading → Type 0
IsReading bytes (NoScript fault) = ((script : Script) → SpelledBy bytes script → ⊥) × (stop bytes ≡ Some fault)
IsReading bytes (Flawed fault) = (script : Script) × SpelledBy bytes script × (flaw script ≡ Some fault)
IsReading bytes (Runs script) = SpelledBy bytes script × (flaw script ≡ None)

-- these are the results of reading the bytes of all scripts
abbrev pub AreReadings : List (List ℕ) → List Reading → Type 0
AreReadings [] [] = Unit {0}
AreReadings (bytes ∷ scripts) (reading ∷ readings) = IsReading bytes reading × AreReadings scripts readings
AreReadings [] (reading ∷ readings) = ⊥
AreReadings (bytes ∷ scripts) [] = ⊥

-- the script that runs, if there is one
abbrev pub script_of : Reading → Option Script
script_of (NoScript fault) = None
script_of (Flawed fault) = None
script_of (Runs script) = Some script

-- the script of session s, from 1 on
unfoldable pub script_at : Input → ℕ → Option Script
script_at input s = option_and_then script_of (slice_get input.readings (s - 1))

-- the number of the batch of session s, from 0 on: how many batches end before the session
abbrev pub batch_of : List ℕ → ℕ → ℕ
batch_of [] s = 0
batch_of (end ∷ ends) s = cond (nat_lt end s) 1 0 + batch_of ends s

-- item c of a script, from 1 on
unfoldable pub item_at : Script → ℕ → Option Item
item_at script c = slice_get script.items.items (c - 1)

-- the bytes of the first relation file of this name
abbrev pub file_named : List RelationFile → List ℕ → Option (List ℕ)
file_named [] name = None
file_named (file ∷ files) name = cond (same_text file.name name) (Some file.bytes) (file_named files name)
