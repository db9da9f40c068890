-- What the words of the command line and the files of the shelf give a run.
use Rattle.std.specs.Prelude.{◌≡◌, ◌≤◌, ◌++◌, ℕ, cond, List, [], ◌∷◌, length, map, unwrap_or, option_map, is_some, Option, Some, None}
use Rattle.std.specs.List.{AllByRecursion}
use Rattle.lang_model.specs.Limits.{script_limit}
use Rattle.run_model.specs.Inputs.{Input, RelationFile, AreReadings}
use Rattle.rv_words.specs.Uses.{Word}
use Rattle.rv_words.specs.Said.{Said, said_by, is_relation_word, scripts_in, relations_in}
use Rattle.rv_generate.specs.Generator.{generated}
use Rattle.run_model.specs.Filed.{file_of}
use Rattle.rv_io.specs.Outside.{Files, Told, IsFile}
use Rattle.rv_io.specs.Reading.{RefusesFile}
use Rattle.rv_ends.specs.declared.given.Given.{Given}
use Rattle.rv_ends.specs.declared.given.Halt.{Halt}

-- ---- limits
-- the greatest length of a relation file, in bytes
abbrev pub relation_limit : ℕ
relation_limit = 8388638

-- the greatest length of the file that a FILE word names, in bytes
unfoldable pub limit_of : Word → ℕ
limit_of word = cond (is_relation_word word) relation_limit script_limit

-- ---- files
-- the FILE words of all parts, in the order in which they occur; none if the words are outside the accepted set
abbrev pub file_words : List Word → List Word
file_words words = unwrap_or (option_map (λ said. said.files) (said_by words)) []

-- the file of a FILE word has exactly these bytes, and is within its limit
abbrev pub IsTaken : Option Files → Word → List ℕ → Type 0
IsTaken files word bytes = IsFile files word bytes × (length bytes ≤ limit_of word)

-- the files of these FILE words have these bytes, in order
abbrev pub AreTaken : Option Files → List Word → List (List ℕ) → Type 0
AreTaken files [] [] = Unit {0}
AreTaken files (word ∷ words) (bytes ∷ others) = IsTaken files word bytes × AreTaken files words others
AreTaken files [] (bytes ∷ others) = ⊥
AreTaken files (word ∷ words) [] = ⊥

-- each of these FILE words names a file within its limit
abbrev pub AreWithin : Option Files → List Word → Type 0
AreWithin files = AllByRecursion (λ word. (bytes : List ℕ) × IsTaken files word bytes)

-- the names of relation files
abbrev pub names_of : List RelationFile → List Word
names_of = map (λ file. file.name)

-- the bytes of relation files
abbrev pub bytes_of : List RelationFile → List (List ℕ)
bytes_of = map (λ file. file.bytes)

-- the files of FILE words: the scripts in order, and the relation files in order, with their names
pub record Gives (files : Option Files) (words : List Word) (scripts : List (List ℕ))
    (loaded : List RelationFile) : Type 0 where
  pub scripts_are : AreTaken files (scripts_in words) scripts
  pub named : names_of loaded ≡ relations_in words
  pub loaded_are : AreTaken files (relations_in words) (bytes_of loaded)

-- the same for what was read
abbrev pub GivesFiles : Option Files → List Word → Given → Type 0
GivesFiles files words given = Gives files words (map (λ v. v.items) given.scripts.items)
    (map file_of given.files.items)

-- a file was added to what was read, as a script or as a relation file
pub record Adds (name : Word) (bytes : List ℕ) (old new : Given) : Type 0 where
  pub scripts : map (λ v. v.items) new.scripts.items ≡ map (λ v. v.items) old.scripts.items
      ++ cond (is_relation_word name) [] (bytes ∷ [])
  pub files : map file_of new.files.items ≡ map file_of old.files.items
      ++ cond (is_relation_word name) (record { name = name; bytes = bytes } ∷ []) []

-- a file was not read: those before it were, and the shelf or the reader refused this one
pub record IsHalted (old new : Told) (words : List Word) (halt : Halt) : Type 0 where
  pub before : List Word
  pub after : List Word
  pub place : words ≡ before ++ halt.name.now ∷ after
  pub taken : AreWithin old.files before
  pub refused : RefusesFile old new halt.name.now (limit_of halt.name.now) halt.error

-- ---- inputs
-- the scripts of a run: those generated from its number, or those of its FILE words
abbrev pub AreScripts : Option ℕ → Option Files → List Word → List (List ℕ) → Type 0
AreScripts (Some number) files words scripts = scripts ≡ generated number
AreScripts None files words scripts = AreTaken files words scripts

-- for each batch of a run with this many scripts, the number of scripts up to its end: generated scripts are one batch,
-- and otherwise each part of the words is a batch
abbrev pub ends_of : Said → ℕ → List ℕ
ends_of said count = cond (is_some said.number) (count ∷ []) said.ends

-- the input of a run: its scripts as read, their batches, the relation files given at the start, and the options
pub record IsInput (said : Said) (files : Option Files) (input : Input) : Type 0 where
  pub scripts : List (List ℕ)
  pub given : AreScripts said.number files said.scripts scripts
  pub read : AreReadings scripts input.readings
  pub batches : input.ends ≡ ends_of said (length input.readings)
  pub named : names_of input.files ≡ said.relations
  pub loaded : AreTaken files said.relations (bytes_of input.files)
  pub turns : input.turns ≡ said.turns
  pub history : input.history ≡ said.history
