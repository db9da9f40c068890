-- What the words say: the numbers, the scripts and the relation files; nothing if the words are outside the accepted
-- set.
use Rattle.std.specs.Prelude.{◌==◌, ◌&&◌, ◌||◌, ◌++◌, ◌-◌, ◌^◌, if◌then◌else◌, not, nat_le, ℕ, Bool, true, false, List, [], ◌∷◌, length, drop, codes, Option, Some, None, option_map, option_and_then}
use Rattle.std.specs.Char.{is_ascii_digit}
use Rattle.std.specs.List.{list_all}
use Rattle.std.specs.Str.{bytes_eq}
use Rattle.std.specs.Str.Parse.{digits_value}
use Rattle.rv_words.specs.Parts.{most_parts, parts_of}
use Rattle.rv_words.specs.Uses.{Word, uses_in, values_of, workers_name, nodes_name, turns_name, gen_name, history_name, file_name}

-- ---- numbers
-- whether a value is 1 to 20 digits
abbrev pub is_number : Word → Bool
is_number text = nat_le 1 (length text) && (nat_le (length text) 20 && list_all is_ascii_digit text)

-- the number that a value spells, if it is from `least` to `most`
abbrev pub number_within : ℕ → ℕ → Word → Option ℕ
number_within least most text =
    if is_number text && (nat_le least (digits_value 10 text) && nat_le (digits_value 10 text) most) then Some
    (digits_value 10 text) else None

-- the number of an option that occurs at most once; without it, the default
abbrev pub number_or : ℕ → ℕ → ℕ → List Word → Option ℕ
number_or least most default [] = Some default
number_or least most default (text ∷ []) = number_within least most text
number_or least most default (first ∷ second ∷ rest) = None

-- the number of --gen, which occurs at most once
abbrev pub gen_number : List Word → Option (Option ℕ)
gen_number [] = Some None
gen_number (text ∷ []) = option_map (λ number. Some number) (number_within 0 (2 ^ 64 - 1) text)
gen_number (first ∷ second ∷ rest) = None

-- whether --history occurs, which it does at most once
abbrev pub switched : List Word → Option Bool
switched [] = Some false
switched (value ∷ []) = Some true
switched (first ∷ second ∷ rest) = None

-- ---- FILE words
-- whether a FILE word is accepted: it is neither empty nor the word -
abbrev pub is_file_word : Word → Bool
is_file_word word = not (length word == 0) && not (bytes_eq word (codes "-"))

-- whether a FILE word names a relation file: it ends in .k2
abbrev pub is_relation_word : Word → Bool
is_relation_word word = bytes_eq (drop (length word - 3) word) (codes ".k2")

-- the relation files among the FILE words, in order
abbrev pub relations_in : List Word → List Word
relations_in [] = []
relations_in (word ∷ rest) = if is_relation_word word then word ∷ relations_in rest else relations_in rest

-- the scripts among the FILE words: all others
abbrev pub scripts_in : List Word → List Word
scripts_in [] = []
scripts_in (word ∷ rest) = if is_relation_word word then scripts_in rest else word ∷ scripts_in rest

-- the greatest number of scripts, and of relation files
abbrev pub most_files : ℕ
most_files = 64

-- ---- parts
-- whether there are values under a name
abbrev pub stands : (Word → List Word) → Word → Bool
stands values name = nat_le 1 (length (values name))

-- whether an option is among the values
abbrev pub has_options : (Word → List Word) → Bool
has_options values = stands values workers_name || (stands values nodes_name || (stands values turns_name
    || (stands values gen_name || stands values history_name)))

-- the FILE words of some parts, and for each part the number of scripts up to its end
pub record Listed : Type 0 where
  pub files : List Word
  pub ends : List ℕ

-- no part
abbrev pub no_part : Listed
no_part = record { files = []; ends = [] }

-- the same, with the FILE words of one more part
abbrev pub joined : Listed → List Word → Listed
joined listed files = record {
  files = listed.files ++ files;
  ends = listed.ends ++ length (scripts_in (listed.files ++ files)) ∷ [];
}

-- whether the FILE words of a part are accepted: each of them is, at least one is a script, and with the parts before
-- it there are at most 8 parts, 64 scripts and 64 relation files
abbrev pub is_part_taken : List Word → Listed → Bool
is_part_taken files whole = list_all is_file_word files
    && (nat_le 1 (length (scripts_in files))
    && (nat_le (length whole.ends) most_parts
    && (nat_le (length (scripts_in whole.files)) most_files
    && nat_le (length (relations_in whole.files)) most_files)))

-- one more part, if it is accepted
abbrev pub with_part : Listed → List Word → Option Listed
with_part listed files = if is_part_taken files (joined listed files) then Some (joined listed files) else None

-- one more part from its values, if no option is among them
abbrev pub with_files_alone : Listed → (Word → List Word) → Option Listed
with_files_alone listed values = if has_options values then None else with_part listed (values file_name)

-- one more part after the first, which must have no option
abbrev pub with_later_part : Listed → List Word → Option Listed
with_later_part listed part = option_and_then (λ uses. with_files_alone listed (values_of uses)) (uses_in part)

-- the parts after the first, part by part
abbrev pub with_later : List (List Word) → Listed → Option Listed
with_later [] listed = Some listed
with_later (part ∷ later) listed = option_and_then (with_later later) (with_later_part listed part)

-- one part without a FILE word
abbrev pub generated_part : List Word → List (List Word) → Option Listed
generated_part [] [] = Some (record { files = []; ends = 0 ∷ [] })
generated_part _ _ = None

-- the FILE words of the first part with the parts after it: with --gen there is one part and no FILE word, and without
-- it each part has a script
abbrev pub with_parts : Option ℕ → List Word → List (List Word) → Option Listed
with_parts (Some number) files later = generated_part files later
with_parts None files later = option_and_then (with_later later) (with_part no_part files)

-- ---- the whole
-- what the words say: `files` are the FILE words of all parts, in the order in which they occur; `scripts` and
-- `relations` are the scripts and the relation files among them; and `ends` has for each part the number of scripts up
-- to its end
pub record Said : Type 0 where
  pub workers : ℕ
  pub nodes : ℕ
  pub turns : ℕ
  pub history : Bool
  pub number : Option ℕ
  pub files : List Word
  pub scripts : List Word
  pub relations : List Word
  pub ends : List ℕ

-- the numbers and the switch with the FILE words of the parts
abbrev pub with_files : ℕ → ℕ → ℕ → Bool → Option ℕ → Listed → Said
with_files workers nodes turns history number listed = record {
  workers = workers;
  nodes = nodes;
  turns = turns;
  history = history;
  number = number;
  files = listed.files;
  scripts = scripts_in listed.files;
  relations = relations_in listed.files;
  ends = listed.ends;
}

-- what the values of the first part say, given by name, with the parts after it: 1 to 64 workers, 2 ^ 10 to 2 ^ 24 node
-- words, up to 1000000000 turns
abbrev pub said_from : (Word → List Word) → List (List Word) → Option Said
said_from values later = option_and_then (λ workers. option_and_then (λ nodes. option_and_then (λ turns.
    option_and_then (λ history. option_and_then (λ number. option_map (with_files workers nodes turns history number)
    (with_parts number (values file_name) later))
    (gen_number (values gen_name)))
    (switched (values history_name)))
    (number_or 0 1000000000 1000000 (values turns_name)))
    (number_or 10 24 20 (values nodes_name)))
    (number_or 1 64 1 (values workers_name))

-- what the parts say
abbrev pub said_of : List (List Word) → Option Said
said_of [] = None
said_of (first ∷ later) = option_and_then (λ uses. said_from (values_of uses) later) (uses_in first)

-- what the words say; nothing if and only if they are outside the accepted set
abbrev pub said_by : List Word → Option Said
said_by words = said_of (parts_of words)
