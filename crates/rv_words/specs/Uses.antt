-- How the words are read from left to right: which options occur, with which values, and which words are FILE words.
use Rattle.std.specs.Prelude.{◌==◌, ◌||◌, if◌then◌else◌, ℕ, Bool, List, [], ◌∷◌, map, codes, Option, Some, None, is_some, option_map}
use Rattle.std.specs.List.{before_first, after_first, list_any}
use Rattle.std.specs.Str.{bytes_eq}

-- a word of the command line, as its bytes
abbrev pub Word : Type 0
Word = List ℕ

-- ---- what a word looks like
-- the hyphen
abbrev pub is_hyphen : ℕ → Bool
is_hyphen byte = byte == 45

-- the equals sign
abbrev pub is_equals : ℕ → Bool
is_equals byte = byte == 61

-- a word is either plain: a FILE word, or the value of the option before it; or it ends the options; or it is a long
-- option, with its name and the value after =; or it is foreign, and not accepted
pub data Kind : Type 0 where
  plain : Kind
  ends : Kind
  long : Word → Option Word → Kind
  foreign : Kind

-- the value after the first =, if there is one
abbrev pub value_behind : Word → Option Word
value_behind text = if list_any is_equals text then Some (after_first is_equals text) else None

-- the kind of a word, by what follows its two hyphens
abbrev pub long_kind : Word → Kind
long_kind [] = ends
long_kind (byte ∷ rest) = long (before_first is_equals (byte ∷ rest)) (value_behind (byte ∷ rest))

-- the kind of a word, by what follows its first hyphen
abbrev pub hyphen_kind : ℕ → Word → Kind
hyphen_kind second rest = if is_hyphen second then long_kind rest else foreign

-- the kind of a word. The word - alone is plain, but it is neither a number nor an accepted FILE word
abbrev pub kind_of : Word → Kind
kind_of [] = plain
kind_of (first ∷ []) = plain
kind_of (first ∷ second ∷ rest) = if is_hyphen first then hyphen_kind second rest else plain

-- ---- the arguments
-- the option for the number of workers
abbrev pub workers_name : Word
workers_name = codes "workers"

-- the option for the binary logarithm of the number of node words
abbrev pub nodes_name : Word
nodes_name = codes "nodes"

-- the option for the turns of loops
abbrev pub turns_name : Word
turns_name = codes "turns"

-- the option for the number of generated scripts
abbrev pub gen_name : Word
gen_name = codes "gen"

-- the option that asks for the history
abbrev pub history_name : Word
history_name = codes "history"

-- the name under which FILE words are found
abbrev pub file_name : Word
file_name = codes "file"

-- whether an option of this name takes a value
abbrev pub takes_value : Word → Bool
takes_value name = bytes_eq workers_name name || (bytes_eq nodes_name name
    || (bytes_eq turns_name name || bytes_eq gen_name name))

-- an option or a FILE word as it occurs in the words: its name, and its value, which is empty for --history
pub record Use : Type 0 where
  pub name : Word
  pub value : Word

-- a FILE word
abbrev pub file_use : Word → Use
file_use word = record { name = file_name; value = word }

-- one more use in front of the others
abbrev pub used : Word → Word → Option (List Use) → Option (List Use)
used name value rest = option_map (λ uses. record { name = name; value = value } ∷ uses) rest

-- ---- from the left
-- an option that takes a value: the text after =, or the next word. `next` reads the remaining words, where an option
-- may be waiting for its value
abbrev pub valued_uses : Word → Option Word → (Option Word → Option (List Use)) → Option (List Use)
valued_uses name (Some value) next = used name value (next None)
valued_uses name None next = next (Some name)

-- --history, which takes no value
abbrev pub switch_uses : Option Word → (Option Word → Option (List Use)) → Option (List Use)
switch_uses (Some value) next = None
switch_uses None next = used history_name [] (next None)

-- a long option
abbrev pub long_uses : Word → Option Word → (Option Word → Option (List Use)) → Option (List Use)
long_uses name value next =
    if bytes_eq history_name name then switch_uses value next
    else (if takes_value name then valued_uses name value next else None)

-- a word, if no option is waiting for its value
abbrev pub free_uses : Kind → Word → List Word → (Option Word → Option (List Use)) → Option (List Use)
free_uses plain word rest next = used file_name word (next None)
free_uses ends word rest next = Some (map file_use rest)
free_uses (long name value) word rest next = long_uses name value next
free_uses foreign word rest next = None

-- a word, if the option with this name is waiting for its value
abbrev pub value_uses : Kind → Word → Word → (Option Word → Option (List Use)) → Option (List Use)
value_uses plain name word next = used name word (next None)
value_uses _ name word next = None

-- a word, if an option may be waiting for its value
abbrev pub word_uses : Option Word → Word → List Word → (Option Word → Option (List Use)) → Option (List Use)
word_uses None word rest next = free_uses (kind_of word) word rest next
word_uses (Some name) word rest next = value_uses (kind_of word) name word next

-- what the words contain, from left to right, if an option may be waiting for its value; nothing if the words are
-- outside the accepted set
abbrev pub uses_from : List Word → Option Word → Option (List Use)
uses_from [] waiting = if is_some waiting then None else Some []
uses_from (word ∷ rest) waiting = word_uses waiting word rest (uses_from rest)

-- what the words contain
abbrev pub uses_in : List Word → Option (List Use)
uses_in words = uses_from words None

-- the values found under a name, in order
abbrev pub values_of : List Use → Word → List Word
values_of [] name = []
values_of (use_here ∷ rest) name = if bytes_eq use_here.name name then use_here.value
    ∷ values_of rest name else values_of rest name
