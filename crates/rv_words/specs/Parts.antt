-- How the words are split into parts: a word --then ends a part and begins another, unless a word -- comes before it.
use Rattle.std.specs.Prelude.{if◌then◌else◌, ℕ, List, [], ◌∷◌, codes, Option, Some, None}
use Rattle.std.specs.Str.{bytes_eq}
use Rattle.rv_words.specs.Uses.{Word}

-- the word between two parts
abbrev pub then_word : Word
then_word = codes "--then"

-- the word after which each word is a FILE word, so that no part begins there
abbrev pub ends_word : Word
ends_word = codes "--"

-- the greatest number of parts
abbrev pub most_parts : ℕ
most_parts = 8

-- one more word at the front of the first part
abbrev pub into_first : Word → List (List Word) → List (List Word)
into_first word [] = (word ∷ []) ∷ []
into_first word (part ∷ parts) = (word ∷ part) ∷ parts

-- the parts of the words; there is at least one, and it may be empty
abbrev pub parts_of : List Word → List (List Word)
parts_of [] = [] ∷ []
parts_of (word ∷ rest) = if bytes_eq word then_word then [] ∷ parts_of rest
    else (if bytes_eq word ends_word then (word ∷ rest) ∷ [] else into_first word (parts_of rest))

-- the parts after the first, from the words after the --then that ends it, if there is one
abbrev pub parts_behind : Option (List Word) → List (List Word)
parts_behind None = []
parts_behind (Some words) = parts_of words
