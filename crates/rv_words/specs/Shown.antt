-- How contracts see the words, the options read from them, and what clap finds in them.
use Rattle.std.specs.Prelude.{◌≡◌, List, [], map, Option, Some, None, unwrap_or, option_map, String}
use Rattle.std.specs.String.{string_bytes}
use Rattle.std.specs.declared.alloc.Global.{Global}
use Rattle.clap.specs.Words.{found_of, matched_of, raw_values}
use Rattle.clap.specs.declared.parser.matches.ArgMatches.{ArgMatches}
use Rattle.rv_words.specs.Uses.{Word, Use, values_of}
use Rattle.rv_words.specs.Said.{Said, Listed, scripts_in, relations_in}
use Rattle.rv_words.specs.declared.files.FileList.{FileList}
use Rattle.rv_words.specs.declared.options.Options.{Options}

-- the bytes of the words
abbrev pub texts : List (String Global) → List Word
texts = map string_bytes

-- what options say
abbrev pub shown : Options → Said
shown options = record {
  workers = options.workers;
  nodes = options.nodes;
  turns = options.turns;
  history = options.history;
  number = options.number;
  files = texts options.files.items;
  scripts = texts options.scripts.items;
  relations = texts options.relations.items;
  ends = options.ends.items;
}

-- the contents of a list of FILE words
abbrev pub listed_by : FileList → Listed
listed_by list = record { files = texts list.files.items; ends = list.ends.items }

-- a list of FILE words has the scripts and relation files among them
pub record IsSorted (list : FileList) : Type 0 where
  pub scripts : texts list.scripts.items ≡ scripts_in (texts list.files.items)
  pub relations : texts list.relations.items ≡ relations_in (texts list.files.items)

-- the values that clap found under a name
abbrev pub found_values : ArgMatches → Word → List Word
found_values matches name = unwrap_or (option_map raw_values (matched_of (found_of matches) name)) []

-- clap found the uses: their values under each name
abbrev pub Finds : Option (List Use) → ArgMatches → Type 0
Finds None matches = ⊥
Finds (Some uses) matches = (name : Word) → found_values matches name ≡ values_of uses name
