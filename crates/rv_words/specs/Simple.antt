-- The one simple command that clap reads, in clap's own terms.
use Rattle.std.specs.Prelude.{true, [], ◌∷◌, codes, Some}
use Rattle.clap.specs.Words.{App, Rule, new_app, new_rule, with_rule}
use Rattle.clap.specs.Simple.{on_top}
use Rattle.clap.specs.declared.builder.action.ArgAction.TheVariants.{Append}
use Rattle.rv_words.specs.Uses.{Word, workers_name, nodes_name, turns_name, gen_name, history_name, file_name}

-- an option that takes one value each time that it occurs
abbrev pub valued : Word → Rule
valued name = record (new_rule name) { long = Some name; action = Some Append }

-- the option that takes no value: it has one empty value each time that it occurs
abbrev pub history : Rule
history = record (new_rule history_name) {
  long = Some history_name;
  action = Some Append;
  range = Some (record { start_inclusive = 0; end_inclusive = 0 });
  missing = [] ∷ [];
}

-- the FILE words
abbrev pub file : Rule
file = record (new_rule file_name) { action = Some Append }

-- a command without help, whose words do not include the program's own name
abbrev pub bare : App
bare = on_top (λ s. record s { no_binary_name = true; disable_help_flag = true }) (new_app (codes "relview"))

-- the command: four options that take a value, one that takes none, and FILE words
abbrev pub app : App
app = with_rule (with_rule (with_rule (with_rule (with_rule (with_rule bare (valued workers_name))
    (valued nodes_name)) (valued turns_name)) (valued gen_name)) history) file
