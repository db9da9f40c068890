-- Which item defines a name.
use Rattle.std.specs.Prelude.{Bool, false, ℕ, List}
use Rattle.lang_model.specs.declared.syntax.Item.{Item}
use Rattle.lang_model.specs.declared.syntax.Item.TheVariants.{Function, Program, Command as COMMAND}
use Rattle.lang_model.specs.Tokens.{same_text}

-- whether an item defines this name: functions and programs define theirs, commands define none
abbrev pub defines : List ℕ → Item → Bool
defines name (Function at own params body) = same_text own name
defines name (Program at own params decls body result) = same_text own name
defines name (COMMAND command) = false
