-- What the walk over a script reads from its items.
use Rattle.std.specs.Prelude.{◌≤◌, ℕ, max, List, Option, Some, None}
use Rattle.lang_model.specs.declared.syntax.Expr.{Expr}
use Rattle.lang_model.specs.declared.syntax.Command.{Command}
use Rattle.lang_model.specs.declared.syntax.Command.TheVariants.{Let, Print, List as LIST, Count, Typed, At, Save, Atomic, Explain}
use Rattle.lang_model.specs.declared.syntax.Let.{Let as LetOf}
use Rattle.lang_model.specs.declared.syntax.Item.{Item}
use Rattle.lang_model.specs.declared.syntax.Item.TheVariants.{Function, Program, Command as COMMAND}
use Rattle.lang_model.specs.Checking.{Known, rank_named, called, called_by_all}

-- the expression of a command, if it has one
abbrev pub value_of_command : Command → Option Expr
value_of_command (Let name value) = Some value
value_of_command (Print value) = Some value
value_of_command (LIST value) = Some value
value_of_command (Count value) = Some value
value_of_command (Typed value) = Some value
value_of_command (At at name value) = Some value
value_of_command (Save value file) = Some value
value_of_command (Explain value) = Some value
value_of_command _ = None

-- the assignments of a command, if it is a block
abbrev pub lets_of_command : Command → Option (List LetOf)
lets_of_command (Atomic lets) = Some lets.items
lets_of_command _ = None

-- the greatest rank of the definitions that an item calls; 0 if it calls none
abbrev pub called_by_item : List Known → Item → ℕ
called_by_item earlier (Function at name params body) = called earlier body
called_by_item earlier (Program at name params decls body result) = max (called_by_all earlier body.items)
    (called earlier result)
called_by_item earlier (COMMAND command) = 0

-- no definition has a greater rank than this
abbrev pub RanksWithin : ℕ → List Known → Type 0
RanksWithin bound earlier = (n : List ℕ) → rank_named earlier n ≤ bound
