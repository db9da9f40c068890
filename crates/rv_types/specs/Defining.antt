-- The item of a script that defines a name.
use Rattle.std.specs.Prelude.{◌≡◌, ◌⊎◌, ◌++◌, cond, Bool, true, false, ℕ, List, [], ◌∷◌, Option, Some, None, IsSome}
use Rattle.std.specs.List.{list_any}
use Rattle.lang_model.specs.declared.syntax.Item.{Item}
use Rattle.lang_model.specs.declared.syntax.Item.TheVariants.{Function, Program, Command as COMMAND}
use Rattle.lang_model.specs.declared.syntax.Script.{Script}
use Rattle.lang_model.specs.Checking.{flaw}
use Rattle.lang_model.specs.Tokens.{same_text}
use Rattle.lang_model.specs.Defining.{defines}

-- whether an item is a definition: a function or a program
abbrev pub is_definition : Item → Bool
is_definition (Function at own params body) = true
is_definition (Program at own params decls body result) = true
is_definition (COMMAND command) = false

-- what may take memory: a script with a definition, and reporting a fault
abbrev pub TakesMemory : Script → Type 0
TakesMemory script = (list_any is_definition script.items.items ≡ true) ⊎ IsSome (flaw script)

-- none of the items defines this name
abbrev pub NoneDefines : List ℕ → List Item → Type 0
NoneDefines name items = list_any (defines name) items ≡ false

-- what a name is in the items of a script
abbrev pub IsDefinition : List Item → List ℕ → Option Item → Type 0
-- no definition: none of the items defines it
IsDefinition items name None = NoneDefines name items
-- an item: it is one of them and defines the name, and no other does
IsDefinition items name (Some item) =
    (before behind : List Item) × (items ≡ before ++ item ∷ behind) × (defines name item ≡ true)
    × NoneDefines name before × NoneDefines name behind

-- the number beside a name; the first, if the name occurs twice
abbrev pub number_beside : List (List ℕ × ℕ) → List ℕ → Option ℕ
number_beside [] name = None
number_beside (entry ∷ entries) name = cond (same_text entry.0 name) (Some entry.1) (number_beside entries name)
