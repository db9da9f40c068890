-- The faults for which a checked script is never refused.
use Rattle.std.specs.Prelude.{◌≡◌, ◌++◌, ◌⊎◌, ℕ, List, [], ◌∷◌, Some, None}
use Rattle.lang_model.specs.declared.syntax.Expr.{Expr}
use Rattle.lang_model.specs.declared.syntax.Command.{Command}
use Rattle.lang_model.specs.declared.syntax.Item.{Item}
use Rattle.lang_model.specs.declared.syntax.Item.TheVariants.{Command as COMMAND}
use Rattle.lang_model.specs.declared.syntax.Script.{Script}
use Rattle.lang_model.specs.declared.faults.TypeFault.{TypeFault}
use Rattle.lang_model.specs.declared.faults.TypeFault.TheVariants.{Mismatch, NotSquare, NotVector, NotTest}
use Rattle.lang_model.specs.State.{State}
use Rattle.lang_model.specs.Missing.{missing}
use Rattle.lang_model.specs.Checking.{flaw}
use Rattle.lang_model.specs.Outcomes.{Refusal, Ill, Size, Turns, Not}
use Rattle.lang_model.specs.Mean.{meaning}
use Rattle.lang_model.specs.declared.syntax.Let.{Let as LetOf}
use Rattle.rv_types.specs.Items.{value_of_command, lets_of_command}

-- a fault of sizes: not of a name, of the number of arguments, or of calls nested too deep
abbrev pub IsOfSizes : TypeFault → Type 0
IsOfSizes (Mismatch at op left right) = Unit {0}
IsOfSizes (NotSquare at op shape) = Unit {0}
IsOfSizes (NotVector at op shape) = Unit {0}
IsOfSizes (NotTest at shape) = Unit {0}
IsOfSizes _ = ⊥

-- a refusal that, if it is Ill, is so because of sizes
abbrev pub IllBySizes : Refusal → Type 0
IllBySizes (Ill fault) = IsOfSizes fault
IllBySizes (Size at wanted) = Unit {0}
IllBySizes (Turns at) = Unit {0}

-- an expression is the right-hand side of one of these assignments
abbrev pub IsOfLets : Expr → List LetOf → Type 0
IsOfLets e [] = ⊥
IsOfLets e (l ∷ ls) = (l.value ≡ e) ⊎ IsOfLets e ls

-- an expression is the one of a command, or one of those in a block
abbrev pub IsExpressionOf : Expr → Command → Type 0
IsExpressionOf e command =
    (value_of_command command ≡ Some e)
    ⊎ ((lets : List LetOf) × (lets_of_command command ≡ Some lets) × IsOfLets e lets)

-- an expression occurs in a command of the script
abbrev pub IsOfCommand : Script → Expr → Type 0
IsOfCommand script e =
    (before behind : List Item) × (command : Command)
    × (script.items.items ≡ before ++ COMMAND command ∷ behind) × IsExpressionOf e command

-- in a script without a flaw, over a state that has all names of the expression, the meaning can be Ill only because of
-- sizes
abbrev pub NoCallIsIll : Type 0
NoCallIsIll =
    (script : Script) (e : Expr) (state : State) (n : ℕ) (why : Refusal)
    → flaw script ≡ None → IsOfCommand script e → missing state e ≡ None
    → (meaning script state e n).answer ≡ Not why → IllBySizes why
