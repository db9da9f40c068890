-- What a rule makes of a node, and what the applicable rule with the least number does.
use Rattle.std.specs.Prelude.{◌≡◌, ℕ, Option, Some, None}
use Rattle.lang_model.specs.declared.syntax.Expr.{Expr}
use Rattle.lang_model.specs.Trees.{Tree, tree_of}

-- the expression is what a rule gives, or there is none and the rule gives nothing
abbrev pub IsMade : Option Tree → Option Expr → Type 0
IsMade o None = o ≡ None
IsMade o (Some e) = o ≡ Some (tree_of e)

-- the same, together with the number of the rule
abbrev pub IsLeast : Option (ℕ × Tree) → Option (ℕ × Expr) → Type 0
IsLeast o None = o ≡ None
IsLeast o (Some x) = o ≡ Some (x.0, tree_of x.1)
