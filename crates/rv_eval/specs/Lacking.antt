-- The leftmost name without a relation, in the arguments of a call and in the links of a chain.
use Rattle.std.specs.Prelude.{ℕ, List, [], ◌∷◌, Option, None}
use Rattle.lang_model.specs.declared.syntax.Place.{Place}
use Rattle.lang_model.specs.declared.syntax.Expr.{Expr}
use Rattle.lang_model.specs.declared.syntax.Link.{Link}
use Rattle.lang_model.specs.State.{State}
use Rattle.lang_model.specs.Missing.{first_of_both, missing}

-- the leftmost one in arguments
abbrev pub missing_of_args : State → List Expr → Option (Place × List ℕ)
missing_of_args state [] = None
missing_of_args state (e ∷ es) = first_of_both (missing state e) (missing_of_args state es)

-- the leftmost one in links
abbrev pub missing_of_links : State → List Link → Option (Place × List ℕ)
missing_of_links state [] = None
missing_of_links state (l ∷ ls) = first_of_both (missing state l.right) (missing_of_links state ls)
