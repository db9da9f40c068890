-- The names of the arguments of a call and of the links of a chain, in the order of the text.
use Rattle.std.specs.Prelude.{ℕ, List, [], ◌∷◌, ◌++◌}
use Rattle.lang_model.specs.declared.syntax.Expr.{Expr}
use Rattle.lang_model.specs.declared.syntax.Link.{Link}
use Rattle.lang_model.specs.Eval.{names_in}

-- the names of arguments
abbrev pub names_of_args : List Expr → List (List ℕ)
names_of_args [] = []
names_of_args (e ∷ es) = names_in e ++ names_of_args es

-- the names of links
abbrev pub names_of_links : List Link → List (List ℕ)
names_of_links [] = []
names_of_links (l ∷ ls) = names_in l.right ++ names_of_links ls
