-- Arguments and links as lists: their faults, and the greatest rank of the definitions that they call.
use Rattle.std.specs.Prelude.{ℕ, max, List, [], ◌∷◌, ◌++◌}
use Rattle.lang_model.specs.declared.syntax.Expr.{Expr}
use Rattle.lang_model.specs.declared.syntax.Link.{Link}
use Rattle.lang_model.specs.declared.faults.TypeFault.{TypeFault}
use Rattle.lang_model.specs.Checking.{Names, Known, Scope, faults, called}

-- the faults of arguments
abbrev pub faults_of_args : Scope → Names → List Expr → List TypeFault
faults_of_args scope assigned [] = []
faults_of_args scope assigned (e ∷ es) = faults scope assigned e ++ faults_of_args scope assigned es

-- the faults of links
abbrev pub faults_of_links : Scope → Names → List Link → List TypeFault
faults_of_links scope assigned [] = []
faults_of_links scope assigned (l ∷ ls) = faults scope assigned l.right ++ faults_of_links scope assigned ls

-- the greatest rank of the definitions that arguments call
abbrev pub called_of_args : List Known → List Expr → ℕ
called_of_args earlier [] = 0
called_of_args earlier (e ∷ es) = max (called earlier e) (called_of_args earlier es)

-- the greatest rank of the definitions that links call
abbrev pub called_of_links : List Known → List Link → ℕ
called_of_links earlier [] = 0
called_of_links earlier (l ∷ ls) = max (called earlier l.right) (called_of_links earlier ls)
