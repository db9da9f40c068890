-- What the names of an expression may refer to, as the walk over a script keeps it.
use Rattle.std.specs.Prelude.{◌≡◌, ℕ, Bool, List, [], false, true}
use Rattle.lang_model.specs.declared.syntax.Decl.{Decl}
use Rattle.lang_model.specs.Checking.{among, Known, Scope, variables_of, domains_of}
use Rattle.rv_types.specs.declared.scope.Scope.{Scope as Kept}

-- the scope that the walk keeps
abbrev pub scope_of : Kept → Scope
scope_of kept = record {
  is_command = kept.is_command;
  parameters = kept.parameters;
  variables = kept.variables;
  products = kept.products;
  sums = kept.sums;
  earlier = kept.earlier.now;
}

-- the scope without parameters and declarations, after these definitions
abbrev pub scope_behind : Bool → List Known → Scope
scope_behind is_command earlier = record {
  is_command = is_command;
  parameters = [];
  variables = [];
  products = [];
  sums = [];
  earlier = earlier;
}

-- the same scope with these parameters
abbrev pub with_parameters : List (List ℕ) → Scope → Scope
with_parameters parameters scope = record {
  is_command = scope.is_command;
  parameters = parameters;
  variables = scope.variables;
  products = scope.products;
  sums = scope.sums;
  earlier = scope.earlier;
}

-- a scope of a program with these parameters and declarations, after these definitions
pub record OfProgram (earlier : List Known) (parameters : List (List ℕ)) (decls : List Decl)
    (scope : Scope) : Type 0 where
  pub kind : scope.is_command ≡ false
  pub parameters_kept : scope.parameters ≡ parameters
  pub earlier_kept : scope.earlier ≡ earlier
  pub variables_declared : (n : List ℕ) → among scope.variables n ≡ among (variables_of decls) n
  pub products_declared : (n : List ℕ) → among scope.products n ≡ among (domains_of false decls) n
  pub sums_declared : (n : List ℕ) → among scope.sums n ≡ among (domains_of true decls) n
