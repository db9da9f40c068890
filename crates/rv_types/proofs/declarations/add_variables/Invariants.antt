use Rattle.std.proofs.Common.{◌≡◌, ◌||◌, ℕ, List, drop}
use Rattle.lang_model.specs.Checking.{among, variables_of}
use Rattle.rv_types.proofs.declarations.add_variables.Given as goal

abbrev pub invariant-each : goal.invariant-each
invariant-each l = (n : List ℕ) → (among (variables_of l.decls) n || among l.fn.names n) ≡ (among (variables_of (drop l.decl-index l.decls)) n || among l.names n)
