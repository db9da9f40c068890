use Rattle.std.proofs.Common.{◌≡◌, drop}
use Rattle.lang_model.specs.Checking.{among, faults}
use Rattle.rv_types.specs.Found.{told, noted}
use Rattle.rv_types.specs.Scopes.{scope_of}
use Rattle.rv_types.specs.Rows.{faults_of_args, faults_of_links}
use Rattle.rv_types.proofs.expression.+check_expr.Given as goal

abbrev pub decreases-check_expr : goal.decreases-check_expr
decreases-check_expr l = goal.size-check_expr l

abbrev pub invariant-call_args : goal.invariant-call_args
invariant-call_args l = noted (told l.so_far) (faults (scope_of l.scope) (among l.assigned) l.expr) ≡ noted (told l.first) (faults_of_args (scope_of l.scope) (among l.assigned) (drop l.arg-index l.given))

abbrev pub invariant-base_args : goal.invariant-base_args
invariant-base_args l = noted (told l.so_far) (faults (scope_of l.scope) (among l.assigned) l.expr) ≡ noted (told l.first) (faults_of_args (scope_of l.scope) (among l.assigned) (drop l.base_arg-index l.base_arg-items))

abbrev pub invariant-links : goal.invariant-links
invariant-links l = noted (told l.so_far) (faults (scope_of l.scope) (among l.assigned) l.expr) ≡ noted (told l.found) (faults_of_links (scope_of l.scope) (among l.assigned) (drop l.link-index l.link-items))
