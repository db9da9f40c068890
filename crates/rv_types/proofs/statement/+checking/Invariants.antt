use Rattle.std.proofs.Common.{◌≡◌, ◌+◌, ◌*◌, drop}
use Rattle.lang_model.specs.Checking.{among, faults_by, assigned_by}
use Rattle.rv_types.specs.Found.{told, noted}
use Rattle.rv_types.specs.Scopes.{scope_of}
use Rattle.lang_model.proofs.Weights.{weight_stmt, weight_by}
use Rattle.rv_types.proofs.statement.+checking.Given as goal

abbrev pub decreases-check_stmt : goal.decreases-check_stmt
decreases-check_stmt l = 4 * weight_stmt l.stmt.now

abbrev pub decreases-check_stmts : goal.decreases-check_stmts
decreases-check_stmts l = 4 * weight_by l.stmts.now + 1

abbrev pub decreases-check_loop : goal.decreases-check_loop
decreases-check_loop l = 4 * weight_by l.body.now + 2

abbrev pub decreases-check_choice : goal.decreases-check_choice
decreases-check_choice l = 4 * (weight_by l.yes.now + weight_by l.no.now) + 3

abbrev pub decreases-check_second : goal.decreases-check_second
decreases-check_second l = 4 * weight_by l.no.now + 2

abbrev pub invariant-check_stmts-each : goal.invariant-check_stmts-each
invariant-check_stmts-each l =
    (noted (told l.so_far) (faults_by (scope_of l.scope) (among l.fn.assigned) l.stmts) ≡ noted (told l.found) (faults_by (scope_of l.scope) (among l.assigned) (drop l.stmt-index l.stmts)))
    × (assigned_by (among l.fn.assigned) l.stmts ≡ assigned_by (among l.assigned) (drop l.stmt-index l.stmts))
