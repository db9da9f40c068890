use Rattle.std.proofs.Common.{◌≡◌, ◌≤◌, ◌+◌, ◌∙◌, ◌||◌, ◌&&◌, ℕ, List, drop, sym, ap, subst, rules}
use Rattle.std.specs.Prelude.{IfOk, OnOk}
use Rattle.lang_model.specs.Checking.{among, faults, faults_of, faults_by, target_faults, assigned_after, assigned_by}
use Rattle.rv_types.specs.Found.{told, noted}
use Rattle.rv_types.specs.Scopes.{scope_of}
use Rattle.rv_types.proofs.Walks.{noted-append}
use Rattle.rv_types.proofs.Statements.{faults-while, faults-if, assigned-if, noted-stmt, assigned-stmt}
use Rattle.lang_model.proofs.Weights.{weight, weight_stmt, weight_by, weight-while, weight-if, weight_one}
use Rattle.rv_types.proofs.statement.+checking.Goals as goal

pub check_stmt-check_loop-requires : goal.check_stmt-check_loop-requires
check_stmt-check_loop-requires t c =
    let w : weight_stmt c.args.stmt.now ≡ weight c.in-While.test + weight_by c.as_slice.result.now + 1 =
    ap weight_stmt c.in-While.is ∙ weight-while c.in-While.at c.in-While.test c.in-While.body ∙ ap (λ ss. weight c.in-While.test + weight_by ss + 1) (sym c.as_slice.ensures.value) in
    (search (rules, w), tt)

pub check_stmt-check_choice-requires : goal.check_stmt-check_choice-requires
check_stmt-check_choice-requires t c =
    let w : weight_stmt c.args.stmt.now ≡ weight c.in-If.test + (weight_by c.as_slice-in-If.result.now + weight_by c.as_slice-in-If-2.result.now) + 1 =
    ap weight_stmt c.in-If.is ∙ weight-if c.in-If.at c.in-If.test c.in-If.yes c.in-If.no
    ∙ (λ i. weight c.in-If.test + (weight_by (sym c.as_slice-in-If.ensures.value i) + weight_by (sym c.as_slice-in-If-2.ensures.value i)) + 1) in
    (search (rules, w), tt)

pub check_stmt-returns-in-Set-clause-fault : goal.check_stmt-returns-in-Set-clause-fault
check_stmt-returns-in-Set-clause-fault t c =
    let S = scope_of c.args.scope.now in
    let A = among c.args.assigned.now in
    let t0 = told c.args.so_far in
    let s = c.in-Set in
    subst (λ u. IfOk c.check_assignment.result (λ r. told r ≡ u))
    (sym (noted-append t0 (target_faults S s.at s.name) (faults S A s.value)) ∙ ap (λ x. noted t0 (faults_of S A x)) (sym s.is)) c.check_assignment.ensures.fault

pub check_stmt-returns-in-While-clause-fault : goal.check_stmt-returns-in-While-clause-fault
check_stmt-returns-in-While-clause-fault t c =
    let S = scope_of c.args.scope.now in
    let A = among c.args.assigned.now in
    let t0 = told c.args.so_far in
    let w = c.in-While in
    let test = faults S A w.test in
    let whole =
    ap (λ x. noted t0 (faults_of S A x)) w.is ∙ ap (noted t0) (faults-while S A w.at w.test w.body) ∙ noted-append t0 test (faults_by S A w.body.items)
    ∙ (λ i. noted (sym c.check_expr-found.ensures i) (faults_by S A (sym c.as_slice.ensures.value i))) in
    subst (λ u. IfOk c.check_loop.result (λ r. told r ≡ u)) (sym whole) c.check_loop.ensures

pub check_stmt-returns-in-If-clause-fault : goal.check_stmt-returns-in-If-clause-fault
check_stmt-returns-in-If-clause-fault t c =
    let S = scope_of c.args.scope.now in
    let A = among c.args.assigned.now in
    let t0 = told c.args.so_far in
    let f = c.in-If in
    let test = faults S A f.test in
    let whole =
    ap (λ x. noted t0 (faults_of S A x)) f.is ∙ ap (noted t0) (faults-if S A f.at f.test f.yes f.no) ∙ noted-append t0 test _
    ∙ noted-append (noted t0 test) (faults_by S A f.yes.items) (faults_by S A f.no.items)
    ∙ (λ i. noted (noted (sym c.check_expr-found-in-If.ensures i) (faults_by S A (sym c.as_slice-in-If.ensures.value i))) (faults_by S A (sym c.as_slice-in-If-2.ensures.value i))) in
    subst (λ u. IfOk c.check_choice.result (λ r. told r ≡ u)) (sym whole) c.check_choice.ensures.fault

pub check_stmt-returns-in-If-clause-assigned : goal.check_stmt-returns-in-If-clause-assigned
check_stmt-returns-in-If-clause-assigned t c =
    let A = among c.args.assigned.now in
    let f = c.in-If in
    let whole = ap (assigned_after A) f.is ∙ assigned-if A f.at f.test f.yes f.no
    ∙ (λ i n. A n || (assigned_by A (sym c.as_slice-in-If.ensures.value i) n && assigned_by A (sym c.as_slice-in-If-2.ensures.value i) n)) in
    subst (λ B. OnOk c.check_choice.result ((n : List ℕ) → among c.check_choice.new.assigned n ≡ B n)) (sym whole) c.check_choice.ensures.assigned

pub check_stmts-check_stmt-requires : goal.check_stmts-check_stmt-requires
check_stmts-check_stmt-requires t c =
    let less : weight_stmt c.stmt-item.result ≤ weight_by c.args.stmts.now = weight_one c.args.stmts.now c.each.stmt-index c.stmt-item.result c.stmt-item.result c.each-test.true c.stmt-item.is in
    (search (rules, less), tt)

pub check_stmts-each-preserved : goal.check_stmts-each-preserved
check_stmts-each-preserved t c =
    let S = scope_of c.args.scope.now in
    let ss = c.args.stmts.now in
    let k = c.each.stmt-index in
    let A = among c.each.assigned in
    let B = among c.check_stmt.new.assigned in (
      c.each.invariant.0 ∙ noted-stmt S A B (told c.each.found) ss k c.stmt-item.result c.each-test.true c.stmt-item.is c.in_ok-found.ensures.assigned
          ∙ ap (λ u. noted u (faults_by S B (drop (k + 1) ss))) (sym c.in_ok-found.ensures.fault),
      c.each.invariant.1 ∙ assigned-stmt A B ss k c.stmt-item.result c.each-test.true c.stmt-item.is c.in_ok-found.ensures.assigned,
    )
