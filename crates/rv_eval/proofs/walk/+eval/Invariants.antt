use Rattle.std.proofs.Common.{◌≤◌, ◌+◌, ◌*◌, ℕ, max, suc, [], map, drop}
use Rattle.std.specs.List.{AllByRecursion}
use Rattle.rel_slices.specs.Thin.{value_of}
use Rattle.rel_values.specs.Values.{Fits, owed}
use Rattle.lang_model.specs.Mean.{means_by, mean_by, mean_test, run_by, looped, rounds}
use Rattle.rv_eval.specs.Around.{around_of}
use Rattle.rv_eval.specs.Values.{state_by, AllFit, names_owe, values_owe}
use Rattle.rv_eval.proofs.Going.{Goes}
use Rattle.lang_model.proofs.Weights.{weight, weight_of_args, weight_of_links, weight_stmt, weight_by, scale}
use Rattle.rv_eval.proofs.walk.+eval.Given as goal

abbrev pub decreases-call : goal.decreases-call
decreases-call g l = l.around.now.rank * scale l.around.now.checked.now.items.items

abbrev pub decreases-eval_args : goal.decreases-eval_args
decreases-eval_args g l = l.here.now.around.rank * scale l.here.now.around.checked.now.items.items + (4 * weight_of_args l.args.now + 1)

abbrev pub decreases-eval_chain : goal.decreases-eval_chain
decreases-eval_chain g l = l.here.now.around.rank * scale l.here.now.around.checked.now.items.items + (4 * (weight l.first.now + weight_of_links l.rest.now) + 3)

abbrev pub decreases-eval_expr : goal.decreases-eval_expr
decreases-eval_expr g l = l.here.now.around.rank * scale l.here.now.around.checked.now.items.items + 4 * weight l.expr.now

abbrev pub decreases-eval_links : goal.decreases-eval_links
decreases-eval_links g l = l.here.now.around.rank * scale l.here.now.around.checked.now.items.items + (4 * weight_of_links l.rest.now + 1)

abbrev pub decreases-run_program : goal.decreases-run_program
decreases-run_program g l = l.around.now.rank * scale l.around.now.checked.now.items.items + (4 * (weight_by l.body.now + weight l.last.now) + 3)

abbrev pub decreases-run_stmt : goal.decreases-run_stmt
decreases-run_stmt g l = l.around.now.rank * scale l.around.now.checked.now.items.items + 4 * weight_stmt l.stmt.now

abbrev pub decreases-run_stmts : goal.decreases-run_stmts
decreases-run_stmts g l = l.around.now.rank * scale l.around.now.checked.now.items.items + (4 * weight_by l.stmts.now + 2)

abbrev pub decreases-run_while : goal.decreases-run_while
decreases-run_while g l = l.around.now.rank * scale l.around.now.checked.now.items.items + (4 * (weight l.again.test.now + weight_by l.again.body.now) + 3)

abbrev pub decreases-test_of : goal.decreases-test_of
decreases-test_of g l = l.here.now.around.rank * scale l.here.now.around.checked.now.items.items + (4 * weight l.test.now + 1)

abbrev pub invariant-eval_args-args-2 : goal.invariant-eval_args-args-2
invariant-eval_args-args-2 g l =
    let w = g.E.Core.worker l.fn.engine in
    let v = g.E.Core.worker l.engine in
    let a = around_of l.here.around in
    let s = state_by w l.here.names.now in
    record {
      goes : Goes g.E.Core.least w v l.fn.turns l.turns (names_owe g.E.Core.least l.here.names.now) (max (values_owe g.E.Core.least l.values.items) (names_owe g.E.Core.least l.here.names.now)) (means_by a s [] l.args l.fn.turns) (means_by a s (map (value_of v) l.values.items) (drop l.arg-index l.args) l.turns);
      stands : AllByRecursion (Fits v) l.values.items;
    }

abbrev pub invariant-eval_links-links : goal.invariant-eval_links-links
invariant-eval_links-links g l =
    let w = g.E.Core.worker l.fn.engine in
    let v = g.E.Core.worker l.engine in
    let a = around_of l.here.around in
    let s = state_by w l.here.names.now in
    record {
      goes : Goes g.E.Core.least w v l.fn.turns l.turns (max (owed g.E.Core.least l.so_far) (names_owe g.E.Core.least l.here.names.now)) (max (owed g.E.Core.least l.all) (names_owe g.E.Core.least l.here.names.now)) (mean_by a s (value_of w l.so_far) l.rest l.fn.turns) (mean_by a s (value_of v l.all) (drop l.next-index l.rest) l.turns);
      stands : Fits v l.all;
    }

abbrev pub invariant-run_stmts-stmts : goal.invariant-run_stmts-stmts
invariant-run_stmts-stmts g l =
    let w = g.E.Core.worker l.fn.engine in
    let v = g.E.Core.worker l.engine in
    let a = around_of l.around in
    record {
      goes : Goes g.E.Core.least w v l.fn.turns l.turns (names_owe g.E.Core.least l.fn.names.items) (names_owe g.E.Core.least l.names.items) (run_by a l.stmts (state_by w l.fn.names.items) l.fn.turns) (run_by a (drop l.stmt-index l.stmts) (state_by v l.names.items) l.turns);
      stands : AllFit v l.names.items;
    }

abbrev pub invariant-run_while-turns : goal.invariant-run_while-turns
invariant-run_while-turns g l =
    let w = g.E.Core.worker l.fn.engine in
    let v = g.E.Core.worker l.engine in
    let a = around_of l.around in
    let test = mean_test a l.again.at l.again.test.now in
    let body = run_by a l.again.body.now in
    record {
      bound : (k : ℕ) × (l.turns ≤ k) × Goes g.E.Core.least w v l.fn.turns l.turns (names_owe g.E.Core.least l.fn.names.items) (names_owe g.E.Core.least l.names.items) (looped l.again.at test body (state_by w l.fn.names.items) l.fn.turns) (rounds l.again.at test body (suc k) (state_by v l.names.items) l.turns);
      stands : AllFit v l.names.items;
    }

abbrev pub decreases-run_while-turns : goal.decreases-run_while-turns
decreases-run_while-turns g l = l.turns
