use Rattle.std.proofs.Common.{◌≡◌, ◌≤◌, ◌+◌, ◌∙◌, ◌++◌, max, true, false, [], ◌∷◌, length, map, drop, Some, None, refl, sym, ap, subst, arith, rules}
use Rattle.std.specs.List.{AllByRecursion}
use Rattle.rel_slices.specs.Thin.{value_of}
use Rattle.rel_values.specs.Values.{Fits, owed}
use Rattle.lang_model.specs.Outcomes.{got, and_then, with_turns}
use Rattle.lang_model.specs.Mean.{mean, means_by, mean_by, based, paired, mean_test, around_with, calls_within, run, run_by, takes_arguments}
use Rattle.lang_model.specs.State.{assigned}
use Rattle.rv_eval.specs.Around.{around_of}
use Rattle.rv_eval.specs.Values.{state_by, AllFit, names_owe, values_owe}
use Rattle.rv_eval.proofs.Going.{goes_start, goes_as, goes_with, goes_on, goes_err, goes_last, goes_lack, ends_operation, first_err, first_on, only_step, refuses, ok_map, ends_noted}
use Rattle.rv_eval.proofs.Fitting.{state_kept, all_fit_kept, values_more, all_values_more, state_assigned, all_fit_assigned, all_fit_bound, ref_ends, on_ok}
use Rattle.rv_eval.proofs.Owing.{most-push}
use Rattle.rv_eval.proofs.Starting.{chain_alike, ends_alike}
use Rattle.rv_eval.specs.Turned.{linked_at_start}
use Rattle.lang_model.proofs.Weights.{weight, weight_of_args, weight_of_links, weight_stmt, weight_by, weight-call, weight-base, weight-chain, weight-while, weight-if, weight_arg, weight_link, weight_one}
use Rattle.rv_eval.proofs.Walking.{means-call, means-base, means-pair, means-minus, means-turned, means-chain, before_right, both_end, links_end, runs-set, runs-while, runs-if, before_branch}
use Rattle.rv_eval.proofs.Unfolding.{run_next}
use Rattle.rv_eval.proofs.Looping.{test_halts, loop_ends, no_turn_left, body_halts, one_round, before_link, before_operator, before_arg}
use Rattle.rv_eval.proofs.Calling.{defined, bound_err, call_missing, function_falls, program_falls, function_means, program_reads, beside_owe}
use Rattle.rv_eval.proofs.walk.+eval.Goals as goal

-- ---- calls
pub call-returns-in-Err-clause-ends : goal.call-returns-in-Err-clause-ends
call-returns-in-Err-clause-ends g t c =
    bound_err c.args.around.now.checked.now.items.items _ _ _ _ _ _ c.in-Some-Function.field-0.now _ _ _ _ c.if-around-eq0.false (defined c.args.around.now.checked.now.items.items (Some c.in-Some-Function.field-0.now) c.bytes.ensures c.in-Some-Function.ensures) (ap takes_arguments c.in-Some-Function.field-0-is ∙ ap length (sym c.as_slice.ensures.value)) c.in-Err.ensures

pub call-returns-in-Err-bound_names-clause-ends : goal.call-returns-in-Err-bound_names-clause-ends
call-returns-in-Err-bound_names-clause-ends g t c =
    bound_err c.args.around.now.checked.now.items.items _ _ _ _ _ _ c.in-Some-Program.field-0.now _ _ _ _ c.if-around-eq0.false (defined c.args.around.now.checked.now.items.items (Some c.in-Some-Program.field-0.now) c.bytes.ensures c.in-Some-Program.ensures) (ap takes_arguments c.in-Some-Program.field-0-is ∙ ap length (sym c.as_slice-in-Some-Program.ensures.value)) c.in-Err-bound_names.ensures

pub call-eval_expr-requires : goal.call-eval_expr-requires
call-eval_expr-requires g t c κs within =
    let fall = function_falls c.args.around.now.checked.now.items.items _ c.args.called.name.now c.in-Some-Function.field-0.now c.if-around-eq0.false (defined c.args.around.now.checked.now.items.items (Some c.in-Some-Function.field-0.now) c.bytes.ensures c.in-Some-Function.ensures) _ _ _ _ c.in-Some-Function.field-0-is in
    (search (rules, fall), (search rules, (subst (AllFit (g.E.Core.worker c.args.engine.now)) (sym (c.as_slice-in-Some-Function.ensures.value ∙ c.in-Ok.ensures.1)) (all_fit_bound (g.E.Core.worker c.args.engine.now) _ c.args.values.now c.requires.standing))))

pub call-run_program-requires : goal.call-run_program-requires
call-run_program-requires g t c κs within =
    let stand = subst (AllFit (g.E.Core.worker c.args.engine.now)) (sym c.in-Ok-bound_names.ensures.1) (all_fit_bound (g.E.Core.worker c.args.engine.now) _ c.args.values.now c.requires.standing) in
    (search (rules, (program_falls c.args.around.now.checked.now.items.items _ c.args.called.name.now c.in-Some-Program.field-0.now c.if-around-eq0.false (defined c.args.around.now.checked.now.items.items (Some c.in-Some-Program.field-0.now) c.bytes.ensures c.in-Some-Program.ensures) _ _ _ _ _ _ _ c.in-Some-Program.field-0-is c.as_slice-stmts.ensures.value)), (search rules, stand))

pub call-returns-in-Ok-clause-ends : goal.call-returns-in-Ok-clause-ends
call-returns-in-Ok-clause-ends g t c =
    let d = defined c.args.around.now.checked.now.items.items (Some c.in-Some-Function.field-0.now) c.bytes.ensures c.in-Some-Function.ensures in
    let bound = c.as_slice-in-Some-Function.ensures.value ∙ c.in-Ok.ensures.1 in
    only_step _ _ _ _ _ _ _ _ _ (function_means c.args.around.now.checked.now.items.items _ c.args.called.name.now c.in-Some-Function.field-0.now c.if-around-eq0.false d c.args.called.at (g.E.Core.worker c.args.engine.now) _ _ _ c.args.turns.now c.in-Ok.ensures.0 bound c.requires.standing _ _ _ _ c.in-Some-Function.field-0-is c.as_slice.ensures.value) c.eval_expr.ensures.ends (beside_owe g.E.Core.least _ _ _ bound)

pub call-returns-in-Ok-bound_names-clause-ends : goal.call-returns-in-Ok-bound_names-clause-ends
call-returns-in-Ok-bound_names-clause-ends g t c =
    let d = defined c.args.around.now.checked.now.items.items (Some c.in-Some-Program.field-0.now) c.bytes.ensures c.in-Some-Program.ensures in
    let e = program_reads c.args.around.now.checked.now.items.items _ c.args.called.name.now c.in-Some-Program.field-0.now c.if-around-eq0.false d c.args.called.at (g.E.Core.worker c.args.engine.now) _ _ _ c.args.turns.now c.in-Ok-bound_names.ensures.0 c.in-Ok-bound_names.ensures.1 c.requires.standing _ _ _ _ _ _ _ _
    c.in-Some-Program.field-0-is c.as_slice-in-Some-Program.ensures.value c.as_slice-decls.ensures.value c.as_slice-stmts.ensures.value in
    only_step _ _ _ _ _ _ _ _ _ e c.run_program.ensures.ends (beside_owe g.E.Core.least _ _ _ c.in-Ok-bound_names.ensures.1)

pub call-returns-in-None-clause-ends : goal.call-returns-in-None-clause-ends
call-returns-in-None-clause-ends g t c =
    refuses (g.E.Core.worker c.args.engine.now) c.args.turns.now _ _ _ _ _ (call_missing c.args.around.now.checked.now.items.items _ c.args.called.at c.args.called.name.now (map (value_of (g.E.Core.worker c.args.engine.now)) c.args.values.now) c.args.turns.now c.if-around-eq0.false (defined c.args.around.now.checked.now.items.items None c.bytes.ensures c.in-None.ensures)) c.unknown-in-None.ensures

-- ---- programs
pub run_program-eval_expr-requires : goal.run_program-eval_expr-requires
run_program-eval_expr-requires g t c κs within =
    (search rules, (search rules, (subst (AllFit (g.E.Core.worker c.run_stmts.new.engine)) (sym c.as_slice.ensures.value) c.in-Ok.ensures.fits)))

pub run_program-returns-in-Err-clause-ends : goal.run_program-returns-in-Err-clause-ends
run_program-returns-in-Err-clause-ends g t c =
    first_err _ _ _ _ _ _ (λ s m. mean (around_with (calls_within c.args.around.now.checked.now.items.items c.args.around.now.rank) c.args.decls.now) s c.args.last.now m) _ _ _ _ _ refl c.in-Err.ensures.ends

pub run_program-returns-clause-ends : goal.run_program-returns-clause-ends
run_program-returns-clause-ends g t c =
    let a = around_with (calls_within c.args.around.now.checked.now.items.items c.args.around.now.rank) c.args.decls.now in
    goes_last _ _ _ _ _ _ _ _ _ _ _ (goes_as _ _ _ _ _ _ _ (ap (λ xs. mean a (state_by (g.E.Core.worker c.run_stmts.new.engine) xs) c.args.last.now c.run_stmts.new.turns) (sym c.as_slice.ensures.value)) (first_on _ _ _ _ _ _ (λ s m. mean a s c.args.last.now m) _ _ _ refl c.in-Ok.ensures.ends (omega arith))) c.eval_expr.ensures.ends (omega (arith, (ap (names_owe g.E.Core.least) (sym c.as_slice.ensures.value))))

-- ---- arguments
pub eval_args-eval_expr-requires : goal.eval_args-eval_expr-requires
eval_args-eval_expr-requires g t c κs within =
    let less : weight c.arg-item.result ≤ weight_of_args c.args.args.now = weight_arg c.args.args.now c.args-2.arg-index c.arg-item.result c.arg-item.result c.args-2-test.true c.arg-item.is in
    let stand : AllFit (g.E.Core.worker c.args-2.engine) c.args.here.now.names.now = all_fit_kept (g.E.Core.worker c.args.engine.now) (g.E.Core.worker c.args-2.engine) c.args.here.now.names.now c.args-2.invariant.goes.keeps c.requires.standing in
    (search (rules, less), (search rules, stand))

pub eval_args-returns-in-Err-clause-ends : goal.eval_args-returns-in-Err-clause-ends
eval_args-returns-in-Err-clause-ends g t c =
    goes_err _ _ _ _ _ _ _ _ _ _ _ _ _ _ (before_arg (around_of c.args.here.now.around) c.args.here.now.names.now c.args-2.values.items c.args.args.now c.args-2.arg-index c.arg-item.result c.args-2-test.true c.arg-item.is c.requires.standing c.args-2.invariant.goes) c.in-Err.ensures.ends

pub eval_args-returns-in-Err-push-clause-ends : goal.eval_args-returns-in-Err-push-clause-ends
eval_args-returns-in-Err-push-clause-ends g t c =
    goes_lack _ _ _ _ _ _ _ _ (goes_on _ _ _ _ _ _ _ _ _ _ _ _ (before_arg (around_of c.args.here.now.around) c.args.here.now.names.now c.args-2.values.items c.args.args.now c.args-2.arg-index c.arg-item.result c.args-2-test.true c.arg-item.is c.requires.standing c.args-2.invariant.goes) c.in-Ok.ensures.ends (omega arith))

pub eval_args-args-2-preserved : goal.eval_args-args-2-preserved
eval_args-args-2-preserved g t c =
    let u = g.E.Core.worker c.eval_expr.new.engine in
    let rs = c.args-2.values.items in
    let vs = map (value_of (g.E.Core.worker c.args-2.engine)) rs in
    let goes = goes_on _ _ _ _ _ _ _ _ _ _ _ _ (before_arg (around_of c.args.here.now.around) c.args.here.now.names.now rs c.args.args.now c.args-2.arg-index c.arg-item.result c.args-2-test.true c.arg-item.is c.requires.standing c.args-2.invariant.goes) c.in-Ok.ensures.ends (omega arith) in
    let pushed : c.push.new.self.items ≡ rs ++ c.in-Ok.value ∷ [] = c.in-Ok-push.ensures.items in
    let leaf = g.E.Core.least in
    let start = names_owe leaf c.args.here.now.names.now in
    let owe : values_owe leaf c.push.new.self.items ≡ values_owe leaf (rs ++ c.in-Ok.value ∷ []) = ap (values_owe leaf) pushed in
    let one : values_owe leaf (rs ++ c.in-Ok.value ∷ []) ≤ max (owed leaf c.in-Ok.value) (values_owe leaf rs) = most-push (owed leaf) rs c.in-Ok.value in
    let less : max (values_owe leaf c.push.new.self.items) start ≤ max (owed leaf c.in-Ok.value) (max (values_owe leaf rs) start) = omega (arith, owe, one) in
    record {
      goes = goes_with _ _ _ _ _ _ _ less (goes_as _ _ _ _ _ _ _ (ap (λ xs. means_by (around_of c.args.here.now.around) (state_by (g.E.Core.worker c.args.engine.now) c.args.here.now.names.now) xs (drop (c.args-2.arg-index + 1) c.args.args.now) c.eval_expr.new.turns) (values_more (g.E.Core.worker c.args-2.engine) u rs c.in-Ok.value c.in-Ok.ensures.ends.keeps c.args-2.invariant.stands ∙ ap (map (value_of u)) (sym pushed))) goes);
      stands = subst (AllByRecursion (Fits u)) (sym pushed) (all_values_more (g.E.Core.worker c.args-2.engine) u rs c.in-Ok.value c.in-Ok.ensures.ends.keeps c.args-2.invariant.stands c.in-Ok.ensures.fits);
    }

-- ---- expressions
pub eval_expr-eval_args-requires : goal.eval_expr-eval_args-requires
eval_expr-eval_args-requires g t c κs within =
    let w : weight c.args.expr.now ≡ weight_of_args c.as_slice.result.now + 1 = ap weight c.in-Call.is ∙ weight-call c.in-Call.at c.in-Call.name c.in-Call.args ∙ ap (λ es. weight_of_args es + 1) (sym c.as_slice.ensures.value) in
    (search (rules, w), search (rules, c.requires.standing))

pub eval_expr-call-requires : goal.eval_expr-call-requires
eval_expr-call-requires g t c κs within =
    let w : weight c.args.expr.now ≡ weight_of_args c.in-Call.args.items + 1 = ap weight c.in-Call.is ∙ weight-call c.in-Call.at c.in-Call.name c.in-Call.args in
    let v = g.E.Core.worker c.eval_args.new.engine in
    let stand : AllByRecursion (Fits v) c.as_slice-in-Ok.result.now = subst (AllByRecursion (Fits v)) (sym c.as_slice-in-Ok.ensures.value) c.in-Ok.ensures.fits in
    (search (rules, w), (search rules, stand))

pub eval_expr-eval_args-requires-in-Base : goal.eval_expr-eval_args-requires-in-Base
eval_expr-eval_args-requires-in-Base g t c κs within =
    let w : weight c.args.expr.now ≡ weight_of_args c.as_slice-in-Base.result.now + 1 = ap weight c.in-Base.is ∙ weight-base c.in-Base.at c.in-Base.base c.in-Base.args ∙ ap (λ es. weight_of_args es + 1) (sym c.as_slice-in-Base.ensures.value) in
    (search (rules, w), search (rules, c.requires.standing))

pub eval_expr-eval_expr-requires : goal.eval_expr-eval_expr-requires
eval_expr-eval_expr-requires g t c κs within =
    let w : weight c.args.expr.now ≡ weight c.deref.result.now + weight c.in-Pair.right.value + 1 = ap weight c.in-Pair.is ∙ ap (λ x. weight x + weight c.in-Pair.right.value + 1) (sym c.deref.ensures) in
    (search (rules, w), search (rules, c.requires.standing))

pub eval_expr-eval_expr-requires-in-Ok-eval_expr : goal.eval_expr-eval_expr-requires-in-Ok-eval_expr
eval_expr-eval_expr-requires-in-Ok-eval_expr g t c κs within =
    let w : weight c.args.expr.now ≡ weight c.in-Pair.left.value + weight c.deref-in-Ok-eval_expr.result.now + 1 = ap weight c.in-Pair.is ∙ ap (λ x. weight c.in-Pair.left.value + weight x + 1) (sym c.deref-in-Ok-eval_expr.ensures) in
    (search (rules, w), search (rules, (all_fit_kept (g.E.Core.worker c.args.engine.now) (g.E.Core.worker c.eval_expr.new.engine) c.args.here.now.names.now c.in-Ok-eval_expr.ensures.ends.keeps c.requires.standing)))

pub eval_expr-eval_expr-requires-in-Minus : goal.eval_expr-eval_expr-requires-in-Minus
eval_expr-eval_expr-requires-in-Minus g t c κs within =
    let w : weight c.args.expr.now ≡ weight c.deref-in-Minus.result.now + 1 = ap weight c.in-Minus.is ∙ ap (λ x. weight x + 1) (sym c.deref-in-Minus.ensures) in
    (search (rules, w), search (rules, c.requires.standing))

pub eval_expr-eval_expr-requires-in-Turned : goal.eval_expr-eval_expr-requires-in-Turned
eval_expr-eval_expr-requires-in-Turned g t c κs within =
    let w : weight c.args.expr.now ≡ weight c.deref-in-Turned.result.now + 1 = ap weight c.in-Turned.is ∙ ap (λ x. weight x + 1) (sym c.deref-in-Turned.ensures) in
    (search (rules, w), search (rules, c.requires.standing))

pub eval_expr-returns-in-Ref-clause-ends : goal.eval_expr-returns-in-Ref-clause-ends
eval_expr-returns-in-Ref-clause-ends g t c =
    only_step _ _ _ _ _ _ _ _ _ (ap (λ x. mean (around_of c.args.here.now.around) (state_by (g.E.Core.worker c.args.engine.now) c.args.here.now.names.now) x c.args.turns.now) c.in-Ref.is) (ref_ends g.E.Core.least (g.E.Core.worker c.args.engine.now) c.args.here.now.names.now c.in-Ref.at c.in-Ref.name c.args.turns.now c.value_of_name.result c.requires.standing c.value_of_name.ensures) (omega arith)

pub eval_expr-returns-in-Ok-clause-ends : goal.eval_expr-returns-in-Ok-clause-ends
eval_expr-returns-in-Ok-clause-ends g t c =
    let e = means-call (around_of c.args.here.now.around) (state_by (g.E.Core.worker c.args.engine.now) c.args.here.now.names.now) c.args.turns.now c.args.expr.now c.in-Call.at c.in-Call.name c.in-Call.args c.as_slice.result.now c.in-Call.is c.as_slice.ensures.value in
    let owe : values_owe g.E.Core.least c.as_slice-in-Ok.result.now ≡ values_owe g.E.Core.least c.in-Ok.values.items = ap (values_owe g.E.Core.least) c.as_slice-in-Ok.ensures.value in
    goes_last _ _ _ _ _ _ _ _ _ _ _ (goes_as _ _ _ _ _ _ _ (ap (λ xs. (around_of c.args.here.now.around).calls c.in-Call.at c.in-Call.name (map (value_of (g.E.Core.worker c.eval_args.new.engine)) xs) c.eval_args.new.turns) (sym c.as_slice-in-Ok.ensures.value)) (first_on _ _ _ _ _ _ _ _ _ _ e c.in-Ok.ensures.ends (omega arith))) c.call.ensures.ends (omega (arith, owe))

pub eval_expr-returns-in-Err-clause-ends : goal.eval_expr-returns-in-Err-clause-ends
eval_expr-returns-in-Err-clause-ends g t c =
    first_err _ _ _ _ _ _ _ _ _ _ _ _ (means-call _ _ _ _ _ _ _ _ c.in-Call.is c.as_slice.ensures.value) c.in-Err.ensures.ends

pub eval_expr-returns-in-Ok-eval_args-clause-ends : goal.eval_expr-returns-in-Ok-eval_args-clause-ends
eval_expr-returns-in-Ok-eval_args-clause-ends g t c =
    let e = means-base (around_of c.args.here.now.around) (state_by (g.E.Core.worker c.args.engine.now) c.args.here.now.names.now) c.args.turns.now c.args.expr.now c.in-Base.at c.in-Base.base c.in-Base.args c.as_slice-in-Base.result.now c.in-Base.is c.as_slice-in-Base.ensures.value in
    goes_last _ _ _ _ _ _ _ _ _ _ _ (goes_as _ _ _ _ _ _ _ (ap (λ xs. with_turns (based c.in-Base.at c.in-Base.base (map (value_of (g.E.Core.worker c.eval_args-in-Base.new.engine)) xs)) c.eval_args-in-Base.new.turns) (sym c.as_slice-in-Ok-eval_args.ensures.value)) (first_on _ _ _ _ _ _ _ _ _ _ e c.in-Ok-eval_args.ensures.ends (omega arith))) (ends_operation _ _ _ _ _ _ _ c.base_call.ensures.ends) (omega arith)

pub eval_expr-returns-in-Err-eval_args-clause-ends : goal.eval_expr-returns-in-Err-eval_args-clause-ends
eval_expr-returns-in-Err-eval_args-clause-ends g t c =
    first_err _ _ _ _ _ _ _ _ _ _ _ _ (means-base _ _ _ _ _ _ _ _ c.in-Base.is c.as_slice-in-Base.ensures.value) c.in-Err-eval_args.ensures.ends

pub eval_expr-returns-in-Inject-clause-ends : goal.eval_expr-returns-in-Inject-clause-ends
eval_expr-returns-in-Inject-clause-ends g t c =
    only_step _ _ _ _ _ _ _ _ _ (ap (λ x. mean (around_of c.args.here.now.around) (state_by (g.E.Core.worker c.args.engine.now) c.args.here.now.names.now) x c.args.turns.now) c.in-Inject.is) (ends_operation _ _ _ _ _ _ _ c.inject.ensures.ends) (omega arith)

pub eval_expr-returns-in-Ok-eval_expr-2-clause-ends : goal.eval_expr-returns-in-Ok-eval_expr-2-clause-ends
eval_expr-returns-in-Ok-eval_expr-2-clause-ends g t c =
    let e = means-pair (around_of c.args.here.now.around) (state_by (g.E.Core.worker c.args.engine.now) c.args.here.now.names.now) c.args.turns.now c.args.expr.now _ _ _ _ _ c.in-Pair.is c.deref.ensures c.deref-in-Ok-eval_expr.ensures in
    both_end (around_of c.args.here.now.around) c.args.here.now.names.now (paired c.in-Pair.at) c.deref.result.now c.deref-in-Ok-eval_expr.result.now c.in-Ok-eval_expr.first c.in-Ok-eval_expr-2.second _ c.requires.standing e c.in-Ok-eval_expr.ensures.ends c.in-Ok-eval_expr.ensures.fits c.in-Ok-eval_expr-2.ensures.ends c.pair.ensures.ends

pub eval_expr-returns-in-Err-eval_expr-2-clause-ends : goal.eval_expr-returns-in-Err-eval_expr-2-clause-ends
eval_expr-returns-in-Err-eval_expr-2-clause-ends g t c =
    goes_err _ _ _ _ _ _ _ _ _ _ _ _ _ _ (before_right (around_of c.args.here.now.around) c.args.here.now.names.now (paired c.in-Pair.at) c.deref.result.now c.deref-in-Ok-eval_expr.result.now c.in-Ok-eval_expr.first c.requires.standing (means-pair (around_of c.args.here.now.around) (state_by (g.E.Core.worker c.args.engine.now) c.args.here.now.names.now) c.args.turns.now c.args.expr.now _ _ _ _ _ c.in-Pair.is c.deref.ensures c.deref-in-Ok-eval_expr.ensures) c.in-Ok-eval_expr.ensures.ends) c.in-Err-eval_expr-2.ensures.ends

pub eval_expr-returns-in-Err-eval_expr-clause-ends : goal.eval_expr-returns-in-Err-eval_expr-clause-ends
eval_expr-returns-in-Err-eval_expr-clause-ends g t c =
    first_err _ _ _ _ _ _ _ _ _ _ _ _ (means-pair _ _ _ _ _ _ _ _ _ c.in-Pair.is c.deref.ensures refl) c.in-Err-eval_expr.ensures.ends

pub eval_expr-returns-in-Ok-eval_expr-3-clause-ends : goal.eval_expr-returns-in-Ok-eval_expr-3-clause-ends
eval_expr-returns-in-Ok-eval_expr-3-clause-ends g t c =
    goes_last _ _ _ _ _ _ _ _ _ _ _ (first_on _ _ _ _ _ _ _ _ _ _ (means-minus _ _ _ _ _ _ _ c.in-Minus.is c.deref-in-Minus.ensures) c.in-Ok-eval_expr-3.ensures.ends (omega arith)) (ends_operation _ _ _ _ _ _ _ c.complement.ensures.ends) (omega arith)

pub eval_expr-returns-in-Err-eval_expr-3-clause-ends : goal.eval_expr-returns-in-Err-eval_expr-3-clause-ends
eval_expr-returns-in-Err-eval_expr-3-clause-ends g t c =
    first_err _ _ _ _ _ _ _ _ _ _ _ _ (means-minus _ _ _ _ _ _ _ c.in-Minus.is c.deref-in-Minus.ensures) c.in-Err-eval_expr-3.ensures.ends

pub eval_expr-returns-in-Ok-eval_expr-4-clause-ends : goal.eval_expr-returns-in-Ok-eval_expr-4-clause-ends
eval_expr-returns-in-Ok-eval_expr-4-clause-ends g t c =
    goes_last _ _ _ _ _ _ _ _ _ _ _ (first_on _ _ _ _ _ _ _ _ _ _ (means-turned _ _ _ _ _ _ _ _ c.in-Turned.is c.deref-in-Turned.ensures) c.in-Ok-eval_expr-4.ensures.ends (omega arith)) (ends_operation _ _ _ _ _ _ _ c.transposed.ensures.ends) (omega arith)

pub eval_expr-returns-in-Err-eval_expr-4-clause-ends : goal.eval_expr-returns-in-Err-eval_expr-4-clause-ends
eval_expr-returns-in-Err-eval_expr-4-clause-ends g t c =
    first_err _ _ _ _ _ _ _ _ _ _ _ _ (means-turned _ _ _ _ _ _ _ _ c.in-Turned.is c.deref-in-Turned.ensures) c.in-Err-eval_expr-4.ensures.ends

pub eval_expr-eval_chain-requires : goal.eval_expr-eval_chain-requires
eval_expr-eval_chain-requires g t c κs within =
    let w : weight c.args.expr.now ≡ weight c.deref-in-Chain.result.now + weight_of_links c.as_slice-in-Chain.result.now + 1 = ap weight c.in-Chain.is ∙ weight-chain c.in-Chain.first c.in-Chain.rest ∙ ap (λ x. weight x + weight_of_links c.in-Chain.rest.items + 1) (sym c.deref-in-Chain.ensures) ∙ ap (λ ls. weight c.deref-in-Chain.result.now + weight_of_links ls + 1) (sym c.as_slice-in-Chain.ensures.value) in
    (search (rules, w), search (rules, c.requires.standing))

pub eval_expr-returns-in-Chain-clause-ends : goal.eval_expr-returns-in-Chain-clause-ends
eval_expr-returns-in-Chain-clause-ends g t c =
    only_step _ _ _ _ _ _ _ _ _ (means-chain _ _ _ _ _ _ _ _ c.in-Chain.is c.deref-in-Chain.ensures c.as_slice-in-Chain.ensures.value) c.eval_chain.ensures.ends (omega arith)

-- ---- chains
pub eval_chain-eval_expr-requires-in-Ok : goal.eval_chain-eval_expr-requires-in-Ok
eval_chain-eval_expr-requires-in-Ok g t c κs within =
    let w : weight_of_links c.args.rest.now ≡ weight c.in-Some.start.link.now.right + weight_of_links c.in-Some.start.more.now = ap weight_of_links c.in-Some.ensures.links in
    (search (rules, w), search (rules, (all_fit_kept (g.E.Core.worker c.args.engine.now) (g.E.Core.worker c.eval_expr.new.engine) c.args.here.now.names.now c.in-Ok.ensures.ends.keeps c.requires.standing)))

pub eval_chain-eval_links-requires : goal.eval_chain-eval_links-requires
eval_chain-eval_links-requires g t c κs within =
    let w : weight_of_links c.args.rest.now ≡ weight c.in-Some.start.link.now.right + weight_of_links c.in-Some.start.more.now = ap weight_of_links c.in-Some.ensures.links in
    let u = g.E.Core.worker c.eval_expr.new.engine in
    let v = g.E.Core.worker c.eval_expr-in-Ok.new.engine in
    let stand = all_fit_kept u v c.args.here.now.names.now c.in-Ok-eval_expr.ensures.ends.keeps (all_fit_kept (g.E.Core.worker c.args.engine.now) u c.args.here.now.names.now c.in-Ok.ensures.ends.keeps c.requires.standing) in
    (search (rules, w), search (rules, (all_fit_kept v (g.E.Core.worker c.link_turned.new.engine) c.args.here.now.names.now c.in-Ok-link_turned.ensures.ends.keeps stand), c.in-Ok-link_turned.ensures.fits))

pub eval_chain-eval_links-requires-in-Ok-eval_expr-2 : goal.eval_chain-eval_links-requires-in-Ok-eval_expr-2
eval_chain-eval_links-requires-in-Ok-eval_expr-2 g t c κs within =
    (search rules, search (rules, (all_fit_kept (g.E.Core.worker c.args.engine.now) (g.E.Core.worker c.eval_expr-in-None.new.engine) c.args.here.now.names.now c.in-Ok-eval_expr-2.ensures.ends.keeps c.requires.standing), c.in-Ok-eval_expr-2.ensures.fits))

pub eval_chain-returns-in-Ok-link_turned-clause-ends : goal.eval_chain-returns-in-Ok-link_turned-clause-ends
eval_chain-returns-in-Ok-link_turned-clause-ends g t c =
    ends_alike _ (chain_alike (around_of c.args.here.now.around) (state_by (g.E.Core.worker c.args.engine.now) c.args.here.now.names.now) c.args.first.now c.args.rest.now c.in-Some.start c.args.turns.now g.E.Core.least c.in-Some.ensures)
    (links_end (around_of c.args.here.now.around) c.args.here.now.names.now c.in-Some.start.more.now c.in-Ok-link_turned.value _ c.requires.standing (both_end (around_of c.args.here.now.around) c.args.here.now.names.now (linked_at_start c.in-Some.start) c.in-Some.start.of.now c.in-Some.start.link.now.right c.in-Ok.left c.in-Ok-eval_expr.right _ c.requires.standing refl c.in-Ok.ensures.ends c.in-Ok.ensures.fits c.in-Ok-eval_expr.ensures.ends c.in-Ok-link_turned.ensures.ends) c.eval_links.ensures.ends)

pub eval_chain-returns-in-Err-link_turned-clause-ends : goal.eval_chain-returns-in-Err-link_turned-clause-ends
eval_chain-returns-in-Err-link_turned-clause-ends g t c =
    ends_alike _ (chain_alike (around_of c.args.here.now.around) (state_by (g.E.Core.worker c.args.engine.now) c.args.here.now.names.now) c.args.first.now c.args.rest.now c.in-Some.start c.args.turns.now g.E.Core.least c.in-Some.ensures)
    (first_err _ _ _ _ _ _ (λ r m. mean_by (around_of c.args.here.now.around) (state_by (g.E.Core.worker c.args.engine.now) c.args.here.now.names.now) r c.in-Some.start.more.now m) _ _ _ _ _ refl (both_end (around_of c.args.here.now.around) c.args.here.now.names.now (linked_at_start c.in-Some.start) c.in-Some.start.of.now c.in-Some.start.link.now.right c.in-Ok.left c.in-Ok-eval_expr.right _ c.requires.standing refl c.in-Ok.ensures.ends c.in-Ok.ensures.fits c.in-Ok-eval_expr.ensures.ends c.in-Err-link_turned.ensures.ends))

pub eval_chain-returns-in-Err-eval_expr-clause-ends : goal.eval_chain-returns-in-Err-eval_expr-clause-ends
eval_chain-returns-in-Err-eval_expr-clause-ends g t c =
    ends_alike _ (chain_alike (around_of c.args.here.now.around) (state_by (g.E.Core.worker c.args.engine.now) c.args.here.now.names.now) c.args.first.now c.args.rest.now c.in-Some.start c.args.turns.now g.E.Core.least c.in-Some.ensures)
    (first_err _ _ _ _ _ _ (λ r m. mean_by (around_of c.args.here.now.around) (state_by (g.E.Core.worker c.args.engine.now) c.args.here.now.names.now) r c.in-Some.start.more.now m) _ _ _ _ _ refl (goes_err _ _ _ _ _ _ _ _ _ _ _ (value_of (g.E.Core.worker c.eval_expr-in-Ok.new.engine)) (owed g.E.Core.least) _ (before_right (around_of c.args.here.now.around) c.args.here.now.names.now (linked_at_start c.in-Some.start) c.in-Some.start.of.now c.in-Some.start.link.now.right c.in-Ok.left c.requires.standing refl c.in-Ok.ensures.ends) c.in-Err-eval_expr.ensures.ends))

pub eval_chain-returns-in-Ok-eval_expr-2-clause-ends : goal.eval_chain-returns-in-Ok-eval_expr-2-clause-ends
eval_chain-returns-in-Ok-eval_expr-2-clause-ends g t c =
    links_end (around_of c.args.here.now.around) c.args.here.now.names.now c.args.rest.now c.in-Ok-eval_expr-2.value _ c.requires.standing c.in-Ok-eval_expr-2.ensures.ends c.eval_links-in-Ok-eval_expr-2.ensures.ends

pub eval_links-links-init : goal.eval_links-links-init
eval_links-links-init g t c =
    record { goes = goes_start (g.E.Core.worker c.args.engine.now) c.args.turns.now _ (mean_by (around_of c.args.here.now.around) (state_by (g.E.Core.worker c.args.engine.now) c.args.here.now.names.now) (value_of (g.E.Core.worker c.args.engine.now) c.args.so_far.now) c.args.rest.now c.args.turns.now); stands = c.requires.value }

pub eval_links-eval_expr-requires : goal.eval_links-eval_expr-requires
eval_links-eval_expr-requires g t c κs within =
    let ls = c.args.rest.now in
    let less : weight c.next-item.result.right ≤ weight_of_links ls = weight_link ls c.links.next-index c.next-item.result c.next-item.result c.links-test.true c.next-item.is in
    let stand : AllFit (g.E.Core.worker c.links.engine) c.args.here.now.names.now = all_fit_kept (g.E.Core.worker c.args.engine.now) (g.E.Core.worker c.links.engine) c.args.here.now.names.now c.links.invariant.goes.keeps c.requires.standing in
    (search (rules, less), search (rules, stand))

pub eval_links-returns-in-Err-clause-ends : goal.eval_links-returns-in-Err-clause-ends
eval_links-returns-in-Err-clause-ends g t c =
    goes_err _ _ _ _ _ _ _ _ _ _ _ _ _ _ (before_link (around_of c.args.here.now.around) c.args.here.now.names.now _ _ _ _ c.links-test.true c.next-item.is c.requires.standing c.links.invariant.stands c.links.invariant.goes) c.in-Err.ensures.ends

pub eval_links-returns-in-Err-link-clause-ends : goal.eval_links-returns-in-Err-link-clause-ends
eval_links-returns-in-Err-link-clause-ends g t c =
    goes_err _ _ _ _ _ _ _ _ _ _ _ _ _ _ (before_operator (around_of c.args.here.now.around) c.args.here.now.names.now _ _ _ _ c.links-test.true c.next-item.is c.requires.standing c.links.invariant.stands c.links.invariant.goes _ c.in-Ok.ensures.ends) (ends_operation _ _ _ _ _ _ _ c.in-Err-link.ensures.ends)

pub eval_links-links-preserved : goal.eval_links-links-preserved
eval_links-links-preserved g t c =
    record { goes = goes_with _ _ _ _ _ _ _ (omega arith) (goes_on _ _ _ _ _ _ _ _ _ _ _ _ (before_operator (around_of c.args.here.now.around) c.args.here.now.names.now _ _ _ _ c.links-test.true c.next-item.is c.requires.standing c.links.invariant.stands c.links.invariant.goes _ c.in-Ok.ensures.ends) (ends_operation _ _ _ _ _ _ _ c.in-Ok-link.ensures.ends) (omega arith)); stands = c.in-Ok-link.ensures.fits }

-- ---- statements
pub run_stmt-returns-in-Err-clause-ends : goal.run_stmt-returns-in-Err-clause-ends
run_stmt-returns-in-Err-clause-ends g t c =
    first_err _ _ _ _ _ _ _ _ _ _ _ _ (runs-set (around_of c.args.around.now) (g.E.Core.worker c.args.engine.now) c.args.names.now.items c.args.turns.now c.args.stmt.now _ _ _ _ c.in-Set.is c.as_slice.ensures.value) c.in-Err.ensures.ends

pub run_stmt-run_while-requires : goal.run_stmt-run_while-requires
run_stmt-run_while-requires g t c κs within =
    let w : weight_stmt c.args.stmt.now ≡ weight c.in-While.test + weight_by c.as_slice-in-While.result.now + 1 = ap weight_stmt c.in-While.is ∙ weight-while c.in-While.at c.in-While.test c.in-While.body ∙ ap (λ ss. weight c.in-While.test + weight_by ss + 1) (sym c.as_slice-in-While.ensures.value) in
    (search (rules, w), (search rules, c.requires.standing))

pub run_stmt-returns-in-Err-test_of-clause-ends : goal.run_stmt-returns-in-Err-test_of-clause-ends
run_stmt-returns-in-Err-test_of-clause-ends g t c =
    first_err _ _ _ _ _ _ _ _ _ _ _ _ (runs-if (around_of c.args.around.now) (g.E.Core.worker c.args.engine.now) c.args.names.now.items c.args.turns.now c.args.stmt.now _ _ _ _ _ _ _ c.in-If.is c.as_slice-in-If.ensures.value refl refl) c.in-Err-test_of.ensures.ends

pub run_stmt-run_stmts-requires : goal.run_stmt-run_stmts-requires
run_stmt-run_stmts-requires g t c κs within =
    let v = g.E.Core.worker c.test_of.new.engine in
    let all : weight_stmt c.args.stmt.now ≡ weight c.in-If.test + (weight_by c.in-If.yes.items + weight_by c.in-If.no.items) + 1 = ap weight_stmt c.in-If.is ∙ weight-if c.in-If.at c.in-If.test c.in-If.yes c.in-If.no in
    let part : weight_by c.as_slice-stmts.result.now ≡ weight_by c.in-If.yes.items = ap weight_by c.as_slice-stmts.ensures.value in
    let stand : AllFit v c.args.names.now.items = all_fit_kept (g.E.Core.worker c.args.engine.now) v c.args.names.now.items c.in-Ok-test_of.ensures.ends.keeps c.requires.standing in
    (search (rules, all, part), (search rules, stand))

pub run_stmt-run_stmts-requires-else-holds : goal.run_stmt-run_stmts-requires-else-holds
run_stmt-run_stmts-requires-else-holds g t c κs within =
    let v = g.E.Core.worker c.test_of.new.engine in
    let all : weight_stmt c.args.stmt.now ≡ weight c.in-If.test + (weight_by c.in-If.yes.items + weight_by c.in-If.no.items) + 1 = ap weight_stmt c.in-If.is ∙ weight-if c.in-If.at c.in-If.test c.in-If.yes c.in-If.no in
    let part : weight_by c.as_slice-stmts-else-holds.result.now ≡ weight_by c.in-If.no.items = ap weight_by c.as_slice-stmts-else-holds.ensures.value in
    let stand : AllFit v c.args.names.now.items = all_fit_kept (g.E.Core.worker c.args.engine.now) v c.args.names.now.items c.in-Ok-test_of.ensures.ends.keeps c.requires.standing in
    (search (rules, all, part), (search rules, stand))

pub run_stmt-returns-in-Ok-clause-ends : goal.run_stmt-returns-in-Ok-clause-ends
run_stmt-returns-in-Ok-clause-ends g t c =
    let w = g.E.Core.worker c.args.engine.now in
    let a = around_of c.args.around.now in
    let s = state_by w c.args.names.now.items in
    let e : run a c.args.stmt.now s c.args.turns.now ≡ and_then (mean a (state_by w c.as_slice.result.now) c.in-Set.value c.args.turns.now) (λ r m. got (assigned c.in-Set.name r s) m) =
    ap (λ x. run a x s c.args.turns.now) c.in-Set.is ∙ ap (λ xs. and_then (mean a (state_by w xs) c.in-Set.value c.args.turns.now) (λ r m. got (assigned c.in-Set.name r s) m)) (sym c.as_slice.ensures.value) in
    let u = g.E.Core.worker c.eval_expr.new.engine in
    let kept : s ≡ state_by u c.args.names.now.items = sym (state_kept w u c.args.names.now.items c.in-Ok.ensures.ends.keeps c.requires.standing) in
    let owe : names_owe g.E.Core.least c.as_slice.result.now ≡ names_owe g.E.Core.least c.args.names.now.items = ap (names_owe g.E.Core.least) c.as_slice.ensures.value in
    let noted = ok_map c.assign.result (state_assigned u c.args.names.now.items c.assign.new.names.items c.in-Set.name c.in-Ok.own c.in-Ok.ensures.fits) c.assign.ensures.assigned in
    ends_noted _ _ _ _ _ _ _ _ c.assign.result noted (ok_map c.assign.result (λ f. f g.E.Core.least) c.assign.ensures.owes) c.assign.ensures.memory (goes_as _ _ _ _ _ _ _ (ap (λ x. got (assigned c.in-Set.name (value_of u c.in-Ok.own) x) c.eval_expr.new.turns) kept) (first_on _ _ _ _ _ _ _ _ _ _ e c.in-Ok.ensures.ends (omega (arith, owe))))

pub run_stmt-returns-in-While-clause-ends : goal.run_stmt-returns-in-While-clause-ends
run_stmt-returns-in-While-clause-ends g t c =
    only_step _ _ _ _ _ _ _ _ _ (runs-while (around_of c.args.around.now) (g.E.Core.worker c.args.engine.now) c.args.names.now.items c.args.turns.now c.args.stmt.now _ _ _ _ c.in-While.is c.as_slice-in-While.ensures.value) c.run_while.ensures.ends (omega arith)

pub run_stmt-returns-then-holds-clause-ends : goal.run_stmt-returns-then-holds-clause-ends
run_stmt-returns-then-holds-clause-ends g t c =
    let e = runs-if (around_of c.args.around.now) (g.E.Core.worker c.args.engine.now) c.args.names.now.items c.args.turns.now c.args.stmt.now c.as_slice-in-If.result.now _ _ _ _ c.as_slice-stmts.result.now _ c.in-If.is c.as_slice-in-If.ensures.value c.as_slice-stmts.ensures.value refl in
    goes_last _ _ _ _ _ _ _ _ _ _ _ (before_branch (around_of c.args.around.now) c.args.names.now.items _ c.in-If.at c.in-If.test c.as_slice-stmts.result.now c.in-If.no.items _ true c.requires.standing c.as_slice-in-If.ensures.value c.if-holds.true e c.in-Ok-test_of.ensures.ends) c.run_stmts.ensures.ends (omega arith)

pub run_stmt-returns-else-holds-clause-ends : goal.run_stmt-returns-else-holds-clause-ends
run_stmt-returns-else-holds-clause-ends g t c =
    let e = runs-if (around_of c.args.around.now) (g.E.Core.worker c.args.engine.now) c.args.names.now.items c.args.turns.now c.args.stmt.now c.as_slice-in-If.result.now _ _ _ _ _ c.as_slice-stmts-else-holds.result.now c.in-If.is c.as_slice-in-If.ensures.value refl c.as_slice-stmts-else-holds.ensures.value in
    goes_last _ _ _ _ _ _ _ _ _ _ _ (before_branch (around_of c.args.around.now) c.args.names.now.items _ c.in-If.at c.in-If.test c.in-If.yes.items c.as_slice-stmts-else-holds.result.now _ false c.requires.standing c.as_slice-in-If.ensures.value c.if-holds.false e c.in-Ok-test_of.ensures.ends) c.run_stmts-else-holds.ensures.ends (omega arith)

pub run_stmts-run_stmt-requires : goal.run_stmts-run_stmt-requires
run_stmts-run_stmt-requires g t c κs within =
    let w = g.E.Core.worker c.args.engine.now in
    let less : weight_stmt c.stmt-item.result ≤ weight_by c.args.stmts.now = weight_one c.args.stmts.now c.stmts.stmt-index c.stmt-item.result c.stmt-item.result c.stmts-test.true c.stmt-item.is in
    (search (rules, less), (search rules, c.stmts.invariant.stands))

pub run_stmts-returns-in-Err-clause-ends : goal.run_stmts-returns-in-Err-clause-ends
run_stmts-returns-in-Err-clause-ends g t c =
    goes_err _ _ _ _ _ _ _ _ _ _ _ _ _ _ (goes_as _ _ _ _ _ _ _ (run_next (around_of c.args.around.now) c.args.stmts.now c.stmts.stmt-index c.stmt-item.result (state_by (g.E.Core.worker c.stmts.engine) c.stmts.names.items) c.stmts.turns c.stmts-test.true c.stmt-item.is) c.stmts.invariant.goes) c.in-Err.ensures.ends

pub run_stmts-stmts-preserved : goal.run_stmts-stmts-preserved
run_stmts-stmts-preserved g t c =
    record { goes = goes_with _ _ _ _ _ _ _ (omega arith) (goes_on _ _ _ _ _ _ _ _ _ _ _ _ (goes_as _ _ _ _ _ _ _ (run_next (around_of c.args.around.now) c.args.stmts.now c.stmts.stmt-index c.stmt-item.result (state_by (g.E.Core.worker c.stmts.engine) c.stmts.names.items) c.stmts.turns c.stmts-test.true c.stmt-item.is) c.stmts.invariant.goes) c.in-Ok.ensures.ends (omega arith)); stands = c.in-Ok.ensures.fits }

-- ---- loops
pub run_while-turns-init : goal.run_while-turns-init
run_while-turns-init g t c =
    record { bound = (c.args.turns.now, omega arith, goes_start _ _ _ _); stands = c.requires.standing }

pub run_while-returns-in-Err-clause-ends : goal.run_while-returns-in-Err-clause-ends
run_while-returns-in-Err-clause-ends g t c =
    test_halts c.args.again.at (mean_test (around_of c.args.around.now) c.args.again.at c.args.again.test.now) (run_by (around_of c.args.around.now) c.args.again.body.now) c.turns.invariant.bound.0 c.as_slice.ensures.value c.turns.invariant.stands c.turns.invariant.bound.2 _ _ _ _ _ c.in-Err.ensures.ends

pub run_while-returns-then-not-holds-clause-ends : goal.run_while-returns-then-not-holds-clause-ends
run_while-returns-then-not-holds-clause-ends g t c =
    loop_ends c.args.again.at (mean_test (around_of c.args.around.now) c.args.again.at c.args.again.test.now) (run_by (around_of c.args.around.now) c.args.again.body.now) c.turns.invariant.bound.0 c.as_slice.ensures.value c.turns.invariant.stands c.turns.invariant.bound.2 _ c.in-Ok.ensures.ends _ c.if-not-holds.true

pub run_while-returns-then-turns-eq0-clause-ends : goal.run_while-returns-then-turns-eq0-clause-ends
run_while-returns-then-turns-eq0-clause-ends g t c =
    no_turn_left c.args.again.at (mean_test (around_of c.args.around.now) c.args.again.at c.args.again.test.now) (run_by (around_of c.args.around.now) c.args.again.body.now) c.turns.invariant.bound.0 c.as_slice.ensures.value c.turns.invariant.stands c.turns.invariant.bound.2 _ c.in-Ok.ensures.ends _ _ c.if-not-holds.false c.if-turns-eq0.true

pub run_while-turns-preserved : goal.run_while-turns-preserved
run_while-turns-preserved g t c =
    let l = c.turns.invariant in
    record {
      bound = one_round c.args.again.at (mean_test (around_of c.args.around.now) c.args.again.at c.args.again.test.now) (run_by (around_of c.args.around.now) c.args.again.body.now) l.bound.0 c.as_slice.ensures.value l.stands l.bound.2 _ c.in-Ok.ensures.ends _ _ c.if-not-holds.false c.if-turns-eq0.false l.bound.1 c.in-Ok-run_stmts.ensures.ends;
      stands = c.in-Ok-run_stmts.ensures.fits;
    }

pub run_while-returns-in-Err-run_stmts-clause-ends : goal.run_while-returns-in-Err-run_stmts-clause-ends
run_while-returns-in-Err-run_stmts-clause-ends g t c =
    body_halts c.args.again.at (mean_test (around_of c.args.around.now) c.args.again.at c.args.again.test.now) (run_by (around_of c.args.around.now) c.args.again.body.now) c.turns.invariant.bound.0 c.as_slice.ensures.value c.turns.invariant.stands c.turns.invariant.bound.2 _ c.in-Ok.ensures.ends _ _ _ _ _ _ _ c.if-not-holds.false c.if-turns-eq0.false c.in-Err-run_stmts.ensures.ends

-- ---- what stands
pub run_stmt-returns-in-Ok-clause-fits : goal.run_stmt-returns-in-Ok-clause-fits
run_stmt-returns-in-Ok-clause-fits g t c =
    let v = g.E.Core.worker c.eval_expr.new.engine in
    on_ok c.assign.result (all_fit_assigned v c.args.names.now.items c.assign.new.names.items c.in-Set.name c.in-Ok.own c.in-Ok.ensures.fits
    (all_fit_kept (g.E.Core.worker c.args.engine.now) v c.args.names.now.items c.in-Ok.ensures.ends.keeps c.requires.standing)) c.assign.ensures.assigned

pub run_while-returns-then-not-holds-clause-fits : goal.run_while-returns-then-not-holds-clause-fits
run_while-returns-then-not-holds-clause-fits g t c =
    all_fit_kept (g.E.Core.worker c.turns.engine) (g.E.Core.worker c.test_of.new.engine) c.turns.names.items c.test_of.ensures.ends.keeps c.turns.invariant.stands

pub run_while-run_stmts-requires : goal.run_while-run_stmts-requires
run_while-run_stmts-requires g t c κs within = (
  search rules,
  (search rules, all_fit_kept (g.E.Core.worker c.turns.engine) (g.E.Core.worker c.test_of.new.engine) c.turns.names.items c.test_of.ensures.ends.keeps c.turns.invariant.stands),
)

pub run_stmt-eval_expr-requires : goal.run_stmt-eval_expr-requires
run_stmt-eval_expr-requires g t c κs within =
    let own : weight_stmt c.args.stmt.now ≡ weight c.in-Set.value + 1 = ap weight_stmt c.in-Set.is in
    let stand : AllFit (g.E.Core.worker c.args.engine.now) c.as_slice.result.now = subst (AllFit (g.E.Core.worker c.args.engine.now)) (sym c.as_slice.ensures.value) c.requires.standing in
    (search (rules, own), (search rules, stand))

pub run_stmt-test_of-requires : goal.run_stmt-test_of-requires
run_stmt-test_of-requires g t c κs within =
    let all : weight_stmt c.args.stmt.now ≡ weight c.in-If.test + (weight_by c.in-If.yes.items + weight_by c.in-If.no.items) + 1 = ap weight_stmt c.in-If.is ∙ weight-if c.in-If.at c.in-If.test c.in-If.yes c.in-If.no in
    let stand : AllFit (g.E.Core.worker c.args.engine.now) c.as_slice-in-If.result.now = subst (AllFit (g.E.Core.worker c.args.engine.now)) (sym c.as_slice-in-If.ensures.value) c.requires.standing in
    (search (rules, all), (search rules, stand))

pub run_while-test_of-requires : goal.run_while-test_of-requires
run_while-test_of-requires g t c κs within =
    let stand : AllFit (g.E.Core.worker c.turns.engine) c.as_slice.result.now = subst (AllFit (g.E.Core.worker c.turns.engine)) (sym c.as_slice.ensures.value) c.turns.invariant.stands in
    (search rules, (search rules, stand))
