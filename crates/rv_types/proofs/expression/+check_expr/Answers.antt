use Rattle.std.proofs.Common.{◌∙◌, length, drop, ◌+◌, sym, ap}
use Rattle.lang_model.specs.Checking.{among, faults, call_faults}
use Rattle.rv_types.specs.Found.{told, noted}
use Rattle.rv_types.specs.Scopes.{scope_of}
use Rattle.rv_types.specs.Rows.{faults_of_args, faults_of_links}
use Rattle.rv_types.proofs.Walks.{faults-call, faults-base, faults-chain, noted-append, noted-arg, noted-link}
use Rattle.rv_types.proofs.expression.+check_expr.Goals as goal

pub call_args-init : goal.call_args-init
call_args-init t c =
    let S = scope_of c.args.scope.now in
    let A = among c.args.assigned.now in
    let t0 = told c.args.so_far in
    let es = c.in-Call.args.items in
    ap (λ e. noted t0 (faults S A e)) c.in-Call.is ∙ ap (noted t0) (faults-call S A c.in-Call.at c.in-Call.name c.in-Call.args)
    ∙ noted-append t0 (call_faults S c.in-Call.at c.in-Call.name (length es)) (faults_of_args S A es)
    ∙ (λ i. noted ((ap (λ xs. noted t0 (call_faults S c.in-Call.at c.in-Call.name (length xs))) (sym c.as_slice-given.ensures.value) ∙ sym c.check_call-first.ensures) i) (faults_of_args S A (sym c.as_slice-given.ensures.value i)))

pub call_args-preserved : goal.call_args-preserved
call_args-preserved t c =
    let S = scope_of c.args.scope.now in
    let A = among c.args.assigned.now in
    c.call_args.invariant ∙ noted-arg S A (told c.call_args.first) c.as_slice-given.result.now c.call_args.arg-index c.arg-item.result c.call_args-test.true c.arg-item.is
    ∙ ap (λ u. noted u (faults_of_args S A (drop (c.call_args.arg-index + 1) c.as_slice-given.result.now))) (sym c.check_expr-first.ensures)

pub base_args-init : goal.base_args-init
base_args-init t c =
    let S = scope_of c.args.scope.now in
    let A = among c.args.assigned.now in
    let t0 = told c.args.so_far in
    ap (λ e. noted t0 (faults S A e)) c.in-Base.is ∙ ap (noted t0) (faults-base S A c.in-Base.at c.in-Base.base c.in-Base.args ∙ ap (faults_of_args S A) (sym c.as_slice-base_arg-items.ensures.value))

pub base_args-preserved : goal.base_args-preserved
base_args-preserved t c =
    let S = scope_of c.args.scope.now in
    let A = among c.args.assigned.now in
    c.base_args.invariant ∙ noted-arg S A (told c.base_args.first) c.as_slice-base_arg-items.result.now c.base_args.base_arg-index c.base_arg-item.result c.base_args-test.true c.base_arg-item.is
    ∙ ap (λ u. noted u (faults_of_args S A (drop (c.base_args.base_arg-index + 1) c.as_slice-base_arg-items.result.now))) (sym c.check_expr-first-in-base_args.ensures)

pub links-init : goal.links-init
links-init t c =
    let S = scope_of c.args.scope.now in
    let A = among c.args.assigned.now in
    let t0 = told c.args.so_far in
    ap (λ e. noted t0 (faults S A e)) c.in-Chain.is ∙ ap (noted t0) (faults-chain S A c.in-Chain.first c.in-Chain.rest)
    ∙ noted-append t0 (faults S A c.in-Chain.first.value) (faults_of_links S A c.in-Chain.rest.items)
    ∙ (λ i. noted ((ap (λ e. noted t0 (faults S A e)) (sym c.deref-in-Chain.ensures) ∙ sym c.check_expr-found.ensures) i) (faults_of_links S A (sym c.as_slice-link-items.ensures.value i)))

pub links-preserved : goal.links-preserved
links-preserved t c =
    let S = scope_of c.args.scope.now in
    let A = among c.args.assigned.now in
    c.links.invariant ∙ noted-link S A (told c.links.found) c.as_slice-link-items.result.now c.links.link-index c.link-item.result c.links-test.true c.link-item.is
    ∙ ap (λ u. noted u (faults_of_links S A (drop (c.links.link-index + 1) c.as_slice-link-items.result.now))) (sym c.check_expr-found-in-links.ensures)

pub returns-in-Pair : goal.returns-in-Pair
returns-in-Pair t c =
    let S = scope_of c.args.scope.now in
    let A = among c.args.assigned.now in
    let t0 = told c.args.so_far in
    let left = c.in-Pair.left.value in
    let right = c.in-Pair.right.value in
    c.check_expr.ensures ∙ (λ i. noted (c.check_expr-first-in-Pair.ensures i) (faults S A (c.deref-in-Pair.ensures i))) ∙ ap (λ e. noted (noted t0 (faults S A e)) (faults S A right)) c.deref.ensures
    ∙ sym (noted-append t0 (faults S A left) (faults S A right)) ∙ ap (λ e. noted t0 (faults S A e)) (sym c.in-Pair.is)
