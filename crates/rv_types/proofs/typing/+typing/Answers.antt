use Rattle.std.proofs.Common.{◌≡◌, ◌≤◌, ◌+◌, ◌-◌, ◌∙◌, [], drop, Some, None, refl, sym, ap, subst, rules}
use Rattle.std.proofs.Math.ListN.{drop_of_length-le}
use Rattle.lang_model.specs.Types.{Fits, typed_pair, type_turned_by}
use Rattle.lang_model.specs.Shape.{passing, shape, shape_test, types_of_calls, around_types, typed_based, typed_behind, typed_by, set_type}
use Rattle.rv_types.specs.Defining.{IsDefinition}
use Rattle.rv_types.specs.Shaping.{types_of, shapes_by, shape_by}
use Rattle.rv_types.specs.Around.{around_of}
use Rattle.rv_types.proofs.Passing.{goes_on, goes_err, goes_last, goes_not}
use Rattle.lang_model.proofs.Weights.{weight, weight_of_args, weight_of_links, weight_stmt, weight_by, weight-call, weight-base, weight-chain, weight-while, weight-if, weight_arg, weight_link, weight_one}
use Rattle.rv_types.proofs.Unfolding.{shape-call, shape-base, shape-chain, behind-while, behind-if, arg_next, link_next, stmt_next}
use Rattle.rv_types.proofs.Calling.{calls_function, calls_program, calls_missing, function_falls, program_falls}
use Rattle.rv_types.proofs.typing.+typing.Goals as goal

-- ---- calls
pub type_of_call-type_of_expr-requires : goal.type_of_call-type_of_expr-requires
type_of_call-type_of_expr-requires t c =
    let items = c.args.around.now.checked.now.items.items in
    let d = subst (λ x. IsDefinition items x (Some c.in-Some-Function.field-0.now)) c.bytes.ensures c.in-Some-Function.ensures in
    let fall = function_falls items c.args.around.now.rank c.args.name.now c.in-Some-Function.field-0.now c.if-around-eq0.false d _ _ _ _ c.in-Some-Function.field-0-is in
    (search (rules, fall), tt)

pub type_of_call-returns-in-Ok : goal.type_of_call-returns-in-Ok
type_of_call-returns-in-Ok t c =
    let items = c.args.around.now.checked.now.items.items in
    let calls = types_of_calls items (c.args.around.now.rank - 1) in
    let d = subst (λ x. IsDefinition items x (Some c.in-Some-Function.field-0.now)) c.bytes.ensures c.in-Some-Function.ensures in
    let e = calls_function items c.args.around.now.rank c.args.name.now c.in-Some-Function.field-0.now c.if-around-eq0.false d c.args.at c.args.given.now _ _ _ _ c.as_slice.result.now c.in-Some-Function.field-0-is c.as_slice.ensures.value in
    let here = goes_on _ _ _ _ e c.in-Ok.ensures ∙ ap (λ ns. shape (around_types calls []) (types_of ns) c.in-Some-Function.body) (sym c.as_slice-in-Ok.ensures.value) in
    goes_last _ _ _ _ here c.type_of_expr.ensures

pub type_of_call-returns-in-Err : goal.type_of_call-returns-in-Err
type_of_call-returns-in-Err t c =
    let items = c.args.around.now.checked.now.items.items in
    let d = subst (λ x. IsDefinition items x (Some c.in-Some-Function.field-0.now)) c.bytes.ensures c.in-Some-Function.ensures in
    let e = calls_function items c.args.around.now.rank c.args.name.now c.in-Some-Function.field-0.now c.if-around-eq0.false d c.args.at c.args.given.now _ _ _ _ c.as_slice.result.now c.in-Some-Function.field-0-is c.as_slice.ensures.value in
    goes_err _ _ _ _ e c.in-Err.ensures

pub type_of_call-type_of_program-requires : goal.type_of_call-type_of_program-requires
type_of_call-type_of_program-requires t c =
    let items = c.args.around.now.checked.now.items.items in
    let d = subst (λ x. IsDefinition items x (Some c.in-Some-Program.field-0.now)) c.bytes.ensures c.in-Some-Program.ensures in
    let fall = program_falls items c.args.around.now.rank c.args.name.now c.in-Some-Program.field-0.now c.if-around-eq0.false d _ _ _ _ _ _ c.as_slice-in-Ok-with_arguments.result.now c.in-Some-Program.field-0-is c.as_slice-in-Ok-with_arguments.ensures.value in
    (search (rules, fall), tt)

pub type_of_call-returns-in-Ok-with_arguments : goal.type_of_call-returns-in-Ok-with_arguments
type_of_call-returns-in-Ok-with_arguments t c =
    let items = c.args.around.now.checked.now.items.items in
    let ds = c.as_slice-in-Some-Program.result.now in
    let d = subst (λ x. IsDefinition items x (Some c.in-Some-Program.field-0.now)) c.bytes.ensures c.in-Some-Program.ensures in
    let e = calls_program items c.args.around.now.rank c.args.name.now c.in-Some-Program.field-0.now c.if-around-eq0.false d c.args.at c.args.given.now _ _ _ _ _ _ c.as_slice-in-Some-Program-2.result.now ds c.as_slice-in-Ok-with_arguments.result.now c.in-Some-Program.field-0-is c.as_slice-in-Some-Program-2.ensures.value c.as_slice-in-Some-Program.ensures.value c.as_slice-in-Ok-with_arguments.ensures.value in
    goes_last _ _ _ _ (goes_on _ _ _ _ e c.in-Ok-with_arguments.ensures) c.type_of_program.ensures

pub type_of_call-returns-in-Err-with_arguments : goal.type_of_call-returns-in-Err-with_arguments
type_of_call-returns-in-Err-with_arguments t c =
    let items = c.args.around.now.checked.now.items.items in
    let d = subst (λ x. IsDefinition items x (Some c.in-Some-Program.field-0.now)) c.bytes.ensures c.in-Some-Program.ensures in
    let e = calls_program items c.args.around.now.rank c.args.name.now c.in-Some-Program.field-0.now c.if-around-eq0.false d c.args.at c.args.given.now _ _ _ _ _ _ c.as_slice-in-Some-Program-2.result.now _ _ c.in-Some-Program.field-0-is c.as_slice-in-Some-Program-2.ensures.value refl refl in
    goes_err _ _ _ _ e c.in-Err-with_arguments.ensures

pub type_of_call-returns-in-None : goal.type_of_call-returns-in-None
type_of_call-returns-in-None t c =
    let items = c.args.around.now.checked.now.items.items in
    let d = subst (λ x. IsDefinition items x None) c.bytes.ensures c.in-None.ensures in
    goes_not _ _ _ (calls_missing items c.args.around.now.rank c.args.at c.args.name.now c.args.given.now c.if-around-eq0.false d) c.misnamed-in-None.ensures

pub type_of_program-returns-in-Ok : goal.type_of_program-returns-in-Ok
type_of_program-returns-in-Ok t c =
    let A = around_of c.args.inside.now in
    let behind = goes_on (passing (typed_by A c.args.body.now (types_of c.args.parameters.items)) (λ T. shape A T c.args.value.now)) _ _ _ refl c.in-Ok.ensures ∙ ap (λ ns. shape A (types_of ns) c.args.value.now) (sym c.as_slice.ensures.value) in
    goes_last _ _ _ _ behind c.type_of_expr.ensures

-- ---- chains
pub type_of_chain-links-init : goal.type_of_chain-links-init
type_of_chain-links-init t c = refl

pub type_of_chain-type_of_expr-requires : goal.type_of_chain-type_of_expr-requires
type_of_chain-type_of_expr-requires t c =
    let less : weight c.next-item.result.right ≤ weight_of_links c.args.rest.now = weight_link c.args.rest.now c.links.next-index c.next-item.result c.next-item.result c.links-test.true c.next-item.is in
    (search (rules, less), tt)

pub type_of_chain-returns-in-Err : goal.type_of_chain-returns-in-Err
type_of_chain-returns-in-Err t c =
    let A = around_of c.args.around.now in
    let T = types_of c.args.names.now in
    goes_err _ _ _ _ (c.links.invariant ∙ link_next A T c.links.all c.args.rest.now c.links.next-index c.next-item.result c.links-test.true c.next-item.is) c.in-Err.ensures

pub type_of_chain-returns-in-Err-link : goal.type_of_chain-returns-in-Err-link
type_of_chain-returns-in-Err-link t c =
    let A = around_of c.args.around.now in
    let T = types_of c.args.names.now in
    let here = c.links.invariant ∙ link_next A T c.links.all c.args.rest.now c.links.next-index c.next-item.result c.links-test.true c.next-item.is in
    goes_err _ _ _ _ (goes_on _ _ _ _ here c.in-Ok.ensures) c.in-Err-link.ensures

pub type_of_chain-links-preserved : goal.type_of_chain-links-preserved
type_of_chain-links-preserved t c =
    let A = around_of c.args.around.now in
    let T = types_of c.args.names.now in
    let here = c.links.invariant ∙ link_next A T c.links.all c.args.rest.now c.links.next-index c.next-item.result c.links-test.true c.next-item.is in
    goes_on _ _ _ _ (goes_on _ _ _ _ here c.in-Ok.ensures) c.in-Ok-link.ensures

pub type_of_chain-returns : goal.type_of_chain-returns
type_of_chain-returns t c = c.links.invariant ∙ ap (shape_by (around_of c.args.around.now) (types_of c.args.names.now) c.links.all) (drop_of_length-le c.args.rest.now c.links-test.false)

-- ---- expressions
pub type_of_expr-types_of_args-requires : goal.type_of_expr-types_of_args-requires
type_of_expr-types_of_args-requires t c =
    let w : weight c.args.expr.now ≡ weight_of_args c.as_slice.result.now + 1 = ap weight c.in-Call.is ∙ weight-call c.in-Call.at c.in-Call.name c.in-Call.args ∙ ap (λ es. weight_of_args es + 1) (sym c.as_slice.ensures.value) in
    (search (rules, w), tt)

pub type_of_expr-type_of_call-requires : goal.type_of_expr-type_of_call-requires
type_of_expr-type_of_call-requires t c =
    let w : weight c.args.expr.now ≡ weight_of_args c.in-Call.args.items + 1 = ap weight c.in-Call.is ∙ weight-call c.in-Call.at c.in-Call.name c.in-Call.args in
    (search (rules, w), tt)

pub type_of_expr-types_of_args-requires-in-Base : goal.type_of_expr-types_of_args-requires-in-Base
type_of_expr-types_of_args-requires-in-Base t c =
    let w : weight c.args.expr.now ≡ weight_of_args c.as_slice-in-Base.result.now + 1 = ap weight c.in-Base.is ∙ weight-base c.in-Base.at c.in-Base.base c.in-Base.args ∙ ap (λ es. weight_of_args es + 1) (sym c.as_slice-in-Base.ensures.value) in
    (search (rules, w), tt)

pub type_of_expr-type_of_expr-requires : goal.type_of_expr-type_of_expr-requires
type_of_expr-type_of_expr-requires t c =
    let w : weight c.args.expr.now ≡ weight c.deref.result.now + weight c.in-Pair.right.value + 1 = ap weight c.in-Pair.is ∙ ap (λ e. weight e + weight c.in-Pair.right.value + 1) (sym c.deref.ensures) in
    (search (rules, w), tt)

pub type_of_expr-type_of_expr-requires-in-Ok-type_of_expr : goal.type_of_expr-type_of_expr-requires-in-Ok-type_of_expr
type_of_expr-type_of_expr-requires-in-Ok-type_of_expr t c =
    let w : weight c.args.expr.now ≡ weight c.in-Pair.left.value + weight c.deref-in-Ok-type_of_expr.result.now + 1 = ap weight c.in-Pair.is ∙ ap (λ e. weight c.in-Pair.left.value + weight e + 1) (sym c.deref-in-Ok-type_of_expr.ensures) in
    (search (rules, w), tt)

pub type_of_expr-type_of_expr-requires-in-Minus : goal.type_of_expr-type_of_expr-requires-in-Minus
type_of_expr-type_of_expr-requires-in-Minus t c =
    let w : weight c.args.expr.now ≡ weight c.deref-in-Minus.result.now + 1 = ap weight c.in-Minus.is ∙ ap (λ e. weight e + 1) (sym c.deref-in-Minus.ensures) in
    (search (rules, w), tt)

pub type_of_expr-type_of_expr-requires-in-Turned : goal.type_of_expr-type_of_expr-requires-in-Turned
type_of_expr-type_of_expr-requires-in-Turned t c =
    let w : weight c.args.expr.now ≡ weight c.deref-in-Turned.result.now + 1 = ap weight c.in-Turned.is ∙ ap (λ e. weight e + 1) (sym c.deref-in-Turned.ensures) in
    (search (rules, w), tt)

pub type_of_expr-type_of_expr-requires-in-Chain : goal.type_of_expr-type_of_expr-requires-in-Chain
type_of_expr-type_of_expr-requires-in-Chain t c =
    let w : weight c.args.expr.now ≡ weight c.deref-in-Chain.result.now + weight_of_links c.in-Chain.rest.items + 1 = ap weight c.in-Chain.is ∙ weight-chain c.in-Chain.first c.in-Chain.rest ∙ ap (λ e. weight e + weight_of_links c.in-Chain.rest.items + 1) (sym c.deref-in-Chain.ensures) in
    (search (rules, w), tt)

pub type_of_expr-type_of_chain-requires : goal.type_of_expr-type_of_chain-requires
type_of_expr-type_of_chain-requires t c =
    let w : weight c.args.expr.now ≡ weight c.in-Chain.first.value + weight_of_links c.as_slice-in-Ok-type_of_expr-4.result.now + 1 = ap weight c.in-Chain.is ∙ weight-chain c.in-Chain.first c.in-Chain.rest ∙ ap (λ ls. weight c.in-Chain.first.value + weight_of_links ls + 1) (sym c.as_slice-in-Ok-type_of_expr-4.ensures.value) in
    (search (rules, w), tt)

pub type_of_expr-returns-in-Ok : goal.type_of_expr-returns-in-Ok
type_of_expr-returns-in-Ok t c =
    let A = around_of c.args.around.now in
    let T = types_of c.args.names.now in
    let e = ap (shape A T) c.in-Call.is ∙ shape-call A T c.in-Call.at c.in-Call.name c.in-Call.args ∙ ap (λ es. passing (shapes_by A T [] es) (λ ts. A.calls c.in-Call.at c.in-Call.name ts)) (sym c.as_slice.ensures.value) in
    goes_last _ _ _ _ (goes_on _ _ _ _ e c.in-Ok.ensures ∙ ap (λ ts. A.calls c.in-Call.at c.in-Call.name ts) (sym c.as_slice-in-Ok.ensures.value)) c.type_of_call.ensures

pub type_of_expr-returns-in-Err : goal.type_of_expr-returns-in-Err
type_of_expr-returns-in-Err t c =
    let A = around_of c.args.around.now in
    let T = types_of c.args.names.now in
    let e = ap (shape A T) c.in-Call.is ∙ shape-call A T c.in-Call.at c.in-Call.name c.in-Call.args ∙ ap (λ es. passing (shapes_by A T [] es) (λ ts. A.calls c.in-Call.at c.in-Call.name ts)) (sym c.as_slice.ensures.value) in
    goes_err _ _ _ _ e c.in-Err.ensures

pub type_of_expr-returns-in-Ok-types_of_args : goal.type_of_expr-returns-in-Ok-types_of_args
type_of_expr-returns-in-Ok-types_of_args t c =
    let A = around_of c.args.around.now in
    let T = types_of c.args.names.now in
    let e = ap (shape A T) c.in-Base.is ∙ shape-base A T c.in-Base.at c.in-Base.base c.in-Base.args ∙ ap (λ es. passing (shapes_by A T [] es) (λ ts. typed_based c.in-Base.at c.in-Base.base ts)) (sym c.as_slice-in-Base.ensures.value) in
    goes_last _ _ _ _ (goes_on _ _ _ _ e c.in-Ok-types_of_args.ensures ∙ ap (λ ts. typed_based c.in-Base.at c.in-Base.base ts) (sym c.as_slice-in-Ok-types_of_args.ensures.value)) c.base_call.ensures

pub type_of_expr-returns-in-Err-types_of_args : goal.type_of_expr-returns-in-Err-types_of_args
type_of_expr-returns-in-Err-types_of_args t c =
    let A = around_of c.args.around.now in
    let T = types_of c.args.names.now in
    let e = ap (shape A T) c.in-Base.is ∙ shape-base A T c.in-Base.at c.in-Base.base c.in-Base.args ∙ ap (λ es. passing (shapes_by A T [] es) (λ ts. typed_based c.in-Base.at c.in-Base.base ts)) (sym c.as_slice-in-Base.ensures.value) in
    goes_err _ _ _ _ e c.in-Err-types_of_args.ensures

pub type_of_expr-returns-in-Ok-type_of_expr-2 : goal.type_of_expr-returns-in-Ok-type_of_expr-2
type_of_expr-returns-in-Ok-type_of_expr-2 t c =
    let A = around_of c.args.around.now in
    let T = types_of c.args.names.now in
    let e : shape A T c.args.expr.now ≡ passing (shape A T c.deref.result.now) (λ s. passing (shape A T c.deref-in-Ok-type_of_expr.result.now) (λ q. typed_pair c.in-Pair.at s q)) =
    ap (shape A T) c.in-Pair.is ∙ (λ i. passing (shape A T (sym c.deref.ensures i)) (λ s. passing (shape A T (sym c.deref-in-Ok-type_of_expr.ensures i)) (λ q. typed_pair c.in-Pair.at s q))) in
    goes_last _ _ _ _ (goes_on _ _ _ _ (goes_on _ _ _ _ e c.in-Ok-type_of_expr.ensures) c.in-Ok-type_of_expr-2.ensures) c.pair.ensures

pub type_of_expr-returns-in-Err-type_of_expr-2 : goal.type_of_expr-returns-in-Err-type_of_expr-2
type_of_expr-returns-in-Err-type_of_expr-2 t c =
    let A = around_of c.args.around.now in
    let T = types_of c.args.names.now in
    let e : shape A T c.args.expr.now ≡ passing (shape A T c.deref.result.now) (λ s. passing (shape A T c.deref-in-Ok-type_of_expr.result.now) (λ q. typed_pair c.in-Pair.at s q)) =
    ap (shape A T) c.in-Pair.is ∙ (λ i. passing (shape A T (sym c.deref.ensures i)) (λ s. passing (shape A T (sym c.deref-in-Ok-type_of_expr.ensures i)) (λ q. typed_pair c.in-Pair.at s q))) in
    goes_err _ _ _ _ (goes_on _ _ _ _ e c.in-Ok-type_of_expr.ensures) c.in-Err-type_of_expr-2.ensures

pub type_of_expr-returns-in-Err-type_of_expr : goal.type_of_expr-returns-in-Err-type_of_expr
type_of_expr-returns-in-Err-type_of_expr t c =
    let A = around_of c.args.around.now in
    let T = types_of c.args.names.now in
    let e : shape A T c.args.expr.now ≡ passing (shape A T c.deref.result.now) (λ s. passing (shape A T c.in-Pair.right.value) (λ q. typed_pair c.in-Pair.at s q)) =
    ap (shape A T) c.in-Pair.is ∙ (λ i. passing (shape A T (sym c.deref.ensures i)) (λ s. passing (shape A T c.in-Pair.right.value) (λ q. typed_pair c.in-Pair.at s q))) in
    goes_err _ _ _ _ e c.in-Err-type_of_expr.ensures

pub type_of_expr-returns-in-Ok-type_of_expr-3 : goal.type_of_expr-returns-in-Ok-type_of_expr-3
type_of_expr-returns-in-Ok-type_of_expr-3 t c =
    let A = around_of c.args.around.now in
    let T = types_of c.args.names.now in
    let e : shape A T c.args.expr.now ≡ passing (shape A T c.deref-in-Turned.result.now) (λ s. Fits (type_turned_by c.in-Turned.times s)) =
    ap (shape A T) c.in-Turned.is ∙ (λ i. passing (shape A T (sym c.deref-in-Turned.ensures i)) (λ s. Fits (type_turned_by c.in-Turned.times s))) in
    goes_on _ _ _ _ e c.in-Ok-type_of_expr-3.ensures ∙ ap Fits (sym c.turned.ensures)

pub type_of_expr-returns-in-Err-type_of_expr-3 : goal.type_of_expr-returns-in-Err-type_of_expr-3
type_of_expr-returns-in-Err-type_of_expr-3 t c =
    let A = around_of c.args.around.now in
    let T = types_of c.args.names.now in
    let e : shape A T c.args.expr.now ≡ passing (shape A T c.deref-in-Turned.result.now) (λ s. Fits (type_turned_by c.in-Turned.times s)) =
    ap (shape A T) c.in-Turned.is ∙ (λ i. passing (shape A T (sym c.deref-in-Turned.ensures i)) (λ s. Fits (type_turned_by c.in-Turned.times s))) in
    goes_err _ _ _ _ e c.in-Err-type_of_expr-3.ensures

pub type_of_expr-returns-in-Ok-type_of_expr-4 : goal.type_of_expr-returns-in-Ok-type_of_expr-4
type_of_expr-returns-in-Ok-type_of_expr-4 t c =
    let A = around_of c.args.around.now in
    let T = types_of c.args.names.now in
    let ls = c.as_slice-in-Ok-type_of_expr-4.result.now in
    let e : shape A T c.args.expr.now ≡ passing (shape A T c.deref-in-Chain.result.now) (λ s. shape_by A T s ls) =
    ap (shape A T) c.in-Chain.is ∙ shape-chain A T c.in-Chain.first c.in-Chain.rest ∙ (λ i. passing (shape A T (sym c.deref-in-Chain.ensures i)) (λ s. shape_by A T s (sym c.as_slice-in-Ok-type_of_expr-4.ensures.value i))) in
    goes_last _ _ _ _ (goes_on _ _ _ _ e c.in-Ok-type_of_expr-4.ensures) c.type_of_chain.ensures

pub type_of_expr-returns-in-Err-type_of_expr-4 : goal.type_of_expr-returns-in-Err-type_of_expr-4
type_of_expr-returns-in-Err-type_of_expr-4 t c =
    let A = around_of c.args.around.now in
    let T = types_of c.args.names.now in
    let e : shape A T c.args.expr.now ≡ passing (shape A T c.deref-in-Chain.result.now) (λ s. shape_by A T s c.in-Chain.rest.items) =
    ap (shape A T) c.in-Chain.is ∙ shape-chain A T c.in-Chain.first c.in-Chain.rest ∙ (λ i. passing (shape A T (sym c.deref-in-Chain.ensures i)) (λ s. shape_by A T s c.in-Chain.rest.items)) in
    goes_err _ _ _ _ e c.in-Err-type_of_expr-4.ensures

-- ---- tests and statements
pub type_of_test-type_of_expr-requires : goal.type_of_test-type_of_expr-requires
type_of_test-type_of_expr-requires t c = (search rules, tt)

pub type_stmt-type_of_expr-requires : goal.type_stmt-type_of_expr-requires
type_stmt-type_of_expr-requires t c =
    let w : weight_stmt c.args.stmt.now ≡ weight c.in-Set.value + 1 = ap weight_stmt c.in-Set.is in
    (search (rules, w), tt)

pub type_stmt-type_of_test-requires : goal.type_stmt-type_of_test-requires
type_stmt-type_of_test-requires t c =
    let w : weight_stmt c.args.stmt.now ≡ weight c.in-While.test + weight_by c.in-While.body.items + 1 = ap weight_stmt c.in-While.is ∙ weight-while c.in-While.at c.in-While.test c.in-While.body in
    (search (rules, w), tt)

pub type_stmt-type_stmts-requires : goal.type_stmt-type_stmts-requires
type_stmt-type_stmts-requires t c =
    let w : weight_stmt c.args.stmt.now ≡ weight c.in-While.test + weight_by c.as_slice-in-Ok-type_of_test.result.now + 1 =
    ap weight_stmt c.in-While.is ∙ weight-while c.in-While.at c.in-While.test c.in-While.body ∙ ap (λ ss. weight c.in-While.test + weight_by ss + 1) (sym c.as_slice-in-Ok-type_of_test.ensures.value) in
    (search (rules, w), tt)

pub type_stmt-type_of_test-requires-in-If : goal.type_stmt-type_of_test-requires-in-If
type_stmt-type_of_test-requires-in-If t c =
    let w : weight_stmt c.args.stmt.now ≡ weight c.in-If.test + (weight_by c.in-If.yes.items + weight_by c.in-If.no.items) + 1 = ap weight_stmt c.in-If.is ∙ weight-if c.in-If.at c.in-If.test c.in-If.yes c.in-If.no in
    (search (rules, w), tt)

pub type_stmt-type_stmts-requires-in-Ok-type_of_test-2 : goal.type_stmt-type_stmts-requires-in-Ok-type_of_test-2
type_stmt-type_stmts-requires-in-Ok-type_of_test-2 t c =
    let w : weight_stmt c.args.stmt.now ≡ weight c.in-If.test + (weight_by c.as_slice-in-Ok-type_of_test-2.result.now + weight_by c.in-If.no.items) + 1 =
    ap weight_stmt c.in-If.is ∙ weight-if c.in-If.at c.in-If.test c.in-If.yes c.in-If.no ∙ ap (λ ss. weight c.in-If.test + (weight_by ss + weight_by c.in-If.no.items) + 1) (sym c.as_slice-in-Ok-type_of_test-2.ensures.value) in
    (search (rules, w), tt)

pub type_stmt-type_stmts-requires-in-Ok-type_stmts : goal.type_stmt-type_stmts-requires-in-Ok-type_stmts
type_stmt-type_stmts-requires-in-Ok-type_stmts t c =
    let w : weight_stmt c.args.stmt.now ≡ weight c.in-If.test + (weight_by c.in-If.yes.items + weight_by c.as_slice-in-Ok-type_stmts.result.now) + 1 =
    ap weight_stmt c.in-If.is ∙ weight-if c.in-If.at c.in-If.test c.in-If.yes c.in-If.no ∙ ap (λ ss. weight c.in-If.test + (weight_by c.in-If.yes.items + weight_by ss) + 1) (sym c.as_slice-in-Ok-type_stmts.ensures.value) in
    (search (rules, w), tt)

pub type_stmt-returns-in-Ok : goal.type_stmt-returns-in-Ok
type_stmt-returns-in-Ok t c =
    let A = around_of c.args.around.now in
    let S = types_of c.args.names.now.items in
    let e : typed_behind A c.args.stmt.now S ≡ passing (shape A (types_of c.as_slice.result.now) c.in-Set.value) (λ s. set_type c.in-Set.at c.in-Set.name s S (S c.in-Set.name)) =
    ap (λ x. typed_behind A x S) c.in-Set.is ∙ ap (λ ns. passing (shape A (types_of ns) c.in-Set.value) (λ s. set_type c.in-Set.at c.in-Set.name s S (S c.in-Set.name))) (sym c.as_slice.ensures.value) in
    goes_last _ _ _ _ (goes_on _ _ _ _ e c.in-Ok.ensures) c.assign.ensures

pub type_stmt-returns-in-Err : goal.type_stmt-returns-in-Err
type_stmt-returns-in-Err t c =
    let A = around_of c.args.around.now in
    let S = types_of c.args.names.now.items in
    let e : typed_behind A c.args.stmt.now S ≡ passing (shape A (types_of c.as_slice.result.now) c.in-Set.value) (λ s. set_type c.in-Set.at c.in-Set.name s S (S c.in-Set.name)) =
    ap (λ x. typed_behind A x S) c.in-Set.is ∙ ap (λ ns. passing (shape A (types_of ns) c.in-Set.value) (λ s. set_type c.in-Set.at c.in-Set.name s S (S c.in-Set.name))) (sym c.as_slice.ensures.value) in
    goes_err _ _ _ _ e c.in-Err.ensures

pub type_stmt-returns-in-Ok-type_of_test : goal.type_stmt-returns-in-Ok-type_of_test
type_stmt-returns-in-Ok-type_of_test t c =
    let A = around_of c.args.around.now in
    let S = types_of c.args.names.now.items in
    let ss = c.as_slice-in-Ok-type_of_test.result.now in
    let e : typed_behind A c.args.stmt.now S ≡ passing (shape_test A c.in-While.at c.in-While.test (types_of c.as_slice-in-While.result.now)) (λ u. typed_by A ss S) =
    ap (λ x. typed_behind A x S) c.in-While.is ∙ behind-while A S c.in-While.at c.in-While.test c.in-While.body
    ∙ (λ i. passing (shape_test A c.in-While.at c.in-While.test (types_of (sym c.as_slice-in-While.ensures.value i))) (λ u. typed_by A (sym c.as_slice-in-Ok-type_of_test.ensures.value i) S)) in
    goes_last _ _ _ _ (goes_on _ _ _ _ e c.in-Ok-type_of_test.ensures) c.type_stmts.ensures

pub type_stmt-returns-in-Err-type_of_test : goal.type_stmt-returns-in-Err-type_of_test
type_stmt-returns-in-Err-type_of_test t c =
    let A = around_of c.args.around.now in
    let S = types_of c.args.names.now.items in
    let e : typed_behind A c.args.stmt.now S ≡ passing (shape_test A c.in-While.at c.in-While.test (types_of c.as_slice-in-While.result.now)) (λ u. typed_by A c.in-While.body.items S) =
    ap (λ x. typed_behind A x S) c.in-While.is ∙ behind-while A S c.in-While.at c.in-While.test c.in-While.body
    ∙ (λ i. passing (shape_test A c.in-While.at c.in-While.test (types_of (sym c.as_slice-in-While.ensures.value i))) (λ u. typed_by A c.in-While.body.items S)) in
    goes_err _ _ _ _ e c.in-Err-type_of_test.ensures

pub type_stmt-returns-in-Ok-type_stmts : goal.type_stmt-returns-in-Ok-type_stmts
type_stmt-returns-in-Ok-type_stmts t c =
    let A = around_of c.args.around.now in
    let S = types_of c.args.names.now.items in
    let ss = c.as_slice-in-Ok-type_of_test-2.result.now in
    let more = c.as_slice-in-Ok-type_stmts.result.now in
    let e : typed_behind A c.args.stmt.now S ≡ passing (shape_test A c.in-If.at c.in-If.test (types_of c.as_slice-in-If.result.now)) (λ u. passing (typed_by A ss S) (λ U. typed_by A more U)) =
    ap (λ x. typed_behind A x S) c.in-If.is ∙ behind-if A S c.in-If.at c.in-If.test c.in-If.yes c.in-If.no
    ∙ (λ i. passing (shape_test A c.in-If.at c.in-If.test (types_of (sym c.as_slice-in-If.ensures.value i)))
    (λ u. passing (typed_by A (sym c.as_slice-in-Ok-type_of_test-2.ensures.value i) S) (λ U. typed_by A (sym c.as_slice-in-Ok-type_stmts.ensures.value i) U))) in
    goes_last _ _ _ _ (goes_on _ _ _ _ (goes_on _ _ _ _ e c.in-Ok-type_of_test-2.ensures) c.in-Ok-type_stmts.ensures) c.type_stmts-in-Ok-type_stmts.ensures

pub type_stmt-returns-in-Err-type_stmts : goal.type_stmt-returns-in-Err-type_stmts
type_stmt-returns-in-Err-type_stmts t c =
    let A = around_of c.args.around.now in
    let S = types_of c.args.names.now.items in
    let ss = c.as_slice-in-Ok-type_of_test-2.result.now in
    let e : typed_behind A c.args.stmt.now S ≡ passing (shape_test A c.in-If.at c.in-If.test (types_of c.as_slice-in-If.result.now)) (λ u. passing (typed_by A ss S) (λ U. typed_by A c.in-If.no.items U)) =
    ap (λ x. typed_behind A x S) c.in-If.is ∙ behind-if A S c.in-If.at c.in-If.test c.in-If.yes c.in-If.no
    ∙ (λ i. passing (shape_test A c.in-If.at c.in-If.test (types_of (sym c.as_slice-in-If.ensures.value i)))
    (λ u. passing (typed_by A (sym c.as_slice-in-Ok-type_of_test-2.ensures.value i) S) (λ U. typed_by A c.in-If.no.items U))) in
    goes_err _ _ _ _ (goes_on _ _ _ _ e c.in-Ok-type_of_test-2.ensures) c.in-Err-type_stmts.ensures

pub type_stmt-returns-in-Err-type_of_test-2 : goal.type_stmt-returns-in-Err-type_of_test-2
type_stmt-returns-in-Err-type_of_test-2 t c =
    let A = around_of c.args.around.now in
    let S = types_of c.args.names.now.items in
    let e : typed_behind A c.args.stmt.now S ≡ passing (shape_test A c.in-If.at c.in-If.test (types_of c.as_slice-in-If.result.now)) (λ u. passing (typed_by A c.in-If.yes.items S) (λ U. typed_by A c.in-If.no.items U)) =
    ap (λ x. typed_behind A x S) c.in-If.is ∙ behind-if A S c.in-If.at c.in-If.test c.in-If.yes c.in-If.no
    ∙ (λ i. passing (shape_test A c.in-If.at c.in-If.test (types_of (sym c.as_slice-in-If.ensures.value i))) (λ u. passing (typed_by A c.in-If.yes.items S) (λ U. typed_by A c.in-If.no.items U))) in
    goes_err _ _ _ _ e c.in-Err-type_of_test-2.ensures

pub type_stmts-stmts-init : goal.type_stmts-stmts-init
type_stmts-stmts-init t c = refl

pub type_stmts-type_stmt-requires : goal.type_stmts-type_stmt-requires
type_stmts-type_stmt-requires t c =
    let less : weight_stmt c.stmt-item.result ≤ weight_by c.args.stmts.now = weight_one c.args.stmts.now c.stmts.stmt-index c.stmt-item.result c.stmt-item.result c.stmts-test.true c.stmt-item.is in
    (search (rules, less), tt)

pub type_stmts-returns-in-Err : goal.type_stmts-returns-in-Err
type_stmts-returns-in-Err t c =
    let A = around_of c.args.around.now in
    goes_err _ _ _ _ (c.stmts.invariant ∙ stmt_next A (types_of c.stmts.names.items) c.args.stmts.now c.stmts.stmt-index c.stmt-item.result c.stmts-test.true c.stmt-item.is) c.in-Err.ensures

pub type_stmts-stmts-preserved : goal.type_stmts-stmts-preserved
type_stmts-stmts-preserved t c =
    let A = around_of c.args.around.now in
    goes_on _ _ _ _ (c.stmts.invariant ∙ stmt_next A (types_of c.stmts.names.items) c.args.stmts.now c.stmts.stmt-index c.stmt-item.result c.stmts-test.true c.stmt-item.is) c.in-Ok.ensures

pub type_stmts-returns : goal.type_stmts-returns
type_stmts-returns t c = c.stmts.invariant ∙ ap (λ ss. typed_by (around_of c.args.around.now) ss (types_of c.stmts.names.items)) (drop_of_length-le c.args.stmts.now c.stmts-test.false)

-- ---- arguments
pub types_of_args-each-init : goal.types_of_args-each-init
types_of_args-each-init t c = ap (λ ss. shapes_by (around_of c.args.around.now) (types_of c.args.names.now) ss c.args.args.now) (sym c.new-given.ensures.items)

pub types_of_args-type_of_expr-requires : goal.types_of_args-type_of_expr-requires
types_of_args-type_of_expr-requires t c =
    let less : weight c.arg-item.result ≤ weight_of_args c.args.args.now = weight_arg c.args.args.now c.each.arg-index c.arg-item.result c.arg-item.result c.each-test.true c.arg-item.is in
    (search (rules, less), tt)

pub types_of_args-returns-in-Err : goal.types_of_args-returns-in-Err
types_of_args-returns-in-Err t c =
    let A = around_of c.args.around.now in
    let T = types_of c.args.names.now in
    goes_err _ _ _ _ (c.each.invariant ∙ arg_next A T c.each.given.items c.args.args.now c.each.arg-index c.arg-item.result c.each-test.true c.arg-item.is) c.in-Err.ensures

pub types_of_args-each-preserved : goal.types_of_args-each-preserved
types_of_args-each-preserved t c =
    let A = around_of c.args.around.now in
    let T = types_of c.args.names.now in
    goes_on _ _ _ _ (c.each.invariant ∙ arg_next A T c.each.given.items c.args.args.now c.each.arg-index c.arg-item.result c.each-test.true c.arg-item.is) c.in-Ok.ensures
    ∙ ap (λ ss. shapes_by A T ss (drop (c.each.arg-index + 1) c.args.args.now)) (sym c.in-Ok-push.ensures.items)

pub types_of_args-returns : goal.types_of_args-returns
types_of_args-returns t c = c.each.invariant ∙ ap (shapes_by (around_of c.args.around.now) (types_of c.args.names.now) c.each.given.items) (drop_of_length-le c.args.args.now c.each-test.false)
