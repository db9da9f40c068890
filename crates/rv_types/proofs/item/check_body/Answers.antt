use Rattle.std.proofs.Common.{◌≡◌, ◌∙◌, ap}
use Rattle.lang_model.specs.Checking.{among, no_name, faults, faults_by, assigned_by}
use Rattle.rv_types.specs.Found.{told, noted}
use Rattle.rv_types.specs.Scopes.{scope_of}
use Rattle.rv_types.proofs.item.check_body.Goals as goal

pub returns : goal.returns
returns c =
    let S = scope_of c.args.scope.now in
    let t = told c.args.so_far in
    let body = c.args.body.now in
    let none : among c.new-assigned.result ≡ no_name = λ i. among (c.new-assigned.ensures i) in
    let walked = c.in_ok-found.ensures.fault ∙ ap (λ A. noted t (faults_by S A body)) none in
    c.check_expr.ensures
    ∙ (λ i. noted (walked i) (faults S (λ n. (c.in_ok-found.ensures.assigned n ∙ ap (λ A. assigned_by A body n) none) i) c.args.value.now))
