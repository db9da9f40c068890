use Rattle.std.proofs.Common.{◌∙◌, refl}
use Rattle.lang_model.specs.Checking.{no_name, assigned_by}
use Rattle.rv_types.specs.Found.{noted}
use Rattle.rv_types.specs.Scopes.{scope_of}
use Rattle.rv_types.proofs.Scoping.{faults-program, faults_by-program}
use Rattle.rv_types.proofs.item.check_parts.Goals as goal

pub returns : goal.returns
returns c =
    let E = c.args.scope.now.earlier.now in
    let params = c.args.head.params.now in
    let decls = c.args.decls.now in
    let body = c.args.body.now in
    let K = scope_of c.check_declared.new.scope in
    let ps = c.check_declared.new.scope.parameters in
    let h = c.in_ok-declared.ensures.scope in
    let same = c.in_ok-declared.ensures.parameters in
    let behind = assigned_by no_name body in
    c.in_ok-found.ensures
    ∙ (λ i. noted (noted (c.in_ok-declared.ensures.fault i) (faults_by-program E ps params decls K h same no_name no_name body (λ n. refl) i))
    (faults-program E ps params decls K h same behind behind c.args.value.now (λ n. refl) i))
