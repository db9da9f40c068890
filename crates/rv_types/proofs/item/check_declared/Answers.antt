use Rattle.std.proofs.Common.{◌∙◌, sym, ap, subst}
use Rattle.lang_model.specs.Checking.{among}
use Rattle.rv_types.specs.Found.{noted}
use Rattle.rv_types.specs.Scopes.{scope_of, with_parameters, OfProgram}
use Rattle.rv_types.proofs.Declaring.{same-decl_faults}
use Rattle.rv_types.proofs.item.check_declared.Goals as goal

pub check_head-requires : goal.check_head-requires
check_head-requires c = ap (λ k. k.parameters) c.requires

pub declare-requires : goal.declare-requires
declare-requires c = ap (with_parameters c.check_head.new.before) c.requires

pub returns-clause-fault : goal.returns-clause-fault
returns-clause-fault c =
    let ps = c.check_head.new.before in
    let params = c.args.head.params.now in
    let same = c.in_ok-named.ensures.names in
    c.in_ok-found.ensures ∙ (λ i. noted (c.in_ok-named.ensures.fault i) (same-decl_faults ps params ps params c.args.decls.now same same i))

pub returns-clause-parameters : goal.returns-clause-parameters
returns-clause-parameters c n = ap (λ v. among v n) c.in_ok-declare.ensures.parameters_kept ∙ c.in_ok-named.ensures.names n

pub returns-clause-scope : goal.returns-clause-scope
returns-clause-scope c =
    let h = c.in_ok-declare.ensures in
    subst (λ ps. OfProgram c.args.scope.now.earlier.now ps c.args.decls.now (scope_of c.declare.new.scope)) (sym h.parameters_kept) h
