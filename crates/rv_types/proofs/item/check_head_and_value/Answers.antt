use Rattle.std.proofs.Common.{◌∙◌, [], refl, ap}
use Rattle.lang_model.specs.Checking.{Scope}
use Rattle.rv_types.specs.Found.{noted}
use Rattle.rv_types.proofs.Scoping.{faults-function}
use Rattle.rv_types.proofs.item.check_head_and_value.Goals as goal

pub check_head-requires : goal.check_head-requires
check_head-requires c = ap (λ k. k.parameters) c.requires

pub returns : goal.returns
returns c =
    let s = c.args.scope.now in
    let h = c.requires in
    let kept : Scope =
    record { is_command = s.is_command; parameters = c.check_head.new.before; variables = s.variables; products = s.products; sums = s.sums; earlier = s.earlier.now } in
    c.check_alone.ensures
    ∙ (λ i. noted (c.in_ok-found.ensures.fault i)
    (faults-function kept c.args.head.params.now [] c.args.body.now (ap (λ k. k.is_command) h) c.in_ok-found.ensures.names (ap (λ k. k.variables) h) (ap (λ k. k.products) h) (ap (λ k. k.sums) h) refl i))
