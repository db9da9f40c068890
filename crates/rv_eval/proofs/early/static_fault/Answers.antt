use Rattle.std.proofs.Common.{◌≡◌, ◌∙◌, ◌⊎◌, subst}
use Rattle.lang_model.specs.declared.faults.TypeFault.TheVariants.{NoMemory as FAULT_NO_MEMORY}
use Rattle.lang_model.specs.Types.{Misfit}
use Rattle.lang_model.specs.Shape.{static_type}
use Rattle.rv_types.specs.Shaping.{types_of}
use Rattle.rv_eval.proofs.early.static_fault.Goals as goal

pub returns : goal.returns
returns c =
    let fault = c.in-Err-shape_of.fault in
    subst (λ xs. (fault ≡ FAULT_NO_MEMORY) ⊎ (static_type c.args.checked.now (types_of xs) c.args.expr.now ≡ Misfit fault))
    (c.as_slice.ensures.value ∙ c.in-Ok.ensures) c.in-Err-shape_of.ensures.misfit
