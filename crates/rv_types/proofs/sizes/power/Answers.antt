use Rattle.std.proofs.Common.{◌<◌, ◌^◌, ◌∙◌, sym, ap, arith}
use Rattle.lang_model.specs.Types.{computed}
use Rattle.rv_types.proofs.Computing.{power_over}
use Rattle.rv_types.proofs.sizes.power.Goals as goal

pub returns-then-m-gt-MOST_ELEMENTS : goal.returns-then-m-gt-MOST_ELEMENTS
returns-then-m-gt-MOST_ELEMENTS c =
    let more : 24 < c.in-Some.m = omega (arith, c.if-m-gt-MOST_ELEMENTS.true) in
    sym (ap (computed (λ n. 2 ^ n)) c.in-Some.is ∙ power_over c.in-Some.m more)
