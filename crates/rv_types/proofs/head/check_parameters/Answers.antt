use Rattle.std.proofs.Common.{◌∙◌, ◌+◌, ◌||◌, drop, sym, ap}
use Rattle.lang_model.specs.Tokens.{same_text}
use Rattle.lang_model.specs.Checking.{among, parameter_faults}
use Rattle.rv_types.specs.Found.{told, noted}
use Rattle.rv_types.proofs.Heads.{noted-parameter, among-parameter}
use Rattle.rv_types.proofs.head.check_parameters.Goals as goal

pub each-preserved : goal.each-preserved
each-preserved c =
    let ps = c.args.params.now in
    let k = c.each.param-index in
    let p = c.param-item.result in
    let old = c.each.before in
    let new = c.add.new.self in (
      c.each.invariant.0 ∙ noted-parameter (told c.each.found) c.args.at old new ps k p c.each-test.true c.param-item.is (λ n. c.in_ok-add.ensures.names n ∙ ap (λ q. same_text q n || among old n) c.bytes.ensures)
          ∙ ap (λ u. noted u (parameter_faults c.args.at new (drop (k + 1) ps))) (sym c.check_repeated-found.ensures),
      λ n. c.each.invariant.1 n ∙ among-parameter old new ps k p n c.each-test.true c.param-item.is (c.in_ok-add.ensures.names n ∙ ap (λ q. same_text q n || among old n) c.bytes.ensures),
    )
