use Rattle.std.proofs.Common.{◌≡◌, ◌+◌, ◌/◌, ◌∙◌, sym, ap, arith}
use Rattle.std.proofs.Math.Nat.{div-add-mod}
use Rattle.lang_model.specs.Types.{type_turned_by}
use Rattle.rv_types.proofs.Computing.{turned_by-even, turned_by-odd}
use Rattle.rv_types.proofs.operators.turned.Goals as goal

pub returns-then-times-eq0 : goal.returns-then-times-eq0
returns-then-times-eq0 c =
    let n = c.args.times in
    let e : n ≡ n / 2 + n / 2 = omega (arith, div-add-mod n 2, c.if-times-eq0.true) in
    sym (ap (λ k. type_turned_by k c.args.s) e ∙ turned_by-even (n / 2) c.args.s)

pub returns-else-times-eq0 : goal.returns-else-times-eq0
returns-else-times-eq0 c =
    let n = c.args.times in
    let e : n ≡ n / 2 + n / 2 + 1 = omega (arith, div-add-mod n 2, c.if-times-eq0.false) in
    sym (ap (λ k. type_turned_by k c.args.s) e ∙ turned_by-odd (n / 2) c.args.s)
