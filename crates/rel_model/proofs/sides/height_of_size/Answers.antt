use Rattle.std.proofs.Common.{◌≡◌, ◌+◌, ◌^◌, ◌∙◌, ltb, true, false, sym, ap, arith}
use Rattle.std.proofs.lemmas.Bool.Decides.{nat_tests}
use Rattle.rel_model.proofs.Powers.{powers_below, powers-yes, powers-no, powers-all}
use Rattle.rel_model.proofs.sides.height_of_size.Goals as goal
use Rattle.rel_model.proofs.sides.height_of_size.Goals.{then-side_of-size, else-side_of-size}

pub powers-preserved : goal.powers-preserved
powers-preserved c = elim c.if-side_of-size.branch [
  | then-side_of-size w ↦ let t : ltb (2 ^ c.powers.k) c.args.size ≡ true = grind (arith, nat_tests) in
      (w.height-is ∙ ap (λ n. n + 1) c.powers.invariant.0 ∙ sym (powers-yes c.args.size c.powers.k c.powers-test.true t), omega (arith, w.height-is, c.powers.invariant.1))
  | else-side_of-size w ↦ let t : ltb (2 ^ c.powers.k) c.args.size ≡ false = grind (arith, nat_tests) in
      (w.height-is ∙ c.powers.invariant.0 ∙ sym (powers-no c.args.size c.powers.k c.powers-test.true t), omega (arith, w.height-is, c.powers.invariant.1))
]

pub returns-clause-value : goal.returns-clause-value
returns-clause-value c =
    let a = c.powers.auto.k-end in
    let b = c.powers-test.false in
    let k : c.powers.k ≡ 24 = omega arith in
    c.powers.invariant.0 ∙ ap (powers_below c.args.size) k ∙ powers-all c.args.size

pub returns-clause-limit : goal.returns-clause-limit
returns-clause-limit c = omega (arith, c.powers.invariant.1, c.powers.auto.k-end)
