use Rattle.std.proofs.Common.{◌≡◌, ◌<◌, get_or, subst, inl, inr, arith}
use Rattle.std.proofs.lemmas.Bool.{cases_lt}
use Rattle.test_engine.proofs.Within.{within_of}
use Rattle.test_engine.proofs.lists.lie_within.Goals as goal

pub pairs-init : goal.pairs-init
pairs-init c = λ k h. absurd (omega (arith, h))

pub pairs-preserved : goal.pairs-preserved
pairs-preserved c = λ k h. elim (cases_lt k c.pairs.pair-index) [
  | inl l ↦ c.pairs.invariant k l
  | inr l ↦ (let e : c.pairs.pair-index ≡ k = omega (arith, h, l) in
      subst (λ j. ((get_or c.args.pairs.now j (0, 0)).0 < c.args.shape.rows) × ((get_or c.args.pairs.now j (0, 0)).1 < c.args.shape.cols)) e (c.if-pair-shape.false, c.if-pair-shape-2.false))
]

pub returns : goal.returns
returns c = λ t. within_of c.args.shape.rows c.args.shape.cols c.args.pairs.now (λ k l. c.pairs.invariant k (omega (arith, l, c.pairs-test.false)))
