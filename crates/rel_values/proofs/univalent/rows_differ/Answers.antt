use Rattle.std.proofs.Common.{◌≡◌, ◌+◌, ◌-◌, ◌∙◌, ap, arith}
use Rattle.rel_joins.specs.Starts.{row_at}
use Rattle.rel_values.proofs.Univalence.{listed_single, listed_double}
use Rattle.rel_values.proofs.univalent.rows_differ.Goals as goal

pub returns-then-pairs-k : goal.returns-then-pairs-k
returns-then-pairs-k c r v e =
    let k : c.pairs.k ≡ c.pairs.k - 1 + 1 = omega (arith, c.pairs.auto.k) in
    listed_double c.args.pairs.now (c.pairs.k - 1) (omega (arith, c.pairs.auto.k, c.pairs-test.true))
    (c.if-pairs-k.true ∙ ap (row_at c.args.pairs.now) k) r v e

pub returns : goal.returns
returns c r v e =
    listed_single c.args.pairs.now (λ m l. c.pairs.invariant m (omega (arith, l, c.pairs-test.false))) r v e
