use Rattle.rel_model.specs.Listed.{AreWithin}
use Rattle.test_operators.proofs.joins.chance.chain_of.Given as goal

abbrev pub invariant-pairs : goal.invariant-pairs
invariant-pairs l = AreWithin l.fn.n l.fn.n l.pairs.items
