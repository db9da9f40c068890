use Rattle.rel_model.specs.Listed.{AreWithin}
use Rattle.test_operators.proofs.joins.chance.cycle_of.Given as goal

abbrev pub invariant-pairs : goal.invariant-pairs
invariant-pairs l = AreWithin l.n l.n l.pairs.items
