use Rattle.rel_model.specs.Listed.{AreWithin}
use Rattle.test_operators.proofs.joins.chance.pairs_by_chance.Given as goal

abbrev pub invariant-pairs : goal.invariant-pairs
invariant-pairs l = AreWithin l.shape.rows l.shape.cols l.pairs.items
