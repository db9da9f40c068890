use Rattle.rel_model.specs.Listed.{AreWithin}
use Rattle.test_operators.proofs.domains.lists.within.Given as goal

abbrev pub invariant-pairs : goal.invariant-pairs
invariant-pairs g l = AreWithin l.rows l.cols l.list.items
