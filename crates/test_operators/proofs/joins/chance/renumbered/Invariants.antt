use Rattle.rel_model.specs.Listed.{AreWithin}
use Rattle.test_operators.proofs.joins.chance.renumbered.Given as goal

-- the pairs so far
abbrev pub invariant-pairs : goal.invariant-pairs
invariant-pairs l = AreWithin l.fn.n l.fn.n l.others.items
