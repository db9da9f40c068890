use Rattle.rel_model.specs.Listed.{AreWithin}
use Rattle.test_operators.proofs.joins.chance.slow_product.Given as goal

abbrev pub invariant-firsts : goal.invariant-firsts
invariant-firsts l = AreWithin l.fn.shape.rows l.fn.shape.cols l.found.items

abbrev pub invariant-seconds : goal.invariant-seconds
invariant-seconds l = AreWithin l.fn.shape.rows l.fn.shape.cols l.found.items
