use Rattle.rel_model.specs.Views.{IsOf, Keeps}
use Rattle.test_compact.proofs.tests.push_blocks.Given as goal

abbrev pub invariant-numbers : goal.invariant-numbers
invariant-numbers g l = IsOf l.seat l.fn.table × Keeps l.fn.seat l.seat
