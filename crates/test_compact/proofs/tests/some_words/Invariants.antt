use Rattle.std.proofs.Common.{◌≡◌}
use Rattle.rel_model.specs.Views.{IsOf}
use Rattle.test_compact.proofs.tests.some_words.Given as goal

abbrev pub invariant-sides : goal.invariant-sides
invariant-sides g l = IsOf l.seat l.table × (l.seat.spare ≡ 0) × (l.table.seats ≡ 1) × (l.table.bits ≡ 10)
