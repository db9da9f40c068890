use Rattle.std.proofs.Common.{◌≡◌}
use Rattle.rel_model.specs.Views.{IsOf}
use Rattle.test_compact.proofs.tests.go_on.Given as goal

abbrev pub invariant-rels : goal.invariant-rels
invariant-rels g l = IsOf l.seat l.table × (l.seat.spare ≡ 0) × (l.table.seats ≡ 1) × (l.table.bits ≡ 10)
