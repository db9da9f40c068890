use Rattle.std.proofs.Common.{◌≡◌}
use Rattle.turn_book.specs.Views.{IsReady}
use Rattle.turn_book.proofs.tests.hold.Given as goal

abbrev pub invariant-turns : goal.invariant-turns
invariant-turns g l = IsReady l.fn.book l.pass × (l.pass.spare ≡ l.fn.pass.spare)
