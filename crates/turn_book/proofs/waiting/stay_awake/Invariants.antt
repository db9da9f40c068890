use Rattle.std.proofs.Common.{◌≡◌}
use Rattle.turn_book.proofs.waiting.stay_awake.Given as goal

abbrev pub invariant-looks : goal.invariant-looks
invariant-looks g l = (l.seat.me ≡ l.fn.seat.me) × (l.seat.table_id ≡ l.fn.seat.table_id)
