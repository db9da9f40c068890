use Rattle.std.proofs.Common.{◌≡◌}
use Rattle.pair_table.specs.Tells.{IsUnderWay}
use Rattle.pair_table.proofs.probe.intern_word.Given as goal

-- the place is that of this step, and all places before hold other words
abbrev pub invariant-places : goal.invariant-places
invariant-places l = IsUnderWay l.fn.seat.me.0 l.seat.me.0 l.word l._step l.place l.count × (l.seat.table_id ≡ l.fn.seat.table_id) × (l.seat.me.1 ≡ l.fn.seat.me.1)
