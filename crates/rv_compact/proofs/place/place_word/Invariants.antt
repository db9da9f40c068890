use Rattle.std.proofs.Common.{◌≡◌}
use Rattle.rv_compact.proofs.Placed.{IsOnWay}
use Rattle.rv_compact.proofs.place.place_word.Given as goal

-- the place is that of this step, and all places before hold other words
abbrev pub invariant-places : goal.invariant-places
invariant-places l = IsOnWay l.nodes l.word l._step l.place l.count × (l.nodes ≡ l.fn.nodes)
