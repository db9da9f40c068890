use Rattle.std.proofs.Common.{◌≡◌, ◌++◌, map, take, drop}
use Rattle.rel_values.proofs.Turning.{turned_pair}
use Rattle.rel_values.proofs.listing.turn.Given as goal

-- the first k pairs are turned
abbrev pub invariant-pairs : goal.invariant-pairs
invariant-pairs l = l.pairs ≡ map turned_pair (take l.k l.fn.pairs) ++ drop l.k l.fn.pairs
