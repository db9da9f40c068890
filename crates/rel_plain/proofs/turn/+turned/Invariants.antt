use Rattle.std.proofs.Common.{length}
use Rattle.rel_plain.proofs.turn.+turned.Given as goal

abbrev pub decreases-turned : goal.decreases-turned
decreases-turned l = length l.pairs.now
