use Rattle.std.proofs.Common.{length}
use Rattle.rel_plain.proofs.compose.+push_through.Given as goal

abbrev pub decreases-push_through : goal.decreases-push_through
decreases-push_through l = length l.pairs.now
