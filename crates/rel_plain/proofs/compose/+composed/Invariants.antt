use Rattle.std.proofs.Common.{length}
use Rattle.rel_plain.proofs.compose.+composed.Given as goal

abbrev pub decreases-composed : goal.decreases-composed
decreases-composed l = length l.left.now
