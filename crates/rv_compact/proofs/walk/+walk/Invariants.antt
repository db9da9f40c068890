use Rattle.std.proofs.Common.{◌+◌, ◌*◌}
use Rattle.rv_compact.proofs.walk.+walk.Given as goal

abbrev pub decreases-walk : goal.decreases-walk
decreases-walk l = 2 * l.depth + 1

abbrev pub decreases-walk_kids : goal.decreases-walk_kids
decreases-walk_kids l = 2 * l.depth
