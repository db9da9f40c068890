use Rattle.std.proofs.Common.{◌+◌, ◌*◌}
use Rattle.rel_images.proofs.walking.+walk.Given as goal

abbrev pub decreases-walk : goal.decreases-walk
decreases-walk g l = 2 * l.quad.height + 1

abbrev pub decreases-visit : goal.decreases-visit
decreases-visit g l = 2 * l.quad.height
