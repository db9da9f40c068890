use Rattle.std.proofs.Common.{◌+◌, ◌*◌}
use Rattle.k2_read.proofs.build.+built.Given as goal

abbrev pub decreases-built : goal.decreases-built
decreases-built g l = 2 * l.height + 1

abbrev pub decreases-built_anew : goal.decreases-built_anew
decreases-built_anew g l = 2 * l.height
