use Rattle.std.proofs.Common.{◌+◌, ◌*◌}
use Rattle.k2_file.proofs.build.+built.Given as goal

abbrev pub decreases-built_part : goal.decreases-built_part
decreases-built_part g l = 2 * l.height + 1

abbrev pub decreases-built_square : goal.decreases-built_square
decreases-built_square g l = 2 * l.height
