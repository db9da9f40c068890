use Rattle.std.proofs.Common.{◌+◌, ◌*◌}
use Rattle.k2_file.proofs.counting.+counted.Given as goal

abbrev pub decreases-counted_part : goal.decreases-counted_part
decreases-counted_part g l = 4 * l.height + 2

abbrev pub decreases-counted_square : goal.decreases-counted_square
decreases-counted_square g l = 4 * l.height + 1

abbrev pub decreases-counted_below : goal.decreases-counted_below
decreases-counted_below g l = 4 * l.height

abbrev pub decreases-counted_two : goal.decreases-counted_two
decreases-counted_two g l = 4 * l.height + 3
