use Rattle.std.proofs.Common.{◌+◌, ◌*◌}
use Rattle.rel_rows.proofs.strips.+row.Given as goal

abbrev pub decreases-row_in_quad : goal.decreases-row_in_quad
decreases-row_in_quad g l = 3 * l.quad.height + 2

abbrev pub decreases-row_over : goal.decreases-row_over
decreases-row_over g l = 3 * l.quad.height + 1

abbrev pub decreases-row_of_two : goal.decreases-row_of_two
decreases-row_of_two g l = 3 * l.west.height + 3
