use Rattle.std.proofs.Common.{◌+◌, ◌*◌}
use Rattle.rel_choice.proofs.rows.+row.Given as goal

abbrev pub decreases-row_from : goal.decreases-row_from
decreases-row_from g l = 3 * l.quad.height + 2

abbrev pub decreases-row_over : goal.decreases-row_over
decreases-row_over g l = 3 * l.quad.height + 1

abbrev pub decreases-row_of_two : goal.decreases-row_of_two
decreases-row_of_two g l = 3 * l.west.height + 3
