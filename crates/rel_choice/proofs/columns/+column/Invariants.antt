use Rattle.std.proofs.Common.{◌+◌, ◌*◌}
use Rattle.rel_choice.proofs.columns.+column.Given as goal

abbrev pub decreases-column_from : goal.decreases-column_from
decreases-column_from g l = 3 * l.quad.height + 2

abbrev pub decreases-column_over : goal.decreases-column_over
decreases-column_over g l = 3 * l.quad.height + 1

abbrev pub decreases-column_of_two : goal.decreases-column_of_two
decreases-column_of_two g l = 3 * l.west.height + 3
