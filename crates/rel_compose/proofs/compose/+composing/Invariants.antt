use Rattle.std.proofs.Common.{◌+◌, ◌*◌}
use Rattle.rel_compose.proofs.compose.+composing.Given as goal

abbrev pub decreases-compose_up_to : goal.decreases-compose_up_to
decreases-compose_up_to l = 5 * l.a.height + 4

abbrev pub decreases-over_blocks : goal.decreases-over_blocks
decreases-over_blocks l = 5 * l.a.height + 3

abbrev pub decreases-by_quarters : goal.decreases-by_quarters
decreases-by_quarters l = 5 * l.a.height + 2

abbrev pub decreases-row_of_products : goal.decreases-row_of_products
decreases-row_of_products l = 5 * l.row.0.height + 6

abbrev pub decreases-row_times_column : goal.decreases-row_times_column
decreases-row_times_column l = 5 * l.row.0.height + 5
