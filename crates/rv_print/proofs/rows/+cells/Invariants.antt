use Rattle.std.proofs.Common.{◌+◌, ◌*◌}
use Rattle.rv_print.proofs.rows.+cells.Given as goal

abbrev pub decreases-push_cells : goal.decreases-push_cells
decreases-push_cells g l = 3 * l.quad.height + 2

abbrev pub decreases-push_half : goal.decreases-push_half
decreases-push_half g l = 3 * l.quad.height + 1

abbrev pub decreases-push_two : goal.decreases-push_two
decreases-push_two g l = 3 * l.west.height + 3
