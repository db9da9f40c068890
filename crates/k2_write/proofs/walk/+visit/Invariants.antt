use Rattle.std.proofs.Common.{◌+◌, ◌*◌}
use Rattle.k2_write.proofs.walk.+visit.Given as goal

abbrev pub decreases-visit_part : goal.decreases-visit_part
decreases-visit_part g l = 5 * l.height + 3

abbrev pub decreases-visit_square : goal.decreases-visit_square
decreases-visit_square g l = 5 * l.height + 2

abbrev pub decreases-visit_quad : goal.decreases-visit_quad
decreases-visit_quad g l = 5 * l.height + 1

abbrev pub decreases-visit_window : goal.decreases-visit_window
decreases-visit_window g l = 5 * l.height + 1

abbrev pub decreases-visit_quarters : goal.decreases-visit_quarters
decreases-visit_quarters g l = 5 * l.height

abbrev pub decreases-visit_two : goal.decreases-visit_two
decreases-visit_two g l = 5 * l.height + 4
