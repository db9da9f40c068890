use Rattle.std.proofs.Common.{◌+◌, ◌*◌}
use Rattle.rel_boole.proofs.boole.+combining.Given as goal

abbrev pub decreases-combined : goal.decreases-combined
decreases-combined l = 3 * l.a.height + 2

abbrev pub decreases-combined_over : goal.decreases-combined_over
decreases-combined_over l = 3 * l.a.height + 1

abbrev pub decreases-combined_by_quarters : goal.decreases-combined_by_quarters
decreases-combined_by_quarters l = 3 * l.a.height
