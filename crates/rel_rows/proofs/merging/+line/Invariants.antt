use Rattle.std.proofs.Common.{◌+◌, ◌*◌}
use Rattle.rel_rows.proofs.merging.+line.Given as goal

abbrev pub decreases-with_line : goal.decreases-with_line
decreases-with_line g l = 3 * l.quad.height + 2

abbrev pub decreases-with_low_line : goal.decreases-with_low_line
decreases-with_low_line g l = 3 * l.quad.height + 1

abbrev pub decreases-with_line_over : goal.decreases-with_line_over
decreases-with_line_over g l = 3 * l.quad.height + 1

abbrev pub decreases-with_halves : goal.decreases-with_halves
decreases-with_halves g l = 3 * l.west.height + 3
