use Rattle.std.proofs.Common.{◌+◌, ◌*◌}
use Rattle.rel_choice.proofs.lines.+single.Given as goal

abbrev pub decreases-is_single : goal.decreases-is_single
decreases-is_single g l = 3 * l.quad.height + 1

abbrev pub decreases-is_single_over : goal.decreases-is_single_over
decreases-is_single_over g l = 3 * l.quad.height

abbrev pub decreases-is_single_besides : goal.decreases-is_single_besides
decreases-is_single_besides g l = 3 * l.quad.height + 2
