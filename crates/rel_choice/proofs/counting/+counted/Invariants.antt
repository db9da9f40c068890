use Rattle.std.proofs.Common.{◌+◌, ◌*◌}
use Rattle.rel_choice.proofs.counting.+counted.Given as goal

abbrev pub decreases-counted : goal.decreases-counted
decreases-counted g l = 2 * l.quad.height + 1

abbrev pub decreases-counted_over : goal.decreases-counted_over
decreases-counted_over g l = 2 * l.quad.height
