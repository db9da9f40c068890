use Rattle.std.proofs.Common.{◌+◌, ◌*◌}
use Rattle.rel_choice.proofs.lines.+apart.Given as goal

abbrev pub decreases-are_apart : goal.decreases-are_apart
decreases-are_apart g l = 3 * l.a.height + 1

abbrev pub decreases-are_apart_over : goal.decreases-are_apart_over
decreases-are_apart_over g l = 3 * l.a.height

abbrev pub decreases-are_halves_apart : goal.decreases-are_halves_apart
decreases-are_halves_apart g l = 3 * l.a.0.height + 2
