use Rattle.std.proofs.Common.{◌+◌, ◌*◌}
use Rattle.rel_compose.proofs.transpose.+transposing.Given as goal

abbrev pub decreases-transpose_quad : goal.decreases-transpose_quad
decreases-transpose_quad l = 3 * l.a.height + 2

abbrev pub decreases-transposed_over : goal.decreases-transposed_over
decreases-transposed_over l = 3 * l.a.height + 1

abbrev pub decreases-transposed_by_quarters : goal.decreases-transposed_by_quarters
decreases-transposed_by_quarters l = 3 * l.a.height
