use Rattle.std.proofs.Common.{◌+◌, ◌*◌}
use Rattle.fork_quads.proofs.pieces.+multiplying.Given as goal

abbrev pub decreases-product_part : goal.decreases-product_part
decreases-product_part l = 2 * l.cuts

abbrev pub decreases-sum_part : goal.decreases-sum_part
decreases-sum_part l = 2 * l.cuts + 1
