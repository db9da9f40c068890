use Rattle.std.proofs.Common.{◌-◌}
use Rattle.fork_quads.proofs.product.+raised.Given as goal

abbrev pub decreases-raised : goal.decreases-raised
decreases-raised l = l.height - l.q.height
