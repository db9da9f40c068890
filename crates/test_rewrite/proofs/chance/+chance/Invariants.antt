use Rattle.std.proofs.Common.{◌+◌, ◌*◌}
use Rattle.test_rewrite.proofs.chance.+chance.Given as goal

abbrev pub decreases-both : goal.decreases-both
decreases-both l = 3 * (l.nodes.0 + l.nodes.1) + 3

abbrev pub decreases-composed : goal.decreases-composed
decreases-composed l = 3 * l.nodes + 1

abbrev pub decreases-expression : goal.decreases-expression
decreases-expression l = 3 * l.nodes + 2
