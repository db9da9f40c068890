use Rattle.std.proofs.Common.{◌-◌}
use Rattle.fork_quads.proofs.group.+groups.Given as goal

abbrev pub decreases-groups : goal.decreases-groups
decreases-groups g l = l.past - l.from
