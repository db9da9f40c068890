use Rattle.std.proofs.Common.{◌+◌, ◌*◌}
use Rattle.fork_quads.proofs.gather.+gathering.Given as goal

abbrev pub decreases-beside : goal.decreases-beside
decreases-beside l = 2 * l.cuts + 1

abbrev pub decreases-gathered : goal.decreases-gathered
decreases-gathered l = 2 * l.cuts
