use Rattle.std.proofs.Common.{◌+◌, ◌*◌}
use Rattle.rel_boole.proofs.meet.+meeting.Given as goal

abbrev pub decreases-quads_meet : goal.decreases-quads_meet
decreases-quads_meet l = 3 * l.a.height + 2

abbrev pub decreases-meet_over : goal.decreases-meet_over
decreases-meet_over l = 3 * l.a.height + 1

abbrev pub decreases-meet_by_quarters : goal.decreases-meet_by_quarters
decreases-meet_by_quarters l = 3 * l.a.height
