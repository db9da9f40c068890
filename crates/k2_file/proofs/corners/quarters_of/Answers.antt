-- Each corner has room for its quarters.
use Rattle.k2_file.proofs.ReadWalk.{inside-at}
use Rattle.k2_file.proofs.corners.quarters_of.Goals as goal

pub push_quarters-requires-clause-row : goal.push_quarters-requires-clause-row
push_quarters-requires-clause-row c = (inside-at c.args.side c.args.corners.now c.corners.corner-index _ c.requires c.corners-test.true).0

pub push_quarters-requires-clause-col : goal.push_quarters-requires-clause-col
push_quarters-requires-clause-col c = (inside-at c.args.side c.args.corners.now c.corners.corner-index _ c.requires c.corners-test.true).1
