use Rattle.std.proofs.Common.{arith}
use Rattle.rel_choice.proofs.DerivedRooms.{dom-room}
use Rattle.rel_choice.proofs.images.dom.Goals as goal

pub returns-clause-room : goal.returns-clause-room
returns-clause-room g c = let r = dom-room c.args.r.rows c.args.r.cols in let m = c.rows_met.ensures.room in omega (arith, r, m)
