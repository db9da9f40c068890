use Rattle.std.proofs.Common.{◌+◌, ◌^◌}
use Rattle.k2_file.specs.Squares.{square_cells}
use Rattle.k2_file.proofs.WriteWalk.{four-added-where}
use Rattle.k2_file.proofs.walk.push_square.Goals as goal

pub returns-clause-next : goal.returns-clause-next
returns-clause-next g c =
    four-added-where c.push_two-2.result (g.E.Core.worker c.args.engine.now) (g.E.Core.worker c.quarters_of-nw.new.engine) g.E.Core.least c.args.height (square_cells (g.E.Core.worker c.args.engine.now) (2 ^ (c.args.height + 1)) c.args.square) c.quarters_of-nw.result
    c.args.next.now.items c.push_two.new.next.items c.push_two-2.new.next.items
    c.quarters_of-nw.ensures.keeps c.requires.next c.quarters_of-nw.ensures.shows c.in_ok-push_two.ensures.next c.push_two-2.ensures.next
