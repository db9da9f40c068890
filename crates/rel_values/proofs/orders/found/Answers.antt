use Rattle.std.proofs.Common.{arith}
use Rattle.rel_values.proofs.Sizes.{extremes}
use Rattle.rel_values.proofs.orders.found.Goals as goal

pub returns-in-Least-clause-room : goal.returns-in-Least-clause-room
returns-in-Least-clause-room g c =
    let a = c.least.ensures.room in
    let b = (extremes c.args.r.rows c.args.r.cols c.args.s.cols).wide in
    omega (arith, a, b)

pub returns-in-Greatest-clause-room : goal.returns-in-Greatest-clause-room
returns-in-Greatest-clause-room g c =
    let a = c.greatest.ensures.room in
    let b = (extremes c.args.r.rows c.args.r.cols c.args.s.cols).wide in
    omega (arith, a, b)
