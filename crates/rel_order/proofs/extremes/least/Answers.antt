use Rattle.std.proofs.Common.{arith}
use Rattle.rel_model.specs.Worker.{set_of}
use Rattle.rel_model.specs.Orders.{lower_bounds}
use Rattle.rel_order.proofs.Calling.{among_given, among_rooms}
use Rattle.rel_order.proofs.extremes.least.Goals as goal

pub returns-in_err-below-clause-room : goal.returns-in_err-below-clause-room
returns-in_err-below-clause-room g c = omega (arith, among_rooms c.args.r c.args.s c.requires.rows, c.in_err-below.ensures.room)

pub returns-in_err-found-clause-room : goal.returns-in_err-found-clause-room
returns-in_err-found-clause-room g c = omega (arith, among_rooms c.args.r c.args.s c.requires.rows, c.in_ok-below.ensures.room, c.in_err-found.ensures.room)

pub returns-clause-room : goal.returns-clause-room
returns-clause-room g c = omega (arith, among_rooms c.args.r c.args.s c.requires.rows, c.in_ok-below.ensures.room, c.in_ok-found.ensures.room)

pub returns-clause-value : goal.returns-clause-value
unfolding Rattle.rel_model.specs.Orders.least
returns-clause-value g c =
    let r = c.args.r in
    let s = c.args.s in
    let w0 = g.Q.Core.worker c.args.q.now in
    among_given w0 _ _ r.rows (lower_bounds (set_of w0 r) (set_of w0 s)) s _ _ c.requires.rows c.requires.right c.in_ok-below.ensures.keeps c.in_ok-below.ensures.value c.in_ok-found.ensures.value
