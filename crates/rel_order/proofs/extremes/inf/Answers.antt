use Rattle.std.proofs.Common.{refl, arith}
use Rattle.rel_model.specs.Worker.{set_of}
use Rattle.rel_model.specs.Orders.{lower_bounds, greatest}
use Rattle.rel_order.proofs.Calling.{extreme_given, extreme_rooms}
use Rattle.rel_order.proofs.extremes.inf.Goals as goal

pub returns-in_err-lowers-clause-room : goal.returns-in_err-lowers-clause-room
returns-in_err-lowers-clause-room g c = omega (arith, extreme_rooms c.args.r.rows c.args.r.cols c.args.s.cols _ refl, c.in_err-lowers.ensures.room)

pub returns-in_err-found-clause-room : goal.returns-in_err-found-clause-room
returns-in_err-found-clause-room g c = omega (arith, extreme_rooms c.args.r.rows c.args.r.cols c.args.s.cols _ c.in_ok-lowers.ensures.value.col_size, c.in_ok-lowers.ensures.room, c.in_err-found.ensures.room)

pub returns-clause-room : goal.returns-clause-room
returns-clause-room g c = omega (arith, extreme_rooms c.args.r.rows c.args.r.cols c.args.s.cols _ c.in_ok-lowers.ensures.value.col_size, c.in_ok-lowers.ensures.room, c.in_ok-found.ensures.room)

pub returns-clause-value : goal.returns-clause-value
unfolding Rattle.rel_model.specs.Orders.infima
returns-clause-value g c =
    let r = c.args.r in
    let s = c.args.s in
    let w0 = g.Q.Core.worker c.args.q.now in
    extreme_given greatest (lower_bounds (set_of w0 r) (set_of w0 s)) w0 _ _ s.cols r _ _ c.requires.left c.in_ok-lowers.ensures.keeps c.in_ok-lowers.ensures.value c.in_ok-found.ensures.value
