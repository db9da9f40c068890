use Rattle.std.proofs.Common.{◌∙◌, sym, arith}
use Rattle.rel_model.specs.Algebra.{HasType}
use Rattle.rel_model.specs.Worker.{set_of}
use Rattle.rel_model.proofs.Rooms.{wide_room-four}
use Rattle.rel_order.proofs.Calling.{hasse_given, hasse_rooms}
use Rattle.rel_order.proofs.diagram.hasse.Goals as goal

pub returns-in_err-steps-clause-room : goal.returns-in_err-steps-clause-room
returns-in_err-steps-clause-room g c = omega (arith, wide_room-four c.args.r.rows c.args.r.cols c.args.r.cols, c.in_err-steps.ensures.room)

pub returns-in_err-twice-clause-room : goal.returns-in_err-twice-clause-room
returns-in_err-twice-clause-room g c = omega (arith, hasse_rooms c.args.r.rows c.args.r.cols c.in_ok-steps.steps c.in_ok-steps.ensures.value.row_size c.in_ok-steps.ensures.value.col_size, c.in_ok-steps.ensures.room, c.in_err-twice.ensures.room)

pub returns-in_err-rest-clause-room : goal.returns-in_err-rest-clause-room
returns-in_err-rest-clause-room g c = omega (arith, hasse_rooms c.args.r.rows c.args.r.cols c.in_ok-steps.steps c.in_ok-steps.ensures.value.row_size c.in_ok-steps.ensures.value.col_size, c.in_ok-steps.ensures.room, c.in_ok-twice.ensures.room, c.in_err-rest.ensures.room)

pub returns-clause-room : goal.returns-clause-room
returns-clause-room g c = omega (arith, hasse_rooms c.args.r.rows c.args.r.cols c.in_ok-steps.steps c.in_ok-steps.ensures.value.row_size c.in_ok-steps.ensures.value.col_size, c.in_ok-steps.ensures.room, c.in_ok-twice.ensures.room, c.in_ok-rest.ensures.room)

pub returns-clause-value : goal.returns-clause-value
returns-clause-value g c =
    let laws = g.met.Q.Core in
    let o = c.args.q.now in
    let r = c.args.r in
    let w0 = g.Q.Core.worker o in
    let t : HasType r.rows r.rows (set_of w0 r) = record { valid = laws.valid o r c.requires.stands; row_size = laws.row_size o r c.requires.stands; col_size = laws.col_size o r c.requires.stands ∙ sym c.requires.square } in
    hasse_given w0 _ _ _ r _ _ _ t c.in_ok-twice.ensures.keeps c.in_ok-steps.ensures.value c.in_ok-twice.ensures.value c.in_ok-rest.ensures.value
