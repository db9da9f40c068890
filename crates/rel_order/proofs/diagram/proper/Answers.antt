use Rattle.std.proofs.Common.{◌∙◌, sym, arith}
use Rattle.rel_model.specs.Algebra.{HasType}
use Rattle.rel_model.specs.Worker.{set_of}
use Rattle.rel_order.proofs.Calling.{proper_given, less_room, less_rooms}
use Rattle.rel_order.proofs.diagram.proper.Goals as goal

pub returns-in_err-lesser-clause-room : goal.returns-in_err-lesser-clause-room
returns-in_err-lesser-clause-room g c = omega (arith, less_room c.args.r.rows c.args.r.cols, c.in_err-lesser.ensures.room)

pub returns-in_err-greater-clause-room : goal.returns-in_err-greater-clause-room
returns-in_err-greater-clause-room g c = omega (arith, less_rooms c.args.r.rows c.args.r.cols c.in_ok-lesser.lesser c.in_ok-lesser.ensures.value.row_size c.in_ok-lesser.ensures.value.col_size, c.in_ok-lesser.ensures.room, c.in_err-greater.ensures.room)

pub returns-in_err-other-clause-room : goal.returns-in_err-other-clause-room
returns-in_err-other-clause-room g c = omega (arith, less_rooms c.args.r.rows c.args.r.cols c.in_ok-lesser.lesser c.in_ok-lesser.ensures.value.row_size c.in_ok-lesser.ensures.value.col_size, c.in_ok-lesser.ensures.room, c.in_ok-greater.ensures.room, c.in_err-other.ensures.room)

pub returns-in_err-rest-clause-room : goal.returns-in_err-rest-clause-room
returns-in_err-rest-clause-room g c = omega (arith, less_rooms c.args.r.rows c.args.r.cols c.in_ok-lesser.lesser c.in_ok-lesser.ensures.value.row_size c.in_ok-lesser.ensures.value.col_size, c.in_ok-lesser.ensures.room, c.in_ok-greater.ensures.room, c.in_ok-other.ensures.room, c.in_err-rest.ensures.room)

pub returns-clause-room : goal.returns-clause-room
returns-clause-room g c = omega (arith, less_rooms c.args.r.rows c.args.r.cols c.in_ok-lesser.lesser c.in_ok-lesser.ensures.value.row_size c.in_ok-lesser.ensures.value.col_size, c.in_ok-lesser.ensures.room, c.in_ok-greater.ensures.room, c.in_ok-other.ensures.room, c.in_ok-rest.ensures.room)

pub returns-clause-value : goal.returns-clause-value
returns-clause-value g c =
    let laws = g.met.Q.Core in
    let o = c.args.q.now in
    let r = c.args.r in
    let w0 = g.Q.Core.worker o in
    let t : HasType r.rows r.rows (set_of w0 r) = record { valid = laws.valid o r c.requires.stands; row_size = laws.row_size o r c.requires.stands; col_size = laws.col_size o r c.requires.stands ∙ sym c.requires.square } in
    proper_given w0 _ _ _ _ r _ _ _ _ t c.requires.stands c.in_ok-lesser.ensures.keeps c.in_ok-greater.ensures.keeps c.in_ok-other.ensures.keeps
    c.in_ok-lesser.ensures.value c.in_ok-greater.ensures.value c.in_ok-other.ensures.value c.in_ok-rest.ensures.value
