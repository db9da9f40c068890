use Rattle.std.proofs.Common.{◌∙◌, sym, arith}
use Rattle.rel_model.specs.Algebra.{HasType}
use Rattle.rel_model.specs.Worker.{set_of}
use Rattle.rel_steps.proofs.Rooms.{step_rooms}
use Rattle.rel_order.proofs.Calling.{upper_given, bound_rooms}
use Rattle.rel_order.proofs.bounds.ubd.Goals as goal

pub returns-in_err-r_turned-clause-room : goal.returns-in_err-r_turned-clause-room
returns-in_err-r_turned-clause-room g c = omega (arith, bound_rooms c.args.r c.args.s c.requires.rows, c.in_err-r_turned.ensures.room)

pub returns-in_err-s_turned-clause-room : goal.returns-in_err-s_turned-clause-room
returns-in_err-s_turned-clause-room g c = omega (arith, bound_rooms c.args.r c.args.s c.requires.rows, c.in_ok-r_turned.ensures.room, c.in_err-s_turned.ensures.room)

pub returns-in_err-bounds-clause-room : goal.returns-in_err-bounds-clause-room
returns-in_err-bounds-clause-room g c =
    let q = step_rooms c.args.r.rows c.args.r.cols c.args.s.cols in
    let t = c.in_ok-r_turned.ensures.value in
    omega (arith, bound_rooms c.args.r c.args.s c.requires.rows, q.derived _ _ _ t.row_size t.col_size c.in_ok-s_turned.ensures.value.row_size, c.in_ok-r_turned.ensures.room, c.in_ok-s_turned.ensures.room, c.in_err-bounds.ensures.room)

pub returns-clause-room : goal.returns-clause-room
returns-clause-room g c =
    let q = step_rooms c.args.r.rows c.args.r.cols c.args.s.cols in
    let t = c.in_ok-r_turned.ensures.value in
    omega (arith, bound_rooms c.args.r c.args.s c.requires.rows, q.derived _ _ _ t.row_size t.col_size c.in_ok-s_turned.ensures.value.row_size, c.in_ok-r_turned.ensures.room, c.in_ok-s_turned.ensures.room, c.in_ok-bounds.ensures.room)

pub returns-clause-value : goal.returns-clause-value
returns-clause-value g c =
    let laws = g.met.Q.Core in
    let o = c.args.q.now in
    let r = c.args.r in
    let s = c.args.s in
    let w0 = g.Q.Core.worker o in
    let tr : HasType r.rows r.rows (set_of w0 r) = record { valid = laws.valid o r c.requires.left; row_size = laws.row_size o r c.requires.left; col_size = laws.col_size o r c.requires.left ∙ sym c.requires.square } in
    let ts : HasType r.rows s.cols (set_of w0 s) = record { valid = laws.valid o s c.requires.right; row_size = laws.row_size o s c.requires.right ∙ sym c.requires.rows; col_size = laws.col_size o s c.requires.right } in
    upper_given w0 _ _ _ r s _ _ _ c.requires.square tr ts c.requires.right c.in_ok-r_turned.ensures.keeps c.in_ok-s_turned.ensures.keeps
    c.in_ok-r_turned.ensures.value c.in_ok-s_turned.ensures.value c.in_ok-bounds.ensures.value
