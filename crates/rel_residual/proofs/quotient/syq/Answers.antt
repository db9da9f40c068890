use Rattle.std.proofs.Common.{◌*◌, ◌+◌, ◌^◌, ◌∙◌, refl, sym, arith}
use Rattle.rel_model.specs.Worker.{MakesAtMost, height_of_three, derived_room}
use Rattle.rel_model.proofs.Rooms.{wide_room-four}
use Rattle.rel_steps.proofs.Rooms.{step_rooms}
use Rattle.rel_residual.proofs.Deriving.{quotient_given}
use Rattle.rel_residual.proofs.quotient.syq.Given.{Over}
use Rattle.rel_residual.proofs.quotient.syq.Goals.{In_ok-r_turned, In_ok-s_turned, In_ok-back}
use Rattle.rel_residual.proofs.quotient.syq.Goals as goal

pub returns-clause-value : goal.returns-clause-value
returns-clause-value g c =
    let laws = g.met.C.Core in
    let o = c.args.core.now in
    quotient_given (g.C.Core.worker o) (g.C.Core.worker c.right.new.core) (g.C.Core.worker c.transpose.new.self) (g.C.Core.worker c.transpose-2.new.self) (g.C.Core.worker c.left.new.core) (g.C.Core.worker c.inter.new.self)
    c.args.r c.args.s c.in_ok-forth.forth c.in_ok-r_turned.r_turned c.in_ok-s_turned.s_turned c.in_ok-back.back c.in_ok-both.both
    (record { valid = laws.valid o c.args.r c.requires.left; row_size = laws.row_size o c.args.r c.requires.left; col_size = laws.col_size o c.args.r c.requires.left })
    (record { valid = laws.valid o c.args.s c.requires.right; row_size = laws.row_size o c.args.s c.requires.right ∙ sym c.requires.rows; col_size = laws.col_size o c.args.s c.requires.right })
    c.requires.left c.requires.right c.in_ok-forth.ensures.keeps c.in_ok-r_turned.ensures.keeps c.in_ok-s_turned.ensures.keeps c.in_ok-back.ensures.keeps
    c.in_ok-forth.ensures.value c.in_ok-r_turned.ensures.value c.in_ok-s_turned.ensures.value c.in_ok-back.ensures.value c.in_ok-both.ensures.value

-- ---- rooms
r_turned_room : (g : Over) (c : In_ok-r_turned g) → MakesAtMost (derived_room c.args.r.rows c.args.r.cols c.args.s.cols + 4 * 8 ^ height_of_three c.args.r.rows c.args.r.cols c.args.s.cols) (g.C.Core.worker c.args.core.now) (g.C.Core.worker c.transpose.new.self)
r_turned_room g c =
    let q = step_rooms c.args.r.rows c.args.r.cols c.args.s.cols in
    omega (arith, c.in_ok-forth.ensures.room, q.least, c.in_ok-r_turned.ensures.room, q.km _ _ refl refl)

s_turned_room : (g : Over) (c : In_ok-s_turned g) → MakesAtMost (derived_room c.args.r.rows c.args.r.cols c.args.s.cols + 8 * 8 ^ height_of_three c.args.r.rows c.args.r.cols c.args.s.cols) (g.C.Core.worker c.args.core.now) (g.C.Core.worker c.transpose-2.new.self)
s_turned_room g c =
    let q = step_rooms c.args.r.rows c.args.r.cols c.args.s.cols in
    omega (arith, c.in_ok-forth.ensures.room, q.least, c.in_ok-r_turned.ensures.room, q.km _ _ refl refl, c.in_ok-s_turned.ensures.room, q.kn c.args.s.rows _ (sym c.requires.rows) refl)

back_room : (g : Over) (c : In_ok-back g) → MakesAtMost (derived_room c.args.r.rows c.args.r.cols c.args.s.cols + (derived_room c.args.r.rows c.args.r.cols c.args.s.cols + 8 * 8 ^ height_of_three c.args.r.rows c.args.r.cols c.args.s.cols)) (g.C.Core.worker c.args.core.now) (g.C.Core.worker c.left.new.core)
back_room g c =
    let q = step_rooms c.args.r.rows c.args.r.cols c.args.s.cols in
    omega (arith, c.in_ok-forth.ensures.room, q.least, c.in_ok-r_turned.ensures.room, q.km _ _ refl refl, c.in_ok-s_turned.ensures.room, q.kn c.args.s.rows _ (sym c.requires.rows) refl, c.in_ok-back.ensures.room, q.derived _ _ _ c.in_ok-r_turned.ensures.value.row_size c.in_ok-r_turned.ensures.value.col_size c.in_ok-s_turned.ensures.value.row_size)

pub returns-in_err-forth-clause-room : goal.returns-in_err-forth-clause-room
returns-in_err-forth-clause-room g c =
    let q = step_rooms c.args.r.rows c.args.r.cols c.args.s.cols in
    let four = wide_room-four c.args.r.rows c.args.r.cols c.args.s.cols in
    omega (arith, c.in_err-forth.ensures.room, q.least, q.least, four)

pub returns-in_err-r_turned-clause-room : goal.returns-in_err-r_turned-clause-room
returns-in_err-r_turned-clause-room g c =
    let q = step_rooms c.args.r.rows c.args.r.cols c.args.s.cols in
    let four = wide_room-four c.args.r.rows c.args.r.cols c.args.s.cols in
    omega (arith, c.in_ok-forth.ensures.room, q.least, c.in_err-r_turned.ensures.room, q.km _ _ refl refl, q.least, four)

pub returns-in_err-s_turned-clause-room : goal.returns-in_err-s_turned-clause-room
returns-in_err-s_turned-clause-room g c =
    let q = step_rooms c.args.r.rows c.args.r.cols c.args.s.cols in
    let four = wide_room-four c.args.r.rows c.args.r.cols c.args.s.cols in
    omega (arith, r_turned_room g (goal.at.returns-in_err-s_turned-clause-room g c).In_ok-r_turned, c.in_err-s_turned.ensures.room, q.kn c.args.s.rows _ (sym c.requires.rows) refl, q.least, four)

pub returns-in_err-back-clause-room : goal.returns-in_err-back-clause-room
returns-in_err-back-clause-room g c =
    let q = step_rooms c.args.r.rows c.args.r.cols c.args.s.cols in
    let four = wide_room-four c.args.r.rows c.args.r.cols c.args.s.cols in
    omega (arith, s_turned_room g (goal.at.returns-in_err-back-clause-room g c).In_ok-s_turned, c.in_err-back.ensures.room, q.derived _ _ _ c.in_ok-r_turned.ensures.value.row_size c.in_ok-r_turned.ensures.value.col_size c.in_ok-s_turned.ensures.value.row_size, q.least, four)

pub returns-in_err-both-clause-room : goal.returns-in_err-both-clause-room
returns-in_err-both-clause-room g c =
    let q = step_rooms c.args.r.rows c.args.r.cols c.args.s.cols in
    let four = wide_room-four c.args.r.rows c.args.r.cols c.args.s.cols in
    omega (arith, back_room g (goal.at.returns-in_err-both-clause-room g c).In_ok-back, c.in_err-both.ensures.room, q.mn _ _ c.in_ok-forth.ensures.value.row_size c.in_ok-forth.ensures.value.col_size, q.least, four)

pub returns-clause-room : goal.returns-clause-room
returns-clause-room g c =
    let q = step_rooms c.args.r.rows c.args.r.cols c.args.s.cols in
    let four = wide_room-four c.args.r.rows c.args.r.cols c.args.s.cols in
    omega (arith, back_room g (goal.at.returns-clause-room g c).In_ok-back, c.in_ok-both.ensures.room, q.mn _ _ c.in_ok-forth.ensures.value.row_size c.in_ok-forth.ensures.value.col_size, q.least, four)
