use Rattle.std.proofs.Common.{◌*◌, ◌^◌, ◌∙◌, refl, sym, arith}
use Rattle.rel_model.specs.Worker.{MakesAtMost, height_of_three}
use Rattle.rel_steps.proofs.Rooms.{step_rooms}
use Rattle.rel_residual.proofs.Deriving.{right_given}
use Rattle.rel_residual.proofs.residuals.right.Given.{Over}
use Rattle.rel_residual.proofs.residuals.right.Goals.{In_ok-lacking, In_ok-broken}
use Rattle.rel_residual.proofs.residuals.right.Goals as goal

pub returns-clause-value : goal.returns-clause-value
returns-clause-value g c =
    let laws = g.met.C.Core in
    let o = c.args.core.now in
    right_given (g.C.Core.worker o) (g.C.Core.worker c.transpose.new.self) (g.C.Core.worker c.complement.new.core) (g.C.Core.worker c.compose.new.self) (g.C.Core.worker c.complement-2.new.core)
    c.args.r c.args.s c.in_ok-turned.turned c.in_ok-lacking.lacking c.in_ok-broken.broken c.in_ok-rest.rest
    (record { valid = laws.valid o c.args.r c.requires.left; row_size = laws.row_size o c.args.r c.requires.left; col_size = laws.col_size o c.args.r c.requires.left })
    (record { valid = laws.valid o c.args.s c.requires.right; row_size = laws.row_size o c.args.s c.requires.right ∙ sym c.requires.rows; col_size = laws.col_size o c.args.s c.requires.right })
    c.requires.right c.in_ok-turned.ensures.keeps c.in_ok-lacking.ensures.keeps c.in_ok-turned.ensures.value c.in_ok-lacking.ensures.value c.in_ok-broken.ensures.value c.in_ok-rest.ensures.value

-- ---- rooms
lacking_room : (g : Over) (c : In_ok-lacking g) → MakesAtMost (12 * 8 ^ height_of_three c.args.r.rows c.args.r.cols c.args.s.cols) (g.C.Core.worker c.args.core.now) (g.C.Core.worker c.complement.new.core)
lacking_room g c =
    let q = step_rooms c.args.r.rows c.args.r.cols c.args.s.cols in
    omega (arith, c.in_ok-turned.ensures.room, q.km _ _ refl refl, c.in_ok-lacking.ensures.room, q.kn c.args.s.rows _ (sym c.requires.rows) refl)

broken_room : (g : Over) (c : In_ok-broken g) → MakesAtMost (28 * 8 ^ height_of_three c.args.r.rows c.args.r.cols c.args.s.cols) (g.C.Core.worker c.args.core.now) (g.C.Core.worker c.compose.new.self)
broken_room g c =
    let q = step_rooms c.args.r.rows c.args.r.cols c.args.s.cols in
    omega (arith, c.in_ok-turned.ensures.room, q.km _ _ refl refl, c.in_ok-lacking.ensures.room, q.kn c.args.s.rows _ (sym c.requires.rows) refl, c.in_ok-broken.ensures.room, q.mkn _ _ _ c.in_ok-turned.ensures.value.row_size c.in_ok-turned.ensures.value.col_size c.in_ok-lacking.ensures.value.col_size)

pub returns-in_err-turned-clause-room : goal.returns-in_err-turned-clause-room
returns-in_err-turned-clause-room g c =
    let q = step_rooms c.args.r.rows c.args.r.cols c.args.s.cols in
    omega (arith, c.in_err-turned.ensures.room, q.km _ _ refl refl, q.least)

pub returns-in_err-lacking-clause-room : goal.returns-in_err-lacking-clause-room
returns-in_err-lacking-clause-room g c =
    let q = step_rooms c.args.r.rows c.args.r.cols c.args.s.cols in
    omega (arith, c.in_ok-turned.ensures.room, q.km _ _ refl refl, c.in_err-lacking.ensures.room, q.kn c.args.s.rows _ (sym c.requires.rows) refl, q.least)

pub returns-in_err-broken-clause-room : goal.returns-in_err-broken-clause-room
returns-in_err-broken-clause-room g c =
    let q = step_rooms c.args.r.rows c.args.r.cols c.args.s.cols in
    omega (arith, lacking_room g (goal.at.returns-in_err-broken-clause-room g c).In_ok-lacking, c.in_err-broken.ensures.room, q.mkn _ _ _ c.in_ok-turned.ensures.value.row_size c.in_ok-turned.ensures.value.col_size c.in_ok-lacking.ensures.value.col_size, q.least)

pub returns-in_err-rest-clause-room : goal.returns-in_err-rest-clause-room
returns-in_err-rest-clause-room g c =
    let q = step_rooms c.args.r.rows c.args.r.cols c.args.s.cols in
    omega (arith, broken_room g (goal.at.returns-in_err-rest-clause-room g c).In_ok-broken, c.in_err-rest.ensures.room, q.mn _ _ (c.in_ok-broken.ensures.value.row_size ∙ c.in_ok-turned.ensures.value.row_size) (c.in_ok-broken.ensures.value.col_size ∙ c.in_ok-lacking.ensures.value.col_size), q.least)

pub returns-clause-room : goal.returns-clause-room
returns-clause-room g c =
    let q = step_rooms c.args.r.rows c.args.r.cols c.args.s.cols in
    omega (arith, broken_room g (goal.at.returns-clause-room g c).In_ok-broken, c.in_ok-rest.ensures.room, q.mn _ _ (c.in_ok-broken.ensures.value.row_size ∙ c.in_ok-turned.ensures.value.row_size) (c.in_ok-broken.ensures.value.col_size ∙ c.in_ok-lacking.ensures.value.col_size), q.least)
