use Rattle.std.proofs.Common.{◌*◌, ◌^◌, ◌∙◌, refl, sym, arith}
use Rattle.rel_model.specs.Worker.{MakesAtMost, height_of_three}
use Rattle.rel_steps.proofs.Rooms.{step_rooms}
use Rattle.rel_residual.proofs.Deriving.{left_given}
use Rattle.rel_residual.proofs.residuals.left.Given.{Over}
use Rattle.rel_residual.proofs.residuals.left.Goals.{In_ok-turned, In_ok-broken}
use Rattle.rel_residual.proofs.residuals.left.Goals as goal

pub returns-clause-value : goal.returns-clause-value
returns-clause-value g c =
    let laws = g.met.C.Core in
    let o = c.args.core.now in
    left_given (g.C.Core.worker o) (g.C.Core.worker c.complement.new.core) (g.C.Core.worker c.transpose.new.self) (g.C.Core.worker c.compose.new.self) (g.C.Core.worker c.complement-2.new.core)
    c.args.s c.args.r c.in_ok-lacking.lacking c.in_ok-turned.turned c.in_ok-broken.broken c.in_ok-rest.rest
    (record { valid = laws.valid o c.args.r c.requires.right; row_size = laws.row_size o c.args.r c.requires.right; col_size = laws.col_size o c.args.r c.requires.right ∙ sym c.requires.cols })
    (record { valid = laws.valid o c.args.s c.requires.left; row_size = laws.row_size o c.args.s c.requires.left; col_size = laws.col_size o c.args.s c.requires.left })
    c.requires.right c.in_ok-lacking.ensures.keeps c.in_ok-turned.ensures.keeps c.in_ok-lacking.ensures.value c.in_ok-turned.ensures.value c.in_ok-broken.ensures.value c.in_ok-rest.ensures.value

-- ---- rooms
turned_room : (g : Over) (c : In_ok-turned g) → MakesAtMost (12 * 8 ^ height_of_three c.args.s.rows c.args.s.cols c.args.r.rows) (g.C.Core.worker c.args.core.now) (g.C.Core.worker c.transpose.new.self)
turned_room g c =
    let q = step_rooms c.args.s.rows c.args.s.cols c.args.r.rows in
    omega (arith, c.in_ok-lacking.ensures.room, q.km _ _ refl refl, c.in_ok-turned.ensures.room, q.nm _ _ refl (sym c.requires.cols))

broken_room : (g : Over) (c : In_ok-broken g) → MakesAtMost (28 * 8 ^ height_of_three c.args.s.rows c.args.s.cols c.args.r.rows) (g.C.Core.worker c.args.core.now) (g.C.Core.worker c.compose.new.self)
broken_room g c =
    let q = step_rooms c.args.s.rows c.args.s.cols c.args.r.rows in
    omega (arith, c.in_ok-lacking.ensures.room, q.km _ _ refl refl, c.in_ok-turned.ensures.room, q.nm _ _ refl (sym c.requires.cols), c.in_ok-broken.ensures.room, q.kmn _ _ _ c.in_ok-lacking.ensures.value.row_size c.in_ok-lacking.ensures.value.col_size c.in_ok-turned.ensures.value.col_size)

pub returns-in_err-lacking-clause-room : goal.returns-in_err-lacking-clause-room
returns-in_err-lacking-clause-room g c =
    let q = step_rooms c.args.s.rows c.args.s.cols c.args.r.rows in
    omega (arith, c.in_err-lacking.ensures.room, q.km _ _ refl refl, q.least)

pub returns-in_err-turned-clause-room : goal.returns-in_err-turned-clause-room
returns-in_err-turned-clause-room g c =
    let q = step_rooms c.args.s.rows c.args.s.cols c.args.r.rows in
    omega (arith, c.in_ok-lacking.ensures.room, q.km _ _ refl refl, c.in_err-turned.ensures.room, q.nm _ _ refl (sym c.requires.cols), q.least)

pub returns-in_err-broken-clause-room : goal.returns-in_err-broken-clause-room
returns-in_err-broken-clause-room g c =
    let q = step_rooms c.args.s.rows c.args.s.cols c.args.r.rows in
    omega (arith, turned_room g (goal.at.returns-in_err-broken-clause-room g c).In_ok-turned, c.in_err-broken.ensures.room, q.kmn _ _ _ c.in_ok-lacking.ensures.value.row_size c.in_ok-lacking.ensures.value.col_size c.in_ok-turned.ensures.value.col_size, q.least)

pub returns-in_err-rest-clause-room : goal.returns-in_err-rest-clause-room
returns-in_err-rest-clause-room g c =
    let q = step_rooms c.args.s.rows c.args.s.cols c.args.r.rows in
    omega (arith, broken_room g (goal.at.returns-in_err-rest-clause-room g c).In_ok-broken, c.in_err-rest.ensures.room, q.kn _ _ (c.in_ok-broken.ensures.value.row_size ∙ c.in_ok-lacking.ensures.value.row_size) (c.in_ok-broken.ensures.value.col_size ∙ c.in_ok-turned.ensures.value.col_size), q.least)

pub returns-clause-room : goal.returns-clause-room
returns-clause-room g c =
    let q = step_rooms c.args.s.rows c.args.s.cols c.args.r.rows in
    omega (arith, broken_room g (goal.at.returns-clause-room g c).In_ok-broken, c.in_ok-rest.ensures.room, q.kn _ _ (c.in_ok-broken.ensures.value.row_size ∙ c.in_ok-lacking.ensures.value.row_size) (c.in_ok-broken.ensures.value.col_size ∙ c.in_ok-turned.ensures.value.col_size), q.least)
