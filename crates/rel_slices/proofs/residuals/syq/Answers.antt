use Rattle.std.proofs.Common.{◌≤◌, ◌*◌, ◌^◌, ℕ, arith}
use Rattle.rel_model.specs.declared.Rel.{Rel}
use Rattle.rel_model.specs.Algebra.{HasType}
use Rattle.rel_model.specs.Worker.{Stands, set_of, height_of_three}
use Rattle.rel_model.proofs.Heights.{height_of-least}
use Rattle.rel_model.proofs.Rooms.{derived_room-least}
use Rattle.rel_slices.specs.Thin.{value_rows, value_cols}
use Rattle.rel_slices.specs.ValueRooms.{residual_room}
use Rattle.rel_slices.proofs.Costs.{residual_room-most}
use Rattle.rel_slices.proofs.Deriving.{beside, later, given, transposed, combined}
use Rattle.rel_slices.proofs.Underway.{Underway, begun, called, goes_on, stops, ends, quotient_counted}
use Rattle.rel_slices.proofs.Valuing.{value_type, quotient_set}
use Rattle.rel_slices.proofs.residuals.syq.Given.{Over}
use Rattle.rel_slices.proofs.residuals.syq.Goals.{In_ok-s_turned}
use Rattle.rel_slices.proofs.residuals.syq.Goals as goal

-- the first residual is there, and both operands are turned
turned : (g : Over) (c : In_ok-s_turned g) → Underway g.C.Core.least (30 * 8 ^ height_of_three (value_rows c.args.r.now) (value_cols c.args.r.now) (value_cols c.args.s.now)) (g.C.Core.worker c.args.core.now) (g.C.Core.worker c.transpose-2.new.core)
turned g c =
    let h : ℕ = height_of_three (value_rows c.args.r.now) (value_cols c.args.r.now) (value_cols c.args.s.now) in
    let b = beside _ c.args.r.now c.args.s.now (g.met.C.Core.row_limit c.args.core.now) (g.met.C.Core.col_limit c.args.core.now) c.requires.left c.requires.right c.requires.rows in
    let f = c.in_ok-forth.ensures in
    let r = c.in_ok-r_turned.ensures in
    let s = c.in_ok-s_turned.ensures in
    let a = goes_on (2 * 8 ^ h) (goes_on (2 * 8 ^ h) (called (26 * 8 ^ h) f.keeps f.close f.cause) r.keeps (λ e. omega (arith, r.room, transposed e (later b.first f.keeps))) r.cause)
    s.keeps (λ e. omega (arith, s.room, transposed e (later (later b.second f.keeps) r.keeps))) s.cause in
    record { keeps = a.keeps; room = λ e. omega (arith, a.room e); misses = a.misses }

-- the second residual is of the same height
back_height : (g : Over) (c : In_ok-s_turned g) → residual_room (value_rows c.in_ok-r_turned.r_turned) (value_cols c.in_ok-r_turned.r_turned) (value_rows c.in_ok-s_turned.s_turned) ≤ 26 * 8 ^ height_of_three (value_rows c.args.r.now) (value_cols c.args.r.now) (value_cols c.args.s.now)
back_height g c =
    let b = beside _ c.args.r.now c.args.s.now (g.met.C.Core.row_limit c.args.core.now) (g.met.C.Core.col_limit c.args.core.now) c.requires.left c.requires.right c.requires.rows in
    let r = c.in_ok-r_turned.ensures.value in
    let s = c.in_ok-s_turned.ensures.value in
    residual_room-most _ _ _ _ (height_of-least _ _ (omega (arith, r.row_size, b.first.cols))) (height_of-least _ _ (omega (arith, r.col_size, b.first.rows))) (height_of-least _ _ (omega (arith, s.row_size, b.second.cols)))

pub returns-in_err-forth : goal.returns-in_err-forth
returns-in_err-forth g c =
    let h : ℕ = height_of_three (value_rows c.args.r.now) (value_cols c.args.r.now) (value_cols c.args.s.now) in
    let f = c.in_err-forth.ensures in
    stops (26 * 8 ^ h) c.from_residual.result c.from_residual.ensures.1 (begun _ _) f.keeps f.close f.cause (omega (arith, derived_room-least (value_rows c.args.r.now) (value_cols c.args.r.now) (value_cols c.args.s.now))) (quotient_counted (value_rows c.args.r.now) (value_cols c.args.r.now) (value_cols c.args.s.now))

pub returns-in_err-r_turned : goal.returns-in_err-r_turned
returns-in_err-r_turned g c =
    let h : ℕ = height_of_three (value_rows c.args.r.now) (value_cols c.args.r.now) (value_cols c.args.s.now) in
    let b = beside _ c.args.r.now c.args.s.now (g.met.C.Core.row_limit c.args.core.now) (g.met.C.Core.col_limit c.args.core.now) c.requires.left c.requires.right c.requires.rows in
    let f = c.in_ok-forth.ensures in
    let r = c.in_err-r_turned.ensures in
    stops (2 * 8 ^ h) c.from_residual-in_err-r_turned.result c.from_residual-in_err-r_turned.ensures.1 (called (26 * 8 ^ h) f.keeps f.close f.cause) r.keeps (λ e. omega (arith, r.room, transposed e (later b.first f.keeps))) r.cause (omega (arith, derived_room-least (value_rows c.args.r.now) (value_cols c.args.r.now) (value_cols c.args.s.now))) (quotient_counted (value_rows c.args.r.now) (value_cols c.args.r.now) (value_cols c.args.s.now))

pub returns-in_err-s_turned : goal.returns-in_err-s_turned
returns-in_err-s_turned g c =
    let h : ℕ = height_of_three (value_rows c.args.r.now) (value_cols c.args.r.now) (value_cols c.args.s.now) in
    let b = beside _ c.args.r.now c.args.s.now (g.met.C.Core.row_limit c.args.core.now) (g.met.C.Core.col_limit c.args.core.now) c.requires.left c.requires.right c.requires.rows in
    let f = c.in_ok-forth.ensures in
    let r = c.in_ok-r_turned.ensures in
    let s = c.in_err-s_turned.ensures in
    stops (2 * 8 ^ h) c.from_residual-in_err-s_turned.result c.from_residual-in_err-s_turned.ensures.1 (goes_on (2 * 8 ^ h) (called (26 * 8 ^ h) f.keeps f.close f.cause) r.keeps (λ e. omega (arith, r.room, transposed e (later b.first f.keeps))) r.cause)
    s.keeps (λ e. omega (arith, s.room, transposed e (later (later b.second f.keeps) r.keeps))) s.cause (omega (arith, derived_room-least (value_rows c.args.r.now) (value_cols c.args.r.now) (value_cols c.args.s.now))) (quotient_counted (value_rows c.args.r.now) (value_cols c.args.r.now) (value_cols c.args.s.now))

pub returns-in_err-back : goal.returns-in_err-back
returns-in_err-back g c =
    let h : ℕ = height_of_three (value_rows c.args.r.now) (value_cols c.args.r.now) (value_cols c.args.s.now) in
    let at = (goal.at.returns-in_err-back g c).In_ok-s_turned in
    let b = c.in_err-back.ensures in
    stops (26 * 8 ^ h) c.from_residual-in_err-back.result c.from_residual-in_err-back.ensures.1 (turned g at) b.keeps (λ e. omega (arith, b.close e, back_height g at)) b.cause (omega (arith, derived_room-least (value_rows c.args.r.now) (value_cols c.args.r.now) (value_cols c.args.s.now))) (quotient_counted (value_rows c.args.r.now) (value_cols c.args.r.now) (value_cols c.args.s.now))

pub returns : goal.returns
returns g c =
    let h : ℕ = height_of_three (value_rows c.args.r.now) (value_cols c.args.r.now) (value_cols c.args.s.now) in
    let at = (goal.at.returns g c).In_ok-s_turned in
    let laws = g.met.C.Core in
    let core = c.args.core.now in
    let o = g.C.Core.worker core in
    let x = c.args.r.now in
    let y = c.args.s.now in
    let typed : (r : Rel) → Stands o r → HasType r.rows r.cols (set_of o r) = λ r s. record { valid = laws.valid core r s; row_size = laws.row_size core r s; col_size = laws.col_size core r s } in
    let a = beside o x y (laws.row_limit core) (laws.col_limit core) c.requires.left c.requires.right c.requires.rows in
    let f = c.in_ok-forth.ensures in
    let r = c.in_ok-r_turned.ensures in
    let s = c.in_ok-s_turned.ensures in
    let b = c.in_ok-back.ensures in
    let d = c.boole.ensures in
    let v = later (later (later (given f.value a.first.cols a.second.cols) r.keeps) s.keeps) b.keeps in
    ends (4 * 8 ^ h) c.boole.result (goes_on (26 * 8 ^ h) (turned g at) b.keeps (λ e. omega (arith, b.close e, back_height g at)) b.cause) d.keeps (λ e. omega (arith, d.room, combined e v)) d.cause d.value d.form f.value.row_size f.value.col_size
    (quotient_set o _ _ _ _ x y c.in_ok-forth.forth c.in_ok-r_turned.r_turned c.in_ok-s_turned.s_turned c.in_ok-back.back (value_type o x typed c.requires.left) (value_type o y typed c.requires.right) c.requires.rows c.requires.left c.requires.right f.keeps r.keeps s.keeps b.keeps f.value r.value s.value b.value) (omega (arith, derived_room-least (value_rows c.args.r.now) (value_cols c.args.r.now) (value_cols c.args.s.now))) (quotient_counted (value_rows c.args.r.now) (value_cols c.args.r.now) (value_cols c.args.s.now))
