use Rattle.std.proofs.Common.{◌*◌, ◌^◌, ℕ, arith}
use Rattle.rel_model.specs.declared.Rel.{Rel}
use Rattle.rel_model.specs.Algebra.{HasType}
use Rattle.rel_model.specs.Worker.{Stands, set_of, height_of_three}
use Rattle.rel_slices.specs.Thin.{value_rows, value_cols}
use Rattle.rel_slices.proofs.Deriving.{beside, later, transposed, complemented}
use Rattle.rel_slices.proofs.Underway.{begun, called, goes_on, stops, ends, residual_counted}
use Rattle.rel_slices.proofs.Valuing.{value_type, right_set}
use Rattle.rel_slices.proofs.residuals.right.Goals as goal

pub returns-in_err-turned : goal.returns-in_err-turned
returns-in_err-turned g c =
    let h : ℕ = height_of_three (value_rows c.args.r.now) (value_cols c.args.r.now) (value_cols c.args.s.now) in
    let b = beside _ c.args.r.now c.args.s.now (g.met.C.Core.row_limit c.args.core.now) (g.met.C.Core.col_limit c.args.core.now) c.requires.left c.requires.right c.requires.rows in
    let t = c.in_err-turned.ensures in
    stops (2 * 8 ^ h) c.from_residual.result c.from_residual.ensures.1 (begun _ _) t.keeps (λ e. omega (arith, t.room, transposed e b.first)) t.cause (omega arith) (residual_counted (value_rows c.args.r.now) (value_cols c.args.r.now) (value_cols c.args.s.now))

pub returns-in_err-lacking : goal.returns-in_err-lacking
returns-in_err-lacking g c =
    let h : ℕ = height_of_three (value_rows c.args.r.now) (value_cols c.args.r.now) (value_cols c.args.s.now) in
    let b = beside _ c.args.r.now c.args.s.now (g.met.C.Core.row_limit c.args.core.now) (g.met.C.Core.col_limit c.args.core.now) c.requires.left c.requires.right c.requires.rows in
    let t = c.in_ok-turned.ensures in
    let l = c.in_err-lacking.ensures in
    stops (4 * 8 ^ h) c.from_residual-in_err-lacking.result c.from_residual-in_err-lacking.ensures.1 (called (2 * 8 ^ h) t.keeps (λ e. omega (arith, t.room, transposed e b.first)) t.cause) l.keeps (λ e. omega (arith, l.room, complemented e (later b.second t.keeps))) l.cause (omega arith) (residual_counted (value_rows c.args.r.now) (value_cols c.args.r.now) (value_cols c.args.s.now))

pub returns : goal.returns
returns g c =
    let h : ℕ = height_of_three (value_rows c.args.r.now) (value_cols c.args.r.now) (value_cols c.args.s.now) in
    let laws = g.met.C.Core in
    let core = c.args.core.now in
    let o = g.C.Core.worker core in
    let r = c.args.r.now in
    let s = c.args.s.now in
    let typed : (r : Rel) → Stands o r → HasType r.rows r.cols (set_of o r) = λ r s. record { valid = laws.valid core r s; row_size = laws.row_size core r s; col_size = laws.col_size core r s } in
    let b = beside _ c.args.r.now c.args.s.now (g.met.C.Core.row_limit c.args.core.now) (g.met.C.Core.col_limit c.args.core.now) c.requires.left c.requires.right c.requires.rows in
    let t = c.in_ok-turned.ensures in
    let l = c.in_ok-lacking.ensures in
    let d = c.lacked.ensures in
    ends (20 * 8 ^ h) c.lacked.result (goes_on (4 * 8 ^ h) (called (2 * 8 ^ h) t.keeps (λ e. omega (arith, t.room, transposed e b.first)) t.cause) l.keeps (λ e. omega (arith, l.room, complemented e (later b.second t.keeps))) l.cause)
    d.keeps (λ e. d.room e h (omega (arith, t.value.row_size, b.first.cols)) (omega (arith, t.value.col_size, b.first.rows)) (omega (arith, l.value.col_size, b.second.cols))) d.cause d.value d.form t.value.row_size l.value.col_size (right_set o _ _ r s c.in_ok-turned.turned c.in_ok-lacking.lacking (value_type o r typed c.requires.left) (value_type o s typed c.requires.right) c.requires.rows c.requires.right t.keeps l.keeps t.value l.value) (omega arith) (residual_counted (value_rows c.args.r.now) (value_cols c.args.r.now) (value_cols c.args.s.now))
