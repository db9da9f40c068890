use Rattle.std.proofs.Common.{◌*◌, ◌^◌, ℕ, arith}
use Rattle.rel_model.specs.declared.Rel.{Rel}
use Rattle.rel_model.specs.Algebra.{HasType}
use Rattle.rel_model.specs.Worker.{Stands, set_of, height_of_three}
use Rattle.rel_slices.specs.Thin.{value_rows, value_cols}
use Rattle.rel_slices.proofs.Deriving.{stacked, transposed, complemented}
use Rattle.rel_slices.proofs.Underway.{begun, called, goes_on, stops, ends, residual_counted}
use Rattle.rel_slices.proofs.Valuing.{value_type, left_set}
use Rattle.rel_slices.proofs.residuals.left.Goals as goal

pub returns-in_err-lacking : goal.returns-in_err-lacking
returns-in_err-lacking g c =
    let h : ℕ = height_of_three (value_rows c.args.s.now) (value_cols c.args.s.now) (value_rows c.args.r.now) in
    let b = stacked _ c.args.s.now c.args.r.now (g.met.C.Core.row_limit c.args.core.now) (g.met.C.Core.col_limit c.args.core.now) c.requires.left c.requires.right c.requires.cols in
    let l = c.in_err-lacking.ensures in
    stops (4 * 8 ^ h) c.from_residual.result c.from_residual.ensures.1 (begun _ _) l.keeps (λ e. omega (arith, l.room, complemented e b.first)) l.cause (omega arith) (residual_counted (value_rows c.args.s.now) (value_cols c.args.s.now) (value_rows c.args.r.now))

pub returns-in_err-turned : goal.returns-in_err-turned
returns-in_err-turned g c =
    let h : ℕ = height_of_three (value_rows c.args.s.now) (value_cols c.args.s.now) (value_rows c.args.r.now) in
    let b = stacked _ c.args.s.now c.args.r.now (g.met.C.Core.row_limit c.args.core.now) (g.met.C.Core.col_limit c.args.core.now) c.requires.left c.requires.right c.requires.cols in
    let l = c.in_ok-lacking.ensures in
    let t = c.in_err-turned.ensures in
    stops (2 * 8 ^ h) c.from_residual-in_err-turned.result c.from_residual-in_err-turned.ensures.1 (called (4 * 8 ^ h) l.keeps (λ e. omega (arith, l.room, complemented e b.first)) l.cause) t.keeps (λ e. omega (arith, t.room, transposed e b.second)) t.cause (omega arith) (residual_counted (value_rows c.args.s.now) (value_cols c.args.s.now) (value_rows c.args.r.now))

pub returns : goal.returns
returns g c =
    let h : ℕ = height_of_three (value_rows c.args.s.now) (value_cols c.args.s.now) (value_rows c.args.r.now) in
    let laws = g.met.C.Core in
    let core = c.args.core.now in
    let o = g.C.Core.worker core in
    let s = c.args.s.now in
    let r = c.args.r.now in
    let typed : (r : Rel) → Stands o r → HasType r.rows r.cols (set_of o r) = λ r s. record { valid = laws.valid core r s; row_size = laws.row_size core r s; col_size = laws.col_size core r s } in
    let b = stacked _ c.args.s.now c.args.r.now (g.met.C.Core.row_limit c.args.core.now) (g.met.C.Core.col_limit c.args.core.now) c.requires.left c.requires.right c.requires.cols in
    let l = c.in_ok-lacking.ensures in
    let t = c.in_ok-turned.ensures in
    let d = c.lacked.ensures in
    ends (20 * 8 ^ h) c.lacked.result (goes_on (2 * 8 ^ h) (called (4 * 8 ^ h) l.keeps (λ e. omega (arith, l.room, complemented e b.first)) l.cause) t.keeps (λ e. omega (arith, t.room, transposed e b.second)) t.cause)
    d.keeps (λ e. d.room e h (omega (arith, l.value.row_size, b.first.rows)) (omega (arith, l.value.col_size, b.first.cols)) (omega (arith, t.value.col_size, b.second.rows))) d.cause d.value d.form l.value.row_size t.value.col_size (left_set o _ _ s r c.in_ok-lacking.lacking c.in_ok-turned.turned (value_type o r typed c.requires.right) (value_type o s typed c.requires.left) c.requires.cols c.requires.right l.keeps t.keeps l.value t.value) (omega arith) (residual_counted (value_rows c.args.s.now) (value_cols c.args.s.now) (value_rows c.args.r.now))
