use Rattle.std.proofs.Common.{◌≡◌, ℕ, sym, ap, subst, arith, Ok}
use Rattle.rel_model.specs.Operators.{transpose}
use Rattle.rel_model.specs.Worker.{operator_room}
use Rattle.rel_slices.specs.declared.thin.Value.{Value}
use Rattle.rel_slices.specs.declared.thin.Value.TheVariants.{Whole}
use Rattle.rel_slices.specs.Thin.{value_of, value_rows, value_cols}
use Rattle.rel_slices.specs.ValueRooms.{transpose_room}
use Rattle.rel_slices.proofs.Valuing.{whole_value}
use Rattle.rel_values.specs.Values.{Operates}
use Rattle.rel_values.proofs.Small.{operator_squares, square_turned, Held, owed_given}
use Rattle.rel_values.proofs.Operating.{begun, goes_on, stops, ends, form_long}
use Rattle.rel_values.proofs.transposing.transposed.Goals as goal

pub returns-in_err-turned-in-Whole : goal.returns-in_err-turned-in-Whole
returns-in_err-turned-in-Whole g c =
    let o = g.E.Core.worker c.args.engine.now in
    let least : ℕ = g.E.Core.least in
    let r = c.in-Whole.r in
    let e = c.in_err-turned-in-Whole.ensures in
    record {
      operates = subst (λ (x : Value). Operates least g.E.Core.lean o (g.E.Core.worker c.whole_transposed.new.engine) (value_cols x) (value_rows x) (transpose (value_of o x)) (operator_room (value_rows x) (value_cols x)) c.from_residual.result) (sym c.in-Whole.is)
          (stops (operator_room r.rows r.cols) c.from_residual.result c.from_residual.ensures.1 (omega arith) (begun o) e.keeps e.room e.cause);
    }

pub returns-in_ok-turned-in-Whole : goal.returns-in_ok-turned-in-Whole
returns-in_ok-turned-in-Whole g c =
    let o = g.E.Core.worker c.args.engine.now in
    let least : ℕ = g.E.Core.least in
    let r = c.in-Whole.r in
    let e = c.in_ok-turned-in-Whole.ensures in
    let turned = c.in_ok-turned-in-Whole.turned in
    let c0 = goes_on (operator_room r.rows r.cols) (begun o) e.keeps e.room e.cause in
    record {
      operates = subst (λ (x : Value). Operates least g.E.Core.lean o (g.E.Core.worker c.whole_transposed.new.engine) (value_cols x) (value_rows x) (transpose (value_of o x)) (operator_room (value_rows x) (value_cols x)) (Ok (Whole turned))) (sym c.in-Whole.is)
          (ends (omega arith) c0 (whole_value (g.E.Core.worker c.whole_transposed.new.engine) _ _ _ turned e.value) tt);
    }

pub returns-in_ok-turned-in-Lines : goal.returns-in_ok-turned-in-Lines
returns-in_ok-turned-in-Lines g c =
    let laws = g.met.E.Core in
    let leaves = g.met.E.Engine.leaf_height in
    let core = c.args.engine.now in
    let o = g.E.Core.worker core in
    let least : ℕ = g.E.Core.least in
    let v = c.args.v.now in
    let p = operator_squares (value_rows v) (value_cols v) in
    let e = c.in_ok-turned-in-Lines.ensures in
    let turned = c.in_ok-turned-in-Lines.turned in
    let c0 = goes_on (transpose_room least v) (begun o) e.keeps e.room e.cause in
    let none : transpose_room least v ≡ 0 = ap (transpose_room least) c.in-Lines.is in
    let h1 : Held least (g.E.Core.worker c.transpose.new.core) = record { leaves = leaves; row_limit = laws.row_limit c.transpose.new.core; col_limit = laws.col_limit c.transpose.new.core } in
    let long = form_long turned e.form in
    let p1 = owed_given turned h1 e.value long in
    let p2 = square_turned (value_rows v) (value_cols v) in
    record { operates = ends (omega (arith, p, none, p1, p2)) c0 e.value long }
