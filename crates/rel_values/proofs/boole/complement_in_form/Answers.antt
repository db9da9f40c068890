use Rattle.std.proofs.Common.{ℕ, ap, arith}
use Rattle.rel_model.specs.Operators.{complement}
use Rattle.rel_slices.specs.Thin.{value_of, value_rows, value_cols}
use Rattle.rel_slices.specs.ValueRooms.{complement_room}
use Rattle.rel_slices.proofs.Valuing.{recast_value}
use Rattle.rel_values.proofs.Small.{forming_room, plain_squares, Held, forming_fits, complement_given, owed_given}
use Rattle.rel_values.proofs.Operating.{begun, goes_on, stops, ends, form_long}
use Rattle.rel_values.proofs.boole.complement_in_form.Goals as goal

pub returns-in_err-a : goal.returns-in_err-a
returns-in_err-a g c =
    let laws = g.met.E.Core in
    let leaves = g.met.E.Engine.leaf_height in
    let core = c.args.engine.now in
    let o = g.E.Core.worker core in
    let least : ℕ = g.E.Core.least in
    let v = c.args.v.now in
    let p = plain_squares (value_rows v) (value_cols v) in
    let h : Held least (g.E.Core.worker core) = record { leaves = leaves; row_limit = laws.row_limit core; col_limit = laws.col_limit core } in
    let p0 = forming_fits v h c.requires.fits in
    let e = c.in_err-a.ensures in
    record { operates = stops (forming_room least v) c.from_residual.result c.from_residual.ensures.1 (omega (arith, p, p0)) (begun o) e.keeps e.room e.cause }

pub returns-in_err-rest : goal.returns-in_err-rest
returns-in_err-rest g c =
    let laws = g.met.E.Core in
    let leaves = g.met.E.Engine.leaf_height in
    let core = c.args.engine.now in
    let o = g.E.Core.worker core in
    let least : ℕ = g.E.Core.least in
    let v = c.args.v.now in
    let p = plain_squares (value_rows v) (value_cols v) in
    let h : Held least (g.E.Core.worker core) = record { leaves = leaves; row_limit = laws.row_limit core; col_limit = laws.col_limit core } in
    let p0 = forming_fits v h c.requires.fits in
    let e0 = c.in_ok-a.ensures in
    let c0 = goes_on (forming_room least v) (begun o) e0.keeps e0.room e0.cause in
    let h1 : Held least (g.E.Core.worker c.in_form.new.engine) = record { leaves = leaves; row_limit = laws.row_limit c.in_form.new.engine; col_limit = laws.col_limit c.in_form.new.engine } in
    let p1 = complement_given c.in_ok-a.a h1 e0.value in
    let e = c.in_err-rest.ensures in
    record { operates = stops (complement_room least c.in_ok-a.a) c.from_residual-in_err-rest.result c.from_residual-in_err-rest.ensures.1 (omega (arith, p, p0, p1)) c0 e.keeps e.room e.cause }

pub returns : goal.returns
returns g c =
    let laws = g.met.E.Core in
    let leaves = g.met.E.Engine.leaf_height in
    let core = c.args.engine.now in
    let o = g.E.Core.worker core in
    let least : ℕ = g.E.Core.least in
    let v = c.args.v.now in
    let p = plain_squares (value_rows v) (value_cols v) in
    let h : Held least (g.E.Core.worker core) = record { leaves = leaves; row_limit = laws.row_limit core; col_limit = laws.col_limit core } in
    let p0 = forming_fits v h c.requires.fits in
    let e0 = c.in_ok-a.ensures in
    let c0 = goes_on (forming_room least v) (begun o) e0.keeps e0.room e0.cause in
    let h1 : Held least (g.E.Core.worker c.in_form.new.engine) = record { leaves = leaves; row_limit = laws.row_limit c.in_form.new.engine; col_limit = laws.col_limit c.in_form.new.engine } in
    let p1 = complement_given c.in_ok-a.a h1 e0.value in
    let e1 = c.in_ok-rest.ensures in
    let c1 = goes_on (complement_room least c.in_ok-a.a) c0 e1.keeps e1.room e1.cause in
    let h2 : Held least (g.E.Core.worker c.complement.new.core) = record { leaves = leaves; row_limit = laws.row_limit c.complement.new.core; col_limit = laws.col_limit c.complement.new.core } in
    let rest = c.in_ok-rest.rest in
    let value = recast_value (g.E.Core.worker c.complement.new.core) _ _ (value_rows v) (value_cols v) _ (complement (value_of o v)) rest e0.value.row_size e0.value.col_size (ap complement e0.value.means) e1.value in
    let long = form_long rest e1.form in
    let p2 = owed_given rest h2 value long in
    record { operates = ends (omega (arith, p, p0, p1, p2)) c1 value long }
