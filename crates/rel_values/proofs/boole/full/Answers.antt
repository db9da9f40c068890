use Rattle.std.proofs.Common.{ℕ, arith}
use Rattle.rel_model.specs.Roots.{relation_room}
use Rattle.rel_values.proofs.Small.{plain_squares, tree_small, Held, owed_given}
use Rattle.rel_values.proofs.Operating.{begun, goes_on, stops, ends, form_long}
use Rattle.rel_values.proofs.boole.full.Goals as goal

pub returns-in_err-all : goal.returns-in_err-all
returns-in_err-all g c =
    let leaves = g.met.E.Engine.leaf_height in
    let core = c.args.engine.now in
    let o = g.E.Core.worker core in
    let least : ℕ = g.E.Core.least in
    let rows : ℕ = c.args.shape.rows in
    let cols : ℕ = c.args.shape.cols in
    let p = plain_squares rows cols in
    let p0 = tree_small least rows cols leaves c.requires.row_limit c.requires.col_limit in
    let e = c.in_err-all.ensures in
    record { operates = stops (relation_room least rows cols) c.from_residual.result c.from_residual.ensures.1 (omega (arith, p, p0)) (begun o) e.keeps e.room e.cause }

pub returns : goal.returns
returns g c =
    let laws = g.met.E.Core in
    let leaves = g.met.E.Engine.leaf_height in
    let core = c.args.engine.now in
    let o = g.E.Core.worker core in
    let least : ℕ = g.E.Core.least in
    let rows : ℕ = c.args.shape.rows in
    let cols : ℕ = c.args.shape.cols in
    let p = plain_squares rows cols in
    let p0 = tree_small least rows cols leaves c.requires.row_limit c.requires.col_limit in
    let e = c.in_ok-all.ensures in
    let c0 = goes_on (relation_room least rows cols) (begun o) e.keeps e.room e.cause in
    let h1 : Held least (g.E.Core.worker c.full.new.core) = record { leaves = leaves; row_limit = laws.row_limit c.full.new.core; col_limit = laws.col_limit c.full.new.core } in
    let all = c.in_ok-all.all in
    let long = form_long all e.form in
    let p1 = owed_given all h1 e.value long in
    record { operates = ends (omega (arith, p, p0, p1)) c0 e.value long }
