use Rattle.std.proofs.Common.{ℕ, arith}
use Rattle.rel_values.proofs.Small.{plain_squares, Held, owed_given}
use Rattle.rel_values.proofs.Operating.{begun, goes_on, ends, form_long}
use Rattle.rel_values.proofs.boole.empty.Goals as goal

pub returns : goal.returns
returns g c =
    let laws = g.met.E.Core in
    let leaves = g.met.E.Engine.leaf_height in
    let core = c.args.engine.now in
    let o = g.E.Core.worker core in
    let least : ℕ = g.E.Core.least in
    let rows : ℕ = c.args.shape.rows in
    let cols : ℕ = c.args.shape.cols in
    let p = plain_squares rows cols in
    let e = c.in_ok-none.ensures in
    let c0 = goes_on (0) (begun o) e.keeps e.room e.cause in
    let h1 : Held least (g.E.Core.worker c.empty.new.core) = record { leaves = leaves; row_limit = laws.row_limit c.empty.new.core; col_limit = laws.col_limit c.empty.new.core } in
    let none = c.in_ok-none.none in
    let long = form_long none e.form in
    let p1 = owed_given none h1 e.value long in
    record { operates = ends (omega (arith, p, p1)) c0 e.value long }
