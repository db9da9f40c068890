use Rattle.std.proofs.Common.{◌≡◌, ◌%◌, ℕ, refl, arith}
use Rattle.rel_slices.specs.Thin.{value_rows, value_cols}
use Rattle.rel_slices.proofs.Valuing.{value_type}
use Rattle.rel_values.proofs.Small.{plain_squares, operator_squares, Held, owed_fits}
use Rattle.rel_values.proofs.Operating.{begun, ends, after, turned_value, turned_once}
use Rattle.rel_values.proofs.transposing.turned.Goals as goal

pub returns-then-times-eq0 : goal.returns-then-times-eq0
returns-then-times-eq0 g c =
    let laws = g.met.E.Core in
    let leaves = g.met.E.Engine.leaf_height in
    let core = c.args.engine.now in
    let o = g.E.Core.worker core in
    let least : ℕ = g.E.Core.least in
    let v = c.args.v.now in
    let p = plain_squares (value_rows v) (value_cols v) in
    let h : Held least (g.E.Core.worker core) = record { leaves = leaves; row_limit = laws.row_limit core; col_limit = laws.col_limit core } in
    let type = value_type o v (λ r s. record { valid = laws.valid core r s; row_size = laws.row_size core r s; col_size = laws.col_size core r s }) c.requires.fits.stands in
    let even : c.args.times % 2 ≡ 0 = (let q = c.if-times-eq0.true in omega (arith, q)) in
    let p0 = owed_fits v h c.requires.fits in
    record { operates = ends (omega (arith, p, p0)) (begun o) (turned_value o c.args.times v even c.requires.fits.stands type) c.requires.fits.long }

pub returns : goal.returns
returns g c =
    let laws = g.met.E.Core in
    let core = c.args.engine.now in
    let o = g.E.Core.worker core in
    let v = c.args.v.now in
    let type = value_type o v (λ r s. record { valid = laws.valid core r s; row_size = laws.row_size core r s; col_size = laws.col_size core r s }) c.requires.fits.stands in
    let odd : c.args.times % 2 ≡ 1 = (let q = c.if-times-eq0.false in omega (arith, q)) in
    let p = plain_squares (value_rows v) (value_cols v) in
    let q = operator_squares (value_rows v) (value_cols v) in
    record { operates = turned_once c.args.times v odd type (after c.transposed.result (begun o) c.transposed.ensures.operates refl refl refl (omega (arith, p, q))) }
