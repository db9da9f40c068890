use Rattle.std.proofs.Common.{ap, arith}
use Rattle.rel_model.specs.Operators.{complement}
use Rattle.rel_slices.specs.Thin.{value_rows, value_cols}
use Rattle.rel_slices.proofs.Costs.{product_part}
use Rattle.rel_slices.proofs.Deriving.{given, complemented}
use Rattle.rel_slices.proofs.Valuing.{recast_value}
use Rattle.rel_slices.proofs.residuals.lacked.Goals as goal

pub returns-clause-value : goal.returns-clause-value
returns-clause-value g c =
    let v = c.in_ok-product.ensures.value in
    recast_value _ _ _ _ _ _ _ c.in_ok-rest.rest v.row_size v.col_size (ap complement v.means) c.in_ok-rest.ensures.value

pub returns-in_err-product-clause-room : goal.returns-in_err-product-clause-room
returns-in_err-product-clause-room g c = λ e h a b d. omega (arith, c.in_err-product.ensures.cost e, product_part h (value_rows c.args.x.now) (value_cols c.args.x.now) (value_cols c.args.y.now) a b d)

pub returns-in_err-rest-clause-room : goal.returns-in_err-rest-clause-room
returns-in_err-rest-clause-room g c = λ e h a b d.
    let m = product_part h (value_rows c.args.x.now) (value_cols c.args.x.now) (value_cols c.args.y.now) a b d in
    omega (arith, c.in_ok-product.ensures.cost e, m, c.in_err-rest.ensures.room, complemented e (given c.in_ok-product.ensures.value a d))

pub returns-clause-room : goal.returns-clause-room
returns-clause-room g c = λ e h a b d.
    let m = product_part h (value_rows c.args.x.now) (value_cols c.args.x.now) (value_cols c.args.y.now) a b d in
    omega (arith, c.in_ok-product.ensures.cost e, m, c.in_ok-rest.ensures.room, complemented e (given c.in_ok-product.ensures.value a d))
