use Rattle.std.proofs.Common.{◌≡◌, ◌≤◌, ◌*◌, ℕ, ap, ap₂, refl, arith}
use Rattle.rel_model.specs.Operators.{compose, transpose}
use Rattle.rel_model.specs.Worker.{product_room}
use Rattle.rel_slices.specs.declared.thin.Value.{Value}
use Rattle.rel_slices.specs.Thin.{value_rows, value_cols}
use Rattle.rel_slices.proofs.Costs.{value_row_limit}
use Rattle.rel_slices.proofs.Valuing.{value_same}
use Rattle.rel_values.specs.Values.{Fits}
use Rattle.rel_values.proofs.Operating.{begun, goes_on, stops, after}
use Rattle.rel_values.proofs.Forming.{same_three}
use Rattle.rel_values.proofs.Small.{plain_squares, operator_squares, square_room, forming_room, Held, forming_fits}
use Rattle.rel_values.proofs.TurnedProducts.{square_tall}
use Rattle.rel_values.proofs.turned_products.compose_turned.Given.{Over}
use Rattle.rel_values.proofs.turned_products.compose_turned.Goals as goal

pub returns-then-left-le-SMALL : goal.returns-then-left-le-SMALL
returns-then-left-le-SMALL g c =
    let o = g.E.Core.worker c.args.engine.now in
    let x = c.args.x.now in
    let plain = plain_squares (value_rows x) (value_cols x) in
    let one = operator_squares (value_rows x) (value_cols x) in
    record { operates = after c.by_transposition.result (begun o) c.by_transposition.ensures.operates refl refl refl (omega (arith, plain, one)) }

-- to put the second operand into its form takes a quarter of the first one's square
formed : (g : Over) (engine : _) (x y : Value) → Fits (g.E.Core.worker engine) y → value_rows x ≡ value_rows y → value_cols y ≤ value_rows y → 4 * forming_room g.E.Core.least y ≤ square_room (value_rows x) (value_cols x)
formed g engine x y fits rows tall =
    let laws = g.met.E.Core in
    let h : Held g.E.Core.least (g.E.Core.worker engine) = record { leaves = g.met.E.Engine.leaf_height; row_limit = laws.row_limit engine; col_limit = laws.col_limit engine } in
    let p = forming_fits y h fits in
    let q = square_tall (value_rows y) (value_cols y) (value_cols x) tall (value_row_limit (g.E.Core.worker engine) y h.row_limit fits.stands) in
    let e = ap (λ (i : ℕ). square_room i (value_cols x)) rows in
    omega (arith, p, q, e)

pub returns-in_err-second : goal.returns-in_err-second
returns-in_err-second g c =
    let o = g.E.Core.worker c.args.engine.now in
    let x = c.args.x.now in
    let y = c.args.y.now in
    let e = c.in_err-second.ensures in
    let tall : value_cols y ≤ value_rows y = omega (arith, c.if-right.false, c.shape_of-right.ensures.rows, c.shape_of-right.ensures.cols) in
    let quarter = formed g c.args.engine.now x y c.requires.right c.requires.rows tall in
    let plain = plain_squares (value_rows x) (value_cols x) in
    record { operates = stops _ c.from_residual.result c.from_residual.ensures.1 (omega (arith, quarter, plain)) (begun o) e.keeps e.room e.cause }

pub returns : goal.returns
returns g c =
    let o = g.E.Core.worker c.args.engine.now in
    let v = g.E.Core.worker c.in_form.new.engine in
    let x = c.args.x.now in
    let y = c.args.y.now in
    let a = c.in_ok-second.ensures in
    let tall : value_cols y ≤ value_rows y = omega (arith, c.if-right.false, c.shape_of-right.ensures.rows, c.shape_of-right.ensures.cols) in
    let quarter = formed g c.args.engine.now x y c.requires.right c.requires.rows tall in
    let plain = plain_squares (value_rows x) (value_cols x) in
    let one = operator_squares (value_rows x) (value_cols x) in
    let cost = same_three product_room (refl {a = value_cols x}) (refl {a = value_rows x}) a.value.col_size in
    record {
      operates = after c.by_form.result (goes_on (forming_room g.E.Core.least y) (begun o) a.keeps a.room a.cause) c.by_form.ensures.operates refl a.value.col_size
          (ap₂ compose (ap transpose (value_same o v x a.keeps c.requires.left.stands)) a.value.means) (omega (arith, quarter, plain, one, cost));
    }
