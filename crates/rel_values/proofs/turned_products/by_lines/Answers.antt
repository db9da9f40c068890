use Rattle.std.proofs.Common.{◌≡◌, ◌∙◌, ℕ, ap, ap₂, sym, subst, refl, arith}
use Rattle.rel_model.specs.Algebra.{HasType}
use Rattle.rel_model.specs.Operators.{compose, transpose}
use Rattle.rel_model.specs.Worker.{operator_room, product_room}
use Rattle.rel_slices.specs.declared.thin.Value.{Value}
use Rattle.rel_slices.specs.Thin.{ValueStands, value_of, value_rows, value_cols}
use Rattle.rel_slices.specs.ValueRooms.{transpose_room}
use Rattle.rel_slices.proofs.Costs.{value_row_limit}
use Rattle.rel_slices.proofs.Valuing.{value_same, value_type}
use Rattle.rel_values.proofs.Operating.{begun, goes_on, stops, after}
use Rattle.rel_values.proofs.Forming.{same_three}
use Rattle.rel_values.proofs.Small.{operator_squares}
use Rattle.rel_values.proofs.TurnedProducts.{turned_set, lines_turned, product_turned, square_narrow}
use Rattle.rel_values.proofs.turned_products.by_lines.Given.{Over}
use Rattle.rel_values.proofs.turned_products.by_lines.Goals as goal

-- the sizes of an operand
typed : (g : Over) (engine : _) (v : Value) → ValueStands (g.E.Core.worker engine) v → HasType (value_rows v) (value_cols v) (value_of (g.E.Core.worker engine) v)
typed g engine v stands =
    let laws = g.met.E.Core in
    value_type (g.E.Core.worker engine) v (λ r s. record { valid = laws.valid engine r s; row_size = laws.row_size engine r s; col_size = laws.col_size engine r s }) stands

pub returns-in_err-product : goal.returns-in_err-product
returns-in_err-product g c =
    let o = g.E.Core.worker c.args.engine.now in
    let least : ℕ = g.E.Core.least in
    let x = c.args.x.now in
    let y = c.args.y.now in
    let a = c.in_ok-turned.ensures in
    let e = c.in_err-product.ensures.operates in
    let none = lines_turned least y c.requires.lines in
    let cost = same_three product_room a.value.row_size (a.value.col_size ∙ sym c.requires.rows) (refl {a = value_cols x}) ∙ product_turned (value_cols y) (value_rows x) (value_cols x) in
    record { operates = stops _ c.from_residual-in_err-product.result c.from_residual-in_err-product.ensures.1 (omega (arith, none, cost)) (goes_on (transpose_room least y) (begun o) a.keeps a.room a.cause) e.keeps e.room e.cause }

pub returns : goal.returns
returns g c =
    let engine = c.args.engine.now in
    let o = g.E.Core.worker engine in
    let v = g.E.Core.worker c.transpose.new.core in
    let least : ℕ = g.E.Core.least in
    let x = c.args.x.now in
    let y = c.args.y.now in
    let rows = c.requires.rows in
    let a = c.in_ok-turned.ensures in
    let p = c.in_ok-product.ensures.operates in
    let none = lines_turned least y c.requires.lines in
    let cost = same_three product_room a.value.row_size (a.value.col_size ∙ sym rows) (refl {a = value_cols x}) ∙ product_turned (value_cols y) (value_rows x) (value_cols x) in
    let k : value_rows c.in_ok-product.product ≡ value_cols y = p.value.row_size ∙ a.value.row_size in
    let n : value_cols c.in_ok-product.product ≡ value_cols x = p.value.col_size in
    let small = operator_squares (value_cols y) (value_cols x) in
    let large = operator_squares (value_rows x) (value_cols x) in
    let narrow = square_narrow (value_cols y) (value_rows x) (value_cols x) (omega (arith, c.requires.tall, rows)) (value_row_limit o x (g.met.E.Core.row_limit engine) c.requires.left.stands) in
    let back = ap (λ (i : ℕ). operator_room i (value_cols c.in_ok-product.product)) k ∙ ap (operator_room (value_cols y)) n in
    let t = typed g engine x c.requires.left.stands in
    let u = subst (λ (i : ℕ). HasType i (value_cols y) (value_of o y)) (sym rows) (typed g engine y c.requires.right.stands) in
    record {
      operates = after c.transposed.result (goes_on _ (goes_on (transpose_room least y) (begun o) a.keeps a.room a.cause) p.keeps p.room p.cause) c.transposed.ensures.operates n k
          (ap transpose (p.value.means ∙ ap₂ compose a.value.means (value_same o v x a.keeps c.requires.left.stands)) ∙ turned_set (value_rows x) (value_cols x) (value_cols y) (value_of o x) (value_of o y) t u)
          (omega (arith, none, cost, small, large, narrow, back));
    }
