use Rattle.std.proofs.Common.{ap₂, refl, arith}
use Rattle.rel_model.specs.Operators.{compose}
use Rattle.rel_model.specs.Worker.{operator_room, product_room}
use Rattle.rel_slices.specs.Thin.{value_rows, value_cols}
use Rattle.rel_slices.proofs.Valuing.{value_same}
use Rattle.rel_values.proofs.Operating.{begun, goes_on, after}
use Rattle.rel_values.proofs.Forming.{same_three}
use Rattle.rel_values.proofs.turned_products.by_transposition.Goals as goal

pub returns : goal.returns
returns g c =
    let o = g.E.Core.worker c.args.engine.now in
    let v = g.E.Core.worker c.transposed.new.engine in
    let x = c.args.x.now in
    let y = c.args.y.now in
    let a = c.in_ok-turned.ensures.operates in
    let cost = same_three product_room a.value.row_size a.value.col_size (refl {a = value_cols y}) in
    record {
      operates = after c.compose.result (goes_on (operator_room (value_rows x) (value_cols x)) (begun o) a.keeps a.room a.cause) c.compose.ensures.operates a.value.row_size refl
          (ap₂ compose a.value.means (value_same o v y a.keeps c.requires.right.stands)) (omega (arith, cost));
    }
