use Rattle.std.proofs.Common.{◌≡◌, ◌∙◌, refl, sym, ap, arith}
use Rattle.rel_model.specs.Relation.{Relation}
use Rattle.rel_model.specs.Worker.{set_of, extremes_room}
use Rattle.rel_model.proofs.Workers.{gives_set}
use Rattle.rel_slices.specs.Thin.{value_of, value_rows, value_cols}
use Rattle.rel_slices.proofs.Valuing.{value_same}
use Rattle.rel_values.specs.Bounds.{bound_of}
use Rattle.rel_values.proofs.Operating.{begun, goes_on, stops, ends_rel}
use Rattle.rel_values.proofs.Forming.{same_three}
use Rattle.rel_values.proofs.Sizes.{bounds_cost}
use Rattle.rel_values.proofs.orders.bounds.Goals as goal

pub returns-in_err-columns : goal.returns-in_err-columns
returns-in_err-columns g c =
    let o = g.E.Core.worker c.args.engine.now in
    let x = c.args.x.now in
    let y = c.args.y.now in
    let a = c.in_err-columns.ensures in
    let r = bounds_cost g.E.Core.least o y (value_rows x) (value_cols x) (value_cols y) g.met.E.Engine.leaf_height c.requires.right (sym c.requires.rows) refl in
    record { operates = stops _ c.from_residual.result c.from_residual.ensures.1 (omega (arith, r)) (begun o) a.keeps a.room a.cause }

pub returns : goal.returns
returns g c =
    let o = g.E.Core.worker c.args.engine.now in
    let w1 = g.E.Core.worker c.whole.new.core in
    let x = c.args.x.now in
    let y = c.args.y.now in
    let a = c.in_ok-columns.ensures in
    let d = c.found.ensures in
    let e = c.square-order.ensures in
    let r = bounds_cost g.E.Core.least o y (value_rows x) (value_cols x) (value_cols y) g.met.E.Engine.leaf_height c.requires.right (sym c.requires.rows) refl in
    let rows = sym (ap value_rows e) in
    let q = same_three extremes_room rows (sym (ap value_cols e)) a.value.col_size in
    let m : set_of w1 c.square-order.result ≡ value_of o x = sym (ap (value_of w1) e) ∙ value_same o w1 x a.keeps c.requires.left.stands in
    let n : set_of w1 c.in_ok-columns.columns ≡ value_of o y = gives_set _ _ _ _ _ a.value in
    record {
      operates = ends_rel _ c.found.result c.stays_whole.result c.stays_whole.ensures.found c.stays_whole.ensures.failed (goes_on _ (begun o) a.keeps a.room a.cause) d.keeps d.room d.cause d.value rows a.value.col_size
          (ap (λ (z : Relation). bound_of c.args.which z (set_of w1 c.in_ok-columns.columns)) m ∙ ap (bound_of c.args.which (value_of o x)) n) (omega (arith, r, q));
    }
