use Rattle.std.proofs.Common.{refl, sym, ap, arith}
use Rattle.rel_model.specs.Choice.{dom}
use Rattle.rel_model.specs.Worker.{derived_room}
use Rattle.rel_model.proofs.Rooms.{wide_room-four}
use Rattle.rel_slices.specs.Thin.{value_of, value_rows, value_cols}
use Rattle.rel_values.proofs.Operating.{begun, ends_rel}
use Rattle.rel_values.proofs.Forming.{same_three}
use Rattle.rel_values.proofs.products.dom.Goals as goal

pub returns-in-Whole : goal.returns-in-Whole
returns-in-Whole g c =
    let o = g.E.Core.worker c.args.engine.now in
    let v = c.args.v.now in
    let d = c.dom.ensures in
    let e = sym c.in-Whole.is in
    let q = same_three derived_room (ap value_rows e) (ap value_cols e) (refl {a = 1}) in
    let w = wide_room-four (value_rows v) (value_cols v) 1 in
    record {
      operates = ends_rel _ c.dom.result c.stays_whole.result c.stays_whole.ensures.found c.stays_whole.ensures.failed (begun o) d.keeps d.room d.cause d.value (ap value_rows e) refl
          (ap dom (ap (value_of o) e)) (omega (arith, q, w));
    }
