use Rattle.std.proofs.Common.{◌∙◌, refl, sym, ap, arith}
use Rattle.rel_model.specs.Choice.{dom, ran}
use Rattle.rel_model.specs.Worker.{derived_room, wide_room}
use Rattle.rel_model.proofs.Rooms.{wide_room-four}
use Rattle.rel_slices.specs.Thin.{value_of, value_rows, value_cols}
use Rattle.rel_slices.specs.ValueRooms.{transpose_room}
use Rattle.rel_slices.proofs.Valuing.{ran_dom}
use Rattle.rel_values.proofs.Operating.{begun, goes_on, ends_rel, after}
use Rattle.rel_values.proofs.Forming.{same_three}
use Rattle.rel_values.proofs.Sizes.{wide_turned}
use Rattle.rel_values.proofs.products.ran.Goals as goal

pub returns-in-Whole : goal.returns-in-Whole
returns-in-Whole g c =
    let o = g.E.Core.worker c.args.engine.now in
    let v = c.args.v.now in
    let d = c.ran.ensures in
    let e = sym c.in-Whole.is in
    let q = same_three derived_room (ap value_rows e) (ap value_cols e) (refl {a = 1}) in
    let w = wide_room-four (value_rows v) (value_cols v) 1 in
    record {
      operates = ends_rel _ c.ran.result c.stays_whole.result c.stays_whole.ensures.found c.stays_whole.ensures.failed (begun o) d.keeps d.room d.cause d.value (ap value_cols e) refl
          (ap ran (ap (value_of o) e)) (omega (arith, q, w));
    }

pub returns-in_ok-turned-in-Lines : goal.returns-in_ok-turned-in-Lines
returns-in_ok-turned-in-Lines g c =
    let o = g.E.Core.worker c.args.engine.now in
    let v = c.args.v.now in
    let a = c.in_ok-turned-in-Lines.ensures in
    let none = ap (transpose_room g.E.Core.least) c.in-Lines.is in
    let q = same_three wide_room a.value.row_size a.value.col_size (refl {a = 1}) in
    let t = wide_turned (value_rows v) (value_cols v) in
    record {
      operates = after c.with_ones.result (goes_on _ (begun o) a.keeps a.room a.cause) c.with_ones.ensures.operates a.value.row_size refl
          (ap dom a.value.means ∙ ran_dom (value_of o v)) (omega (arith, none, q, t));
    }
