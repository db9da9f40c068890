use Rattle.std.proofs.Common.{refl, sym, ap, ap₂, arith}
use Rattle.rel_model.specs.Operators.{left_residual}
use Rattle.rel_model.specs.Worker.{derived_room, wide_room}
use Rattle.rel_slices.specs.Thin.{value_rows, value_cols}
use Rattle.rel_slices.proofs.Valuing.{value_same}
use Rattle.rel_slices.proofs.Underway.{quotient_counted}
use Rattle.rel_values.proofs.Operating.{has_read, after}
use Rattle.rel_values.proofs.Forming.{bounded, left_so}
use Rattle.rel_values.proofs.products.left.Goals as goal

pub returns-in-Some : goal.returns-in-Some
returns-in-Some g c =
    let d = c.left.ensures in
    let s = c.stays_whole in
    let e = c.in-Some.ensures.some in
    record { operates = left_so left_residual c.left.result s.result s.ensures.found s.ensures.failed c.both_left_whole.ensures.reads e.0 e.1 c.requires.left.stands c.requires.right.stands d.keeps d.room d.cause d.value (sym (ap value_rows e.0)) (sym (ap value_rows e.1)) (bounded derived_room wide_room quotient_counted (sym (ap value_rows e.0)) (sym (ap value_cols e.0)) (sym (ap value_rows e.1))) }

pub returns : goal.returns
returns g c =
    let o = g.E.Core.worker c.args.engine.now in
    let v = g.E.Core.worker c.both_left_whole.new.engine in
    let k = c.both_left_whole.ensures.reads in
    record { operates = after c.left_in_form.result (has_read k) c.left_in_form.ensures.operates refl refl (ap₂ left_residual (value_same o v c.args.x.now k.keeps c.requires.left.stands) (value_same o v c.args.y.now k.keeps c.requires.right.stands)) (omega arith) }
