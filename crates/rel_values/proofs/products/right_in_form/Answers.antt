use Rattle.std.proofs.Common.{arith}
use Rattle.rel_model.specs.Operators.{right_residual}
use Rattle.rel_model.specs.Worker.{derived_room, wide_room}
use Rattle.rel_slices.specs.Thin.{value_rows, value_cols}
use Rattle.rel_slices.specs.ValueRooms.{residual_room}
use Rattle.rel_slices.proofs.Underway.{residual_counted, quotient_counted}
use Rattle.rel_values.proofs.Small.{Held}
use Rattle.rel_values.proofs.Operating.{called}
use Rattle.rel_values.proofs.Forming.{beside, is_operand, bounded, derived_stops, derived_whole, derived_lines}
use Rattle.rel_values.proofs.products.right_in_form.Goals as goal

pub returns-in_err-two : goal.returns-in_err-two
returns-in_err-two g c =
    let engine = c.args.engine.now in
    let h : Held g.E.Core.least (g.E.Core.worker engine) = record { leaves = g.met.E.Engine.leaf_height; row_limit = g.met.E.Core.row_limit engine; col_limit = g.met.E.Core.col_limit engine } in
    let a = c.in_err-two.ensures in
    record { operates = derived_stops (value_rows c.args.x.now) (value_cols c.args.x.now) (value_cols c.args.y.now) _ c.from_residual.result c.from_residual.ensures.1 (beside _ _ h c.requires.left c.requires.right c.requires.rows) a.keeps a.room a.cause }

pub returns-in-Some : goal.returns-in-Some
returns-in-Some g c =
    let t = c.in_ok-two.ensures in
    let d = c.right.ensures in
    let s = c.stays_whole in
    let e = c.in-Some.ensures.some in
    let i = is_operand c.args.x.now e.0 t.forms.left in
    let j = is_operand c.args.y.now e.1 t.forms.right in
    record { operates = derived_whole right_residual c.right.result s.result s.ensures.found s.ensures.failed (called t.keeps t.room t.cause) t.forms e.0 e.1 d.keeps d.room d.cause d.value i.cols j.cols (bounded derived_room wide_room quotient_counted i.rows i.cols j.cols) }

pub returns : goal.returns
returns g c =
    let engine = c.args.engine.now in
    let h : Held g.E.Core.least (g.E.Core.worker engine) = record { leaves = g.met.E.Engine.leaf_height; row_limit = g.met.E.Core.row_limit engine; col_limit = g.met.E.Core.col_limit engine } in
    let t = c.in_ok-two.ensures in
    let l = t.forms.left in
    let r = t.forms.right in
    record { operates = derived_lines right_residual (value_rows c.args.x.now) (value_cols c.args.x.now) (value_cols c.args.y.now) c.right-2.result h.leaves (beside _ _ h c.requires.left c.requires.right c.requires.rows) (called t.keeps t.room t.cause) t.forms c.right-2.ensures (bounded residual_room derived_room residual_counted l.row_size l.col_size r.col_size) l.col_size r.col_size (omega arith) (omega arith) }
