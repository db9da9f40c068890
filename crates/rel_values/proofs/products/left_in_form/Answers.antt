use Rattle.std.proofs.Common.{arith}
use Rattle.rel_model.specs.Operators.{left_residual}
use Rattle.rel_model.specs.Worker.{derived_room, wide_room}
use Rattle.rel_slices.specs.Thin.{value_rows, value_cols}
use Rattle.rel_slices.specs.ValueRooms.{residual_room}
use Rattle.rel_slices.proofs.Underway.{residual_counted, quotient_counted}
use Rattle.rel_values.proofs.Small.{Held}
use Rattle.rel_values.proofs.Operating.{called}
use Rattle.rel_values.proofs.Forming.{stacked, is_operand, bounded, derived_stops, derived_whole, derived_lines}
use Rattle.rel_values.proofs.products.left_in_form.Goals as goal

pub returns-in_err-two : goal.returns-in_err-two
returns-in_err-two g c =
    let engine = c.args.engine.now in
    let h : Held g.E.Core.least (g.E.Core.worker engine) = record { leaves = g.met.E.Engine.leaf_height; row_limit = g.met.E.Core.row_limit engine; col_limit = g.met.E.Core.col_limit engine } in
    let a = c.in_err-two.ensures in
    record { operates = derived_stops (value_rows c.args.x.now) (value_cols c.args.x.now) (value_rows c.args.y.now) _ c.from_residual.result c.from_residual.ensures.1 (stacked _ _ h c.requires.left c.requires.right c.requires.cols) a.keeps a.room a.cause }

pub returns-in-Some : goal.returns-in-Some
returns-in-Some g c =
    let t = c.in_ok-two.ensures in
    let d = c.left.ensures in
    let s = c.stays_whole in
    let e = c.in-Some.ensures.some in
    let i = is_operand c.args.x.now e.0 t.forms.left in
    let j = is_operand c.args.y.now e.1 t.forms.right in
    record { operates = derived_whole left_residual c.left.result s.result s.ensures.found s.ensures.failed (called t.keeps t.room t.cause) t.forms e.0 e.1 d.keeps d.room d.cause d.value i.rows j.rows (bounded derived_room wide_room quotient_counted i.rows i.cols j.rows) }

pub returns : goal.returns
returns g c =
    let engine = c.args.engine.now in
    let h : Held g.E.Core.least (g.E.Core.worker engine) = record { leaves = g.met.E.Engine.leaf_height; row_limit = g.met.E.Core.row_limit engine; col_limit = g.met.E.Core.col_limit engine } in
    let t = c.in_ok-two.ensures in
    let l = t.forms.left in
    let r = t.forms.right in
    record { operates = derived_lines left_residual (value_rows c.args.x.now) (value_cols c.args.x.now) (value_rows c.args.y.now) c.left-2.result h.leaves (stacked _ _ h c.requires.left c.requires.right c.requires.cols) (called t.keeps t.room t.cause) t.forms c.left-2.ensures (bounded residual_room derived_room residual_counted l.row_size l.col_size r.row_size) l.row_size r.row_size (omega arith) (omega arith) }
