use Rattle.std.proofs.Common.{arith}
use Rattle.rel_slices.specs.Ops.{boole_of}
use Rattle.rel_slices.specs.Thin.{value_rows, value_cols}
use Rattle.rel_slices.specs.ValueRooms.{pieces_room}
use Rattle.rel_slices.proofs.Valuing.{recast_value}
use Rattle.rel_values.proofs.Small.{plain_squares, Held, forming_both, pieces_given, owed_given}
use Rattle.rel_values.proofs.Operating.{begun, called, goes_on, stops, ends, form_long}
use Rattle.rel_values.proofs.Forming.{both_mean}
use Rattle.rel_values.proofs.boole.between.Goals as goal

pub returns-in_err-two : goal.returns-in_err-two
returns-in_err-two g c =
    let engine = c.args.engine.now in
    let x = c.args.x.now in
    let y = c.args.y.now in
    let h : Held g.E.Core.least (g.E.Core.worker engine) = record { leaves = g.met.E.Engine.leaf_height; row_limit = g.met.E.Core.row_limit engine; col_limit = g.met.E.Core.col_limit engine } in
    let a = c.in_err-two.ensures in
    record { operates = stops _ c.from_residual.result c.from_residual.ensures.1 (omega (arith, plain_squares (value_rows x) (value_cols x), forming_both x y h c.requires.left c.requires.right c.requires.rows c.requires.cols)) (begun (g.E.Core.worker engine)) a.keeps a.room a.cause }

pub returns-in_err-made : goal.returns-in_err-made
returns-in_err-made g c =
    let engine = c.args.engine.now in
    let x = c.args.x.now in
    let y = c.args.y.now in
    let h : Held g.E.Core.least (g.E.Core.worker engine) = record { leaves = g.met.E.Engine.leaf_height; row_limit = g.met.E.Core.row_limit engine; col_limit = g.met.E.Core.col_limit engine } in
    let next = c.both_in_form.new.engine in
    let h2 : Held g.E.Core.least (g.E.Core.worker next) = record { leaves = h.leaves; row_limit = g.met.E.Core.row_limit next; col_limit = g.met.E.Core.col_limit next } in
    let t = c.in_ok-two.ensures in
    let p = forming_both x y h c.requires.left c.requires.right c.requires.rows c.requires.cols in
    let e = c.in_err-made.ensures in
    record { operates = stops (pieces_room g.E.Core.least c.in_ok-two.two.0) c.from_residual-in_err-made.result c.from_residual-in_err-made.ensures.1 (omega (arith, plain_squares (value_rows x) (value_cols x), p, pieces_given c.in_ok-two.two.0 h2 t.forms.left)) (called t.keeps t.room t.cause) e.keeps e.room e.cause }

pub returns : goal.returns
returns g c =
    let engine = c.args.engine.now in
    let x = c.args.x.now in
    let y = c.args.y.now in
    let h : Held g.E.Core.least (g.E.Core.worker engine) = record { leaves = g.met.E.Engine.leaf_height; row_limit = g.met.E.Core.row_limit engine; col_limit = g.met.E.Core.col_limit engine } in
    let next = c.both_in_form.new.engine in
    let h2 : Held g.E.Core.least (g.E.Core.worker next) = record { leaves = h.leaves; row_limit = g.met.E.Core.row_limit next; col_limit = g.met.E.Core.col_limit next } in
    let last = c.boole.new.core in
    let h3 : Held g.E.Core.least (g.E.Core.worker last) = record { leaves = h.leaves; row_limit = g.met.E.Core.row_limit last; col_limit = g.met.E.Core.col_limit last } in
    let t = c.in_ok-two.ensures in
    let p = forming_both x y h c.requires.left c.requires.right c.requires.rows c.requires.cols in
    let made = c.in_ok-made.made in
    let e = c.in_ok-made.ensures in
    let value = recast_value (g.E.Core.worker last) _ _ (value_rows x) (value_cols x) _ _ made t.forms.left.row_size t.forms.left.col_size (both_mean (boole_of c.args.op) t.forms) e.value in
    let long = form_long made e.form in
    record {
      operates = ends (omega (arith, plain_squares (value_rows x) (value_cols x), p, pieces_given c.in_ok-two.two.0 h2 t.forms.left, owed_given made h3 value long))
          (goes_on (pieces_room g.E.Core.least c.in_ok-two.two.0) (called t.keeps t.room t.cause) e.keeps e.room e.cause) value long;
    }
