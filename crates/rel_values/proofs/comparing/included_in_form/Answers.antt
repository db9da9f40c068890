use Rattle.std.proofs.Common.{◌≡◌, ◌∙◌, ℕ, ap, arith, subst}
use Rattle.std.specs.Prelude.{IsTrue, ◌↔◌}
use Rattle.rel_model.specs.Relation.{Relation}
use Rattle.rel_model.specs.Operators.{diff, empty}
use Rattle.rel_slices.specs.Thin.{value_of, value_rows, value_cols}
use Rattle.rel_slices.specs.ValueRooms.{pieces_room}
use Rattle.rel_values.proofs.Small.{operator_squares, Held, forming_both, pieces_given}
use Rattle.rel_values.proofs.Operating.{begun, called, goes_on, stops_test, ends_test}
use Rattle.rel_values.proofs.Forming.{both_mean}
use Rattle.rel_values.proofs.comparing.included_in_form.Goals as goal

pub returns-in_err-two : goal.returns-in_err-two
returns-in_err-two g c =
    let engine = c.args.engine.now in
    let x = c.args.x.now in
    let y = c.args.y.now in
    let h : Held g.E.Core.least (g.E.Core.worker engine) = record { leaves = g.met.E.Engine.leaf_height; row_limit = g.met.E.Core.row_limit engine; col_limit = g.met.E.Core.col_limit engine } in
    let a = c.in_err-two.ensures in
    record { decides = stops_test _ c.from_residual.result c.from_residual.ensures.1 (omega (arith, operator_squares (value_rows x) (value_cols x), forming_both x y h c.requires.left c.requires.right c.requires.rows c.requires.cols)) (begun (g.E.Core.worker engine)) a.keeps a.room a.cause }

pub returns-in_err-yes : goal.returns-in_err-yes
returns-in_err-yes g c =
    let engine = c.args.engine.now in
    let x = c.args.x.now in
    let y = c.args.y.now in
    let h : Held g.E.Core.least (g.E.Core.worker engine) = record { leaves = g.met.E.Engine.leaf_height; row_limit = g.met.E.Core.row_limit engine; col_limit = g.met.E.Core.col_limit engine } in
    let next = c.both_in_form.new.engine in
    let h2 : Held g.E.Core.least (g.E.Core.worker next) = record { leaves = h.leaves; row_limit = g.met.E.Core.row_limit next; col_limit = g.met.E.Core.col_limit next } in
    let t = c.in_ok-two.ensures in
    let p = forming_both x y h c.requires.left c.requires.right c.requires.rows c.requires.cols in
    let e = c.in_err-yes.ensures in
    record { decides = stops_test (pieces_room g.E.Core.least c.in_ok-two.two.0) c.from_residual-in_err-yes.result c.from_residual-in_err-yes.ensures.1 (omega (arith, operator_squares (value_rows x) (value_cols x), p, pieces_given c.in_ok-two.two.0 h2 t.forms.left)) (called t.keeps t.room t.cause) e.keeps e.room e.cause }

pub returns : goal.returns
returns g c =
    let engine = c.args.engine.now in
    let x = c.args.x.now in
    let y = c.args.y.now in
    let h : Held g.E.Core.least (g.E.Core.worker engine) = record { leaves = g.met.E.Engine.leaf_height; row_limit = g.met.E.Core.row_limit engine; col_limit = g.met.E.Core.col_limit engine } in
    let next = c.both_in_form.new.engine in
    let h2 : Held g.E.Core.least (g.E.Core.worker next) = record { leaves = h.leaves; row_limit = g.met.E.Core.row_limit next; col_limit = g.met.E.Core.col_limit next } in
    let t = c.in_ok-two.ensures in
    let p = forming_both x y h c.requires.left c.requires.right c.requires.rows c.requires.cols in
    let w2 = g.E.Core.worker next in
    let a = c.in_ok-two.two.0 in
    let b = c.in_ok-two.two.1 in
    let answer = c.in_ok-yes.yes in
    let e = c.in_ok-yes.ensures in
    let none : empty (value_rows a) (value_cols a) ≡ empty (value_rows x) (value_cols x) = ap (λ (n : ℕ). empty n (value_cols a)) t.forms.left.row_size ∙ ap (empty (value_rows x)) t.forms.left.col_size in
    record {
      decides = ends_test (omega (arith, operator_squares (value_rows x) (value_cols x), p, pieces_given a h2 t.forms.left)) (goes_on (pieces_room g.E.Core.least a) (called t.keeps t.room t.cause) e.keeps e.room e.cause)
          (subst (λ (r : Relation). IsTrue answer ↔ (r ≡ empty (value_rows x) (value_cols x))) (both_mean diff t.forms)
          (subst (λ (r : Relation). IsTrue answer ↔ (diff (value_of w2 a) (value_of w2 b) ≡ r)) none e.value));
    }
