use Rattle.std.proofs.Common.{◌≡◌, arith, subst}
use Rattle.std.specs.Prelude.{IsTrue, ◌↔◌}
use Rattle.rel_model.specs.Relation.{Relation}
use Rattle.rel_slices.specs.Thin.{value_of, value_rows, value_cols}
use Rattle.rel_values.proofs.Small.{operator_squares, Held, forming_both}
use Rattle.rel_values.proofs.Operating.{begun, called, stops_test, ends_test}
use Rattle.rel_values.proofs.comparing.same_in_form.Goals as goal

pub returns-in_err-two : goal.returns-in_err-two
returns-in_err-two g c =
    let engine = c.args.engine.now in
    let x = c.args.x.now in
    let y = c.args.y.now in
    let h : Held g.E.Core.least (g.E.Core.worker engine) = record { leaves = g.met.E.Engine.leaf_height; row_limit = g.met.E.Core.row_limit engine; col_limit = g.met.E.Core.col_limit engine } in
    let a = c.in_err-two.ensures in
    record { decides = stops_test _ c.from_residual.result c.from_residual.ensures.1 (omega (arith, operator_squares (value_rows x) (value_cols x), forming_both x y h c.requires.left c.requires.right c.requires.rows c.requires.cols)) (begun (g.E.Core.worker engine)) a.keeps a.room a.cause }

pub returns : goal.returns
returns g c =
    let engine = c.args.engine.now in
    let x = c.args.x.now in
    let y = c.args.y.now in
    let h : Held g.E.Core.least (g.E.Core.worker engine) = record { leaves = g.met.E.Engine.leaf_height; row_limit = g.met.E.Core.row_limit engine; col_limit = g.met.E.Core.col_limit engine } in
    let t = c.in_ok-two.ensures in
    let p = forming_both x y h c.requires.left c.requires.right c.requires.rows c.requires.cols in
    let w2 = g.E.Core.worker c.both_in_form.new.engine in
    let answer = c.same.result in
    record {
      decides = ends_test (omega (arith, operator_squares (value_rows x) (value_cols x), p)) (called t.keeps t.room t.cause)
          (subst (λ (r : Relation). IsTrue answer ↔ (r ≡ value_of (g.E.Core.worker engine) y)) t.forms.left.means (subst (λ (r : Relation). IsTrue answer ↔ (value_of w2 c.in_ok-two.two.0 ≡ r)) t.forms.right.means c.same.ensures));
    }
