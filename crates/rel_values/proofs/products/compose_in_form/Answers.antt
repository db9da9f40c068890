use Rattle.std.proofs.Common.{◌∙◌, ℕ, subst, sym, arith}
use Rattle.rel_model.specs.Operators.{compose}
use Rattle.rel_model.specs.Worker.{MakesAtMost, product_room}
use Rattle.rel_slices.specs.Thin.{value_rows, value_cols}
use Rattle.rel_slices.specs.ValueRooms.{thin_room}
use Rattle.rel_slices.proofs.Costs.{value_row_limit, value_col_limit}
use Rattle.rel_values.proofs.Small.{Held}
use Rattle.rel_values.proofs.Operating.{begun, called, stops, ends_value}
use Rattle.rel_values.proofs.Thinness.{ArePlain, plain_formed}
use Rattle.rel_values.proofs.Forming.{Limits, chained, compose_ends, product_forming, both_mean, same_three, some_lines}
use Rattle.rel_values.proofs.products.compose_in_form.Goals as goal

pub returns-in_err-two : goal.returns-in_err-two
returns-in_err-two g c =
    let engine = c.args.engine.now in
    let x = c.args.x.now in
    let y = c.args.y.now in
    let h : Held g.E.Core.least (g.E.Core.worker engine) = record { leaves = g.met.E.Engine.leaf_height; row_limit = g.met.E.Core.row_limit engine; col_limit = g.met.E.Core.col_limit engine } in
    let a = c.in_err-two.ensures in
    record { operates = stops _ c.from_residual.result c.from_residual.ensures.1 (omega (arith, product_forming (value_rows x) (value_cols x) (value_cols y) (chained x y h c.requires.left c.requires.right c.requires.middle))) (begun (g.E.Core.worker engine)) a.keeps a.room a.cause }

pub returns : goal.returns
returns g c =
    let engine = c.args.engine.now in
    let x = c.args.x.now in
    let y = c.args.y.now in
    let h : Held g.E.Core.least (g.E.Core.worker engine) = record { leaves = g.met.E.Engine.leaf_height; row_limit = g.met.E.Core.row_limit engine; col_limit = g.met.E.Core.col_limit engine } in
    let limits : Limits (value_rows x) (value_cols x) (value_cols y) = record { first = value_row_limit _ x h.row_limit c.requires.left.stands; middle = value_col_limit _ x h.col_limit c.requires.left.stands; last = value_col_limit _ y h.col_limit c.requires.right.stands } in
    let w2 = g.E.Core.worker c.both_in_form.new.engine in
    let w3 = g.E.Core.worker c.compose.new.core in
    let t = c.in_ok-two.ensures in
    let l = t.forms.left in
    let r = t.forms.right in
    let d = c.compose.ensures in
    let e = compose_ends (value_rows x) (value_cols x) (value_cols y) w2 w3 h.leaves limits (chained x y h c.requires.left c.requires.right c.requires.middle)
    (λ p. omega (arith, plain_formed g.E.Core.least _ _ p.first, plain_formed g.E.Core.least _ _ (subst (λ (z : ℕ). ArePlain z (value_cols y)) c.requires.middle p.second)))
    (subst (λ (z : ℕ). MakesAtMost z w2 w3) (same_three product_room l.row_size l.col_size r.col_size) (d.cost h.leaves))
    (λ s. subst (λ (z : ℕ). MakesAtMost z w2 w3) (same_three thin_room l.row_size l.col_size r.col_size) (d.thin h.leaves
    (some_lines c.in_ok-two.two.0 c.in_ok-two.two.1 _ _ _ t.forms.left_form t.forms.right_form l.row_size l.col_size (r.row_size ∙ sym c.requires.middle) r.col_size s))) in
    record { operates = ends_value _ c.compose.result (called t.keeps t.room t.cause) d.keeps e.1.room d.cause d.value d.form l.row_size r.col_size (both_mean compose t.forms) e.1.fits (e.1.owes _) }
