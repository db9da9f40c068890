use Rattle.std.proofs.Common.{◌∙◌, refl, ap}
use Rattle.rel_model.specs.Relation.{Relation}
use Rattle.rel_model.specs.Operators.{compose}
use Rattle.rel_slices.specs.declared.thin.Value.TheVariants.{Lines}
use Rattle.rel_slices.specs.Thin.{thin_of}
use Rattle.rel_slices.proofs.Valuing.{recast_value, value_same, rows_thin}
use Rattle.rel_slices.proofs.few.columns_by_many.Goals as goal

pub returns-clause-value : goal.returns-clause-value
returns-clause-value g c =
    let o = g.C.Core.worker c.args.core.now in
    let w1 = g.C.Core.worker c.cut_rows.new.core in
    let w2 = g.C.Core.worker c.columns_by_rows.new.core in
    let a = c.args.a.now in
    let rows = c.in_ok-rows.rows in
    let p = rows_thin w1 _ _ _ rows c.in_ok-rows.ensures.value in
    recast_value w2 _ _ _ _ _ _ c.in_ok-product.product refl p.other_is
    (ap (λ (x : Relation). compose x (thin_of w1 rows)) (value_same o w1 (Lines a) c.in_ok-rows.ensures.keeps c.requires.left) ∙ ap (compose (thin_of o a)) p.means)
    c.in_ok-product.ensures.value
