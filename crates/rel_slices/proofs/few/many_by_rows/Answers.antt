use Rattle.std.proofs.Common.{◌∙◌, refl, ap}
use Rattle.rel_model.specs.Relation.{Relation}
use Rattle.rel_model.specs.Operators.{compose}
use Rattle.rel_model.specs.Worker.{set_of}
use Rattle.rel_slices.specs.declared.thin.Value.TheVariants.{Lines}
use Rattle.rel_slices.specs.Thin.{thin_of}
use Rattle.rel_slices.proofs.Valuing.{recast_value, value_same}
use Rattle.rel_slices.proofs.few.many_by_rows.Goals as goal

pub returns-clause-value : goal.returns-clause-value
returns-clause-value g c =
    let o = g.C.Core.worker c.args.core.now in
    let w1 = g.C.Core.worker c.cut_columns.new.core in
    let w2 = g.C.Core.worker c.columns_by_rows.new.core in
    let b = c.args.b.now in
    let p = c.in_ok-columns.ensures.value in
    recast_value w2 _ _ _ _ _ _ c.in_ok-product.product p.other_is refl
    (ap (λ (x : Relation). compose x (thin_of w1 b)) p.means ∙ ap (compose (set_of o c.args.r)) (value_same o w1 (Lines b) c.in_ok-columns.ensures.keeps c.requires.right))
    c.in_ok-product.ensures.value
