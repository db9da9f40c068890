use Rattle.std.proofs.Common.{◌∙◌}
use Rattle.rv_eval.proofs.Operating.{type_of_fit}
use Rattle.rv_eval.proofs.Bounding.{order_of_classes, bounds_fit}
use Rattle.rv_eval.proofs.Performing.{lifted_performs}
use Rattle.rv_eval.proofs.bounds.bounded.Goals as goal

pub returns : goal.returns
returns g c =
    let e = c.args.engine.now in
    let laws = g.met.E.Core in
    let w = g.E.Core.worker e in
    let t = type_of_fit w _ (laws.valid e) (laws.row_size e) (laws.col_size e) c.requires.left in
    let u = type_of_fit w _ (laws.valid e) (laws.row_size e) (laws.col_size e) c.requires.right in
    let is = bounds_fit c.args.at t u c.args.base c.requires.bounds c.requires.square c.requires.rows
    ∙ c.bound_named.ensures _ _ in
    lifted_performs is c.lift.ensures
    (order_of_classes g.E.Core.least _ _ _ _ _ _ t.row_size t.col_size u.col_size) c.bounds.ensures.operates
