use Rattle.std.proofs.Common.{refl}
use Rattle.lang_model.specs.Mean.{turned}
use Rattle.rv_eval.proofs.Operating.{type_of_fit}
use Rattle.rv_eval.proofs.Costing.{plain_of}
use Rattle.rv_eval.proofs.Performing.{lifted_performs}
use Rattle.rv_eval.proofs.operators.transposed.Goals as goal

pub returns : goal.returns
unfolding turned
returns g c =
    let e = c.args.engine.now in
    let laws = g.met.E.Core in
    let w = g.E.Core.worker e in
    let t = type_of_fit w c.args.r.now (laws.valid e) (laws.row_size e) (laws.col_size e) c.requires.standing in
    let room = plain_of g.E.Core.least _ _ _ _ t.row_size t.col_size in
    lifted_performs refl c.lift.ensures room c.turned.ensures.operates
