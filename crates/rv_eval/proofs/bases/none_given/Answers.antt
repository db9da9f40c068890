use Rattle.std.proofs.Common.{refl, arith}
use Rattle.rv_eval.proofs.Performing.{whole_performs}
use Rattle.rv_eval.proofs.bases.none_given.Goals as goal

pub returns : goal.returns
returns g c =
    let e = c.empty.ensures in
    whole_performs _ _ c.empty.result refl c.as_whole.ensures c.lift.ensures
    (omega arith) e.value e.keeps e.room e.cause
