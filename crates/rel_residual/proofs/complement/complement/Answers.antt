use Rattle.rel_residual.proofs.Deriving.{complement_given}
use Rattle.rel_residual.proofs.complement.complement.Goals as goal

pub returns-clause-value : goal.returns-clause-value
returns-clause-value g c =
    let laws = g.met.C.Core in
    complement_given (g.C.Core.worker c.args.core.now) _ _ c.args.r.rows c.args.r.cols c.args.r c.in_ok-full.full c.in_ok-rest.rest c.in_ok-full.ensures.keeps c.requires
    (laws.row_size c.args.core.now c.args.r c.requires) (laws.col_size c.args.core.now c.args.r c.requires) c.in_ok-full.ensures.value c.in_ok-rest.ensures.value
