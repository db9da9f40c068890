use Rattle.std.proofs.Common.{subst}
use Rattle.rel_model.specs.Quads.{IsKeeper}
use Rattle.fork_quads.proofs.Operating.{nothing_value}
use Rattle.fork_quads.proofs.relations.CrewCore.empty.Goals as goal

pub returns-clause-value : goal.returns-clause-value
returns-clause-value g c = nothing_value c.args.self.now c.args.shape.rows c.args.shape.cols (subst IsKeeper c.self.view_is c.bottom.ensures.work) c.requires.row_limit c.requires.col_limit
