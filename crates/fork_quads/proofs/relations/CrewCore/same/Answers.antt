use Rattle.std.proofs.Common.{refl}
use Rattle.fork_quads.proofs.Operating.{same_decides}
use Rattle.fork_quads.proofs.relations.CrewCore.same.Goals as goal

pub returns : goal.returns
returns g c = same_decides c.args.self.now c.self.inside.nodes c.args.r c.args.s _ c.self.view_is c.bottom.ensures.work c.requires.left c.requires.right c.requires.rows c.requires.cols refl
