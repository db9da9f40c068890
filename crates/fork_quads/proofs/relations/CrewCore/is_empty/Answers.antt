use Rattle.std.proofs.Common.{refl}
use Rattle.fork_quads.proofs.Operating.{empty_decides}
use Rattle.fork_quads.proofs.relations.CrewCore.is_empty.Goals as goal

pub returns : goal.returns
returns g c = empty_decides c.args.self.now c.self.inside.nodes c.args.r _ c.self.view_is c.bottom.ensures.work c.requires refl
