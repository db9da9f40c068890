use Rattle.fork_quads.proofs.Quartering.{root_gives}
use Rattle.fork_quads.proofs.squares.CrewQuads.root.Goals as goal

pub returns : goal.returns
returns g c = root_gives c.args.self.now c.self.inside.nodes c.args.r c.root_of.result c.self.view_is c.bottom.ensures.work c.requires c.root_of.ensures
