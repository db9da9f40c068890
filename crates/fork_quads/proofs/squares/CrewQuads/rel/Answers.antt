use Rattle.fork_quads.proofs.Quartering.{rel_gives}
use Rattle.fork_quads.proofs.squares.CrewQuads.rel.Goals as goal

pub returns : goal.returns
returns g c = rel_gives c.args.self.now c.self.inside.nodes c.args.shape.rows c.args.shape.cols c.args.q c.self.view_is c.bottom.ensures.work c.requires.row_limit c.requires.col_limit c.requires.stands c.requires.height c.requires.within
