use Rattle.rel_model.specs.Trees.{bottom_height}
use Rattle.fork_quads.proofs.squares.CrewQuads.bottom.Goals as goal

pub returns : goal.returns
unfolding bottom_height
returns g c = c.bottom.ensures.height
