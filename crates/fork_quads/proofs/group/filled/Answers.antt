use Rattle.fork_quads.proofs.Merging.{filled_all}
use Rattle.fork_quads.proofs.group.filled.Goals as goal

pub returns : goal.returns
returns c = filled_all c.args.quad
