use Rattle.rv_reading.proofs.Alike.{scripts_go_by_trees}
use Rattle.rv_reading.proofs.laws.scripts_go_by_trees.Goals as goal

pub returns : goal.returns
returns c = scripts_go_by_trees
