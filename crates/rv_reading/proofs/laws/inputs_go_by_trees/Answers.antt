use Rattle.rv_reading.proofs.Alike.{inputs_go_by_trees}
use Rattle.rv_reading.proofs.laws.inputs_go_by_trees.Goals as goal

pub returns : goal.returns
returns c = inputs_go_by_trees
