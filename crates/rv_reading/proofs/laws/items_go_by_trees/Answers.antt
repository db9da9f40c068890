use Rattle.rv_reading.proofs.Alike.{items_go_by_trees}
use Rattle.rv_reading.proofs.laws.items_go_by_trees.Goals as goal

pub returns : goal.returns
returns c = items_go_by_trees
