use Rattle.leaf_block.proofs.Sets.{block_cells-and_not}
use Rattle.leaf_block.proofs.laws.diff_is_and_not.Goals as goal

pub returns : goal.returns
returns c = block_cells-and_not
