use Rattle.leaf_block.proofs.Sets.{same_block_iff}
use Rattle.leaf_block.proofs.laws.same_cells_same_block.Goals as goal

pub returns : goal.returns
returns c = same_block_iff
