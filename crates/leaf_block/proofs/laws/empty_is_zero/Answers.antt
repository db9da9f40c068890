use Rattle.leaf_block.proofs.Sets.{block_cells-zero}
use Rattle.leaf_block.proofs.laws.empty_is_zero.Goals as goal

pub returns : goal.returns
returns c = block_cells-zero
