use Rattle.leaf_block.proofs.Sets.{block_cells-and}
use Rattle.leaf_block.proofs.laws.inter_is_and.Goals as goal

pub returns : goal.returns
returns c = block_cells-and
