use Rattle.leaf_block.proofs.Sets.{block_cells-or}
use Rattle.leaf_block.proofs.laws.union_is_or.Goals as goal

pub returns : goal.returns
returns c = block_cells-or
