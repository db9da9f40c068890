use Rattle.leaf_block.proofs.Sets.{block_of-lt, block_cells-block_of}
use Rattle.leaf_block.proofs.laws.set_has_block.Goals as goal

pub returns : goal.returns
returns c f w = (block_of-lt f, block_cells-block_of f w)
