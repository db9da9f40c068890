use Rattle.leaf_block.proofs.Sets.{block_within}
use Rattle.leaf_block.proofs.laws.block_is_within.Goals as goal

pub returns : goal.returns
returns c = block_within
