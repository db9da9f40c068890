use Rattle.leaf_block.proofs.Sets.{block_cells-and}
use Rattle.leaf_block.proofs.words.block_inter.Goals as goal

pub returns : goal.returns
returns c = block_cells-and c.args.a c.args.b
