use Rattle.leaf_block.proofs.Sets.{block_cells-or}
use Rattle.leaf_block.proofs.words.block_union.Goals as goal

pub returns : goal.returns
returns c = block_cells-or c.args.a c.args.b
