use Rattle.leaf_block.proofs.Sets.{block_cells-and_not}
use Rattle.leaf_block.proofs.words.block_diff.Goals as goal

pub returns : goal.returns
returns c = block_cells-and_not c.args.a c.args.b c.ranges.b.fits
