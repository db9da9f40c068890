use Rattle.leaf_block.proofs.Rects.{block_cells-rect}
use Rattle.leaf_block.proofs.rect.block_rect.Goals as goal

pub returns : goal.returns
returns c = block_cells-rect c.args.rows c.args.cols c.requires.row c.requires.col
