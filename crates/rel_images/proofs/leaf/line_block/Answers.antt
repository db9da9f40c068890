use Rattle.rel_images.proofs.Words.{line-cells, line-small}
use Rattle.rel_images.proofs.leaf.line_block.Goals as goal

pub returns-clause-cells : goal.returns-clause-cells
returns-clause-cells c = line-cells c.args.line c.args.side c.requires.small

pub returns-clause-none_past : goal.returns-clause-none_past
returns-clause-none_past c = line-small c.args.line c.args.side c.requires.small
