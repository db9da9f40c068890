use Rattle.rel_images.proofs.Heaps.{added-here}
use Rattle.rel_images.proofs.leaf.add_line.Goals as goal

pub returns : goal.returns
returns c = added-here c.args.xs.now c.args.k c.args.side c.args.line c.requires.within c.requires.less
