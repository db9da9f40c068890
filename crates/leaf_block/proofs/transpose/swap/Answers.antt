use Rattle.leaf_block.proofs.Bits.{swap-lanes}
use Rattle.leaf_block.proofs.transpose.swap.Goals as goal

pub returns : goal.returns
returns c = swap-lanes c.args.by c.args.mask 1 c.args.x c.fits-x.0
