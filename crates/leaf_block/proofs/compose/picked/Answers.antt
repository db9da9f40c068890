use Rattle.leaf_block.proofs.Composes.{picked-lanes}
use Rattle.leaf_block.proofs.compose.picked.Goals as goal

pub returns : goal.returns
returns c = picked-lanes c.args.rows c.args.bits c.args.row c.fits-rows c.fits-bits c.fits-row
