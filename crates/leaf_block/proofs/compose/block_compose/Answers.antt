use Rattle.leaf_block.proofs.Composes.{block_cells-composed}
use Rattle.leaf_block.proofs.compose.block_compose.Goals as goal

pub returns : goal.returns
returns c =
    block_cells-composed c.args.a c.args.b c.picked-step_0.result c.picked-step_1.result c.picked-step_2.result c.picked-step_3.result c.ranges.a.fits c.ranges.b.fits
    (record { step_0 = c.picked-step_0.ensures; step_1 = c.picked-step_1.ensures; step_2 = c.picked-step_2.ensures; step_3 = c.picked-step_3.ensures })
