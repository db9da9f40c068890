use Rattle.leaf_block.proofs.Turns.{bit-transposed, transposed_from_bits}
use Rattle.leaf_block.proofs.transpose.block_transpose.Goals as goal

pub returns : goal.returns
returns c =
    transposed_from_bits c.args.a _
    (bit-transposed c.args.a c.swap-cells.result c.swap-pairs.result c.swap.result c.swap-cells.ensures c.swap-pairs.ensures c.swap.ensures)
