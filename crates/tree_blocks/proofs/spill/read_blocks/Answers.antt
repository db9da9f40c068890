use Rattle.std.proofs.Common.{◌∙◌, refl, arith}
use Rattle.tree_blocks.proofs.Opening.{square_none}
use Rattle.tree_blocks.proofs.spill.read_blocks.Goals as goal

pub returns-clause-cells : goal.returns-clause-cells
returns-clause-cells c k l = square_none 0 c.blocks-2.out k refl ∙ c.blocks-2.invariant.read k (let x = c.blocks-2-test.false in let y = c.blocks-2.invariant.len in omega arith)
