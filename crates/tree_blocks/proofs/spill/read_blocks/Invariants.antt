use Rattle.tree_blocks.proofs.Opening.{AreRead}
use Rattle.tree_blocks.proofs.spill.read_blocks.Given as goal

abbrev pub invariant-blocks-2 : goal.invariant-blocks-2
invariant-blocks-2 l = AreRead l.turned l.fn.nodes l.nodes l.bottom l.names l.fn.out l.out l.place
