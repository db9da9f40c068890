use Rattle.tree_blocks.proofs.Opening.{AreOpened}
use Rattle.tree_blocks.proofs.spill.open_level.Given as goal

abbrev pub invariant-names : goal.invariant-names
invariant-names l = AreOpened l.turned l.fn.nodes l.nodes l.height l.fn.names l.names l.count l.done
