use Rattle.rel_boole.proofs.ByBlocks.{AreCombined}
use Rattle.rel_boole.proofs.blocks.combine_blocks.Given as goal

abbrev pub invariant-places : goal.invariant-places
invariant-places l = AreCombined l.op l.fn.blocks l.others l.blocks l.place
