use Rattle.test_trees.proofs.Trying.{block_stands_low}
use Rattle.test_trees.proofs.memo.name_of_block.Goals as goal

pub returns-clause-block : goal.returns-clause-block
returns-clause-block g c = block_stands_low _ _ c.args.bits c.in-Ok.name c.if-bits-eq0.false c.in-Ok.ensures.interns
