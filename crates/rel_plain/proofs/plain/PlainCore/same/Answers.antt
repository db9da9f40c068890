use Rattle.rel_plain.proofs.Comparing.{same_decides}
use Rattle.rel_plain.proofs.plain.PlainCore.same.Goals as goal

pub returns : goal.returns
returns c = same_decides _ _ _ _ c.pairs_of.result.now c.pairs_of-2.result.now _ _ c.eq.result c.requires.rows c.requires.cols c.pairs_of.ensures.kept c.pairs_of-2.ensures.kept c.pairs_of.ensures.means c.pairs_of-2.ensures.means c.eq.ensures
