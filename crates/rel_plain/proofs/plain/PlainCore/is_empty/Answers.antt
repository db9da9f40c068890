use Rattle.rel_plain.proofs.Comparing.{empty_decides}
use Rattle.rel_plain.proofs.plain.PlainCore.is_empty.Goals as goal

pub returns : goal.returns
returns c = empty_decides _ _ c.pairs_of.result.now _ c.is_empty.result c.pairs_of.ensures.kept c.pairs_of.ensures.means c.is_empty.ensures
