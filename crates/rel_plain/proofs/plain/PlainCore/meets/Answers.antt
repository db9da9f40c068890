use Rattle.rel_plain.specs.KeptLaws.{rows_law, cols_law}
use Rattle.rel_plain.proofs.Meeting.{meets_decides}
use Rattle.rel_plain.proofs.plain.PlainCore.meets.Goals as goal

pub returns-clause-value : goal.returns-clause-value
returns-clause-value c = meets_decides _ _ _ _ c.pairs_of.result.now c.pairs_of-2.result.now _ _ c.share.result c.requires.rows c.requires.cols c.pairs_of.ensures.kept c.pairs_of.ensures.means c.pairs_of-2.ensures.means (rows_law c.args.self.now c.args.r c.requires.left) (cols_law c.args.self.now c.args.r c.requires.left) c.share.ensures
