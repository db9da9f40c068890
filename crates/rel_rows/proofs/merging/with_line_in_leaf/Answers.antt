use Rattle.rel_rows.proofs.Bits.{leaf-side}
use Rattle.rel_rows.proofs.merging.with_line_in_leaf.Goals as goal

pub word_with_row-requires-clause-small : goal.word_with_row-requires-clause-small
word_with_row-requires-clause-small g c = leaf-side c.args.quad.height g.Q.Core.least c.side_of-side.result c.requires.leaf g.met.Q.Quads.least_limit c.side_of-side.ensures
