use Rattle.rel_rows.proofs.Bits.{leaf-side}
use Rattle.rel_rows.proofs.strips.row_in_leaf.Goals as goal

pub row_in_word-requires-clause-small : goal.row_in_word-requires-clause-small
row_in_word-requires-clause-small g c = leaf-side c.args.quad.height g.Q.Core.least c.side_of-side.result c.requires.leaf g.met.Q.Quads.least_limit c.side_of-side.ensures
