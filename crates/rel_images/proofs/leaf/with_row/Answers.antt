use Rattle.std.proofs.lemmas.Nat.{or_lt}
use Rattle.rel_images.proofs.Words.{row_added, row_left}
use Rattle.rel_images.proofs.leaf.with_row.Goals as goal

pub returns-then-line-t-eq1-clause-less : goal.returns-then-line-t-eq1-clause-less
returns-then-line-t-eq1-clause-less c = or_lt c.args.side c.args.all c.row_of.result c.requires.less c.row_of.ensures.less

pub returns-then-line-t-eq1-clause-bits : goal.returns-then-line-t-eq1-clause-bits
returns-then-line-t-eq1-clause-bits c j l = row_added c.args.all c.row_of.result c.args.line c.args.side c.args.bits c.args.t j c.if-line-t-eq1.true (c.row_of.ensures.bits j l)

pub returns-clause-bits : goal.returns-clause-bits
returns-clause-bits c j l = row_left c.args.all c.args.line c.args.side c.args.bits c.args.t j c.if-line-t-eq1.false
