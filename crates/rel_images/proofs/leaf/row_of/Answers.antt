use Rattle.rel_images.proofs.Words.{row-less, row-bit}
use Rattle.rel_images.proofs.leaf.row_of.Goals as goal

pub returns-clause-less : goal.returns-clause-less
returns-clause-less c = row-less c.args.bits c.args.side c.args.row c.requires.small

pub returns-clause-bits : goal.returns-clause-bits
returns-clause-bits c j l = row-bit c.args.bits c.args.side c.args.row j c.requires.small c.requires.within l
