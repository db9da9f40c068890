use Rattle.std.proofs.Common.{arith}
use Rattle.rel_images.proofs.Words.{rows_none, rows_more, rows_all}
use Rattle.rel_images.proofs.leaf.rows_image.Goals as goal

pub rows-init : goal.rows-init
rows-init c = rows_none c.args.side c.args.bits c.args.line

pub rows-preserved : goal.rows-preserved
rows-preserved c = rows_more c.args.side c.args.bits c.args.line c.rows.t c.rows.all c.with_row-all.result c.with_row-all.ensures.less c.with_row-all.ensures.bits c.rows.invariant

pub returns-clause-less : goal.returns-clause-less
returns-clause-less c = c.rows.invariant.less

pub returns-clause-bits : goal.returns-clause-bits
returns-clause-bits c = rows_all c.args.side c.args.bits c.args.line c.rows.t c.rows.all (omega arith) c.rows.invariant
