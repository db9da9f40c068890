use Rattle.std.proofs.Common.{arith}
use Rattle.rel_images.proofs.Words.{meetings_none, meetings_more, meetings_all}
use Rattle.rel_images.proofs.leaf.columns_image.Goals as goal

pub rows-init : goal.rows-init
rows-init c = meetings_none c.args.side c.args.bits c.args.line

pub rows-preserved : goal.rows-preserved
rows-preserved c = meetings_more c.args.side c.args.bits c.args.line c.rows.t c.rows.all c.with_meeting-all.result c.with_meeting-all.ensures.less c.with_meeting-all.ensures.bits c.rows.invariant

pub returns-clause-less : goal.returns-clause-less
returns-clause-less c = c.rows.invariant.less

pub returns-clause-bits : goal.returns-clause-bits
returns-clause-bits c = meetings_all c.args.side c.args.bits c.args.line c.rows.t c.rows.all (omega arith) c.rows.invariant
