use Rattle.std.proofs.Common.{◌-◌, arith, refl}
use Rattle.rel_images.proofs.Heaps.{marks_none, marks_more, marks_all}
use Rattle.rel_images.proofs.marking.mark.Goals as goal

pub entries-init : goal.entries-init
entries-init c = marks_none c.args.leaves c.args.xs.now

pub entries-preserved : goal.entries-preserved
entries-preserved c = marks_more c.args.leaves c.entries.t (c.args.leaves - c.entries.t) c.args.xs.now c.entries.xs refl (omega arith) (omega arith) c.requires c.entries.invariant

pub returns : goal.returns
returns c = marks_all c.args.leaves c.entries.t c.args.xs.now c.entries.xs (omega arith) c.entries.invariant
