-- One group more is counted by its four bits.
use Rattle.std.proofs.Common.{arith}
use Rattle.k2_file.specs.Told.{bits_told}
use Rattle.k2_file.proofs.ReadGroups.{group-ones}
use Rattle.k2_file.proofs.bits.Bits.ones_in_groups.Goals as goal

pub groups-preserved : goal.groups-preserved
groups-preserved c =
    let bits = c.args.self.now in
    let g = c.group.result in
    let more = group-ones (bits_told bits.count bits.bytes.now) c.args.from c.groups.i g.nw g.ne g.sw g.se _ c.group.ensures.bits in
    record { sum = omega (arith, more, c.ones-found.ensures.value, c.groups.invariant.sum); few = omega (arith, c.ones-found.ensures.limit, c.groups.invariant.few) }
