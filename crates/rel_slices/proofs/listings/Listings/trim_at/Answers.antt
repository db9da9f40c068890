use Rattle.std.proofs.Common.{◌<◌, arith, length}
use Rattle.rel_slices.proofs.Counting.{kept-one_more, kept-freed}
use Rattle.rel_slices.proofs.listings.Listings.trim_at.Goals as goal

pub returns-then-count-room-clause-within : goal.returns-then-count-room-clause-within
returns-then-count-room-clause-within c =
    let within : c.args.place < length c.args.self.now.kept = omega (arith, c.requires.place) in
    let more = kept-one_more c.args.place c.args.self.now.kept within in
    omega (arith, more, c.count_at-count.ensures, c.if-count-room.true)

pub returns-clause-within : goal.returns-clause-within
returns-clause-within c =
    let within : c.args.place < length c.args.self.now.kept = omega (arith, c.requires.place) in
    let freed = kept-freed c.args.place c.args.self.now.kept within in
    omega (arith, freed)
