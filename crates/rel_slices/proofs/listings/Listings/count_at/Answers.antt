use Rattle.std.proofs.Common.{◌<◌, arith, length}
use Rattle.rel_slices.proofs.Counting.{pairs_at-none, pairs_at-some}
use Rattle.rel_slices.proofs.listings.Listings.count_at.Goals as goal

pub returns-in-Some : goal.returns-in-Some
returns-in-Some c =
    let within : c.args.place < length c.args.self.now.kept = omega (arith, c.requires.place) in
    omega (arith, c.len.ensures, pairs_at-some c.args.place c.args.self.now.kept _ c.in-Some.listing within c.in-Some.is)

pub returns-in-None : goal.returns-in-None
returns-in-None c =
    let within : c.args.place < length c.args.self.now.kept = omega (arith, c.requires.place) in
    pairs_at-none c.args.place c.args.self.now.kept _ within c.in-None.is
