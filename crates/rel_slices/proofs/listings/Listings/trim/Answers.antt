use Rattle.std.proofs.Common.{◌≤◌, arith, ap, length}
use Rattle.std.proofs.lemmas.List.{take_all}
use Rattle.rel_slices.specs.Remembering.{pairs_kept}
use Rattle.rel_slices.proofs.Counting.{kept-none}
use Rattle.rel_slices.proofs.listings.Listings.trim.Goals as goal

pub places-init : goal.places-init
places-init c = record { listed = λ w h. h; long = omega arith; within = omega (arith, kept-none) }

pub returns-clause-within : goal.returns-clause-within
returns-clause-within c =
    let long : length c.places.self.kept ≤ c.places.place = omega (arith, c.places-test.false, c.places.invariant.long) in
    let all = ap pairs_kept (take_all c.places.place c.places.self.kept long) in
    omega (arith, all, c.places.invariant.within)

pub places-preserved : goal.places-preserved
places-preserved c = record {
  listed = λ w h. c.trim_at-room.ensures.listed w (c.places.invariant.listed w h);
  long = omega (arith, c.trim_at-room.ensures.places, c.places.invariant.long);
  within = omega (arith, c.places.invariant.within, c.trim_at-room.ensures.within);
}
