use Rattle.std.proofs.Common.{◌≤◌, ◌+◌, ◌^◌, ◌≡◌, length, take}
use Rattle.rel_model.specs.Worker.{Worker}
use Rattle.rel_slices.specs.Remembering.{AreListed, pairs_kept}
use Rattle.rel_slices.proofs.listings.Listings.trim.Given as goal

abbrev pub invariant-places : goal.invariant-places
invariant-places l = record {
  listed : (w : Worker) → AreListed w l.fn.self → AreListed w l.self;
  long : length l.self.kept ≡ 4;
  within : pairs_kept (take l.place l.self.kept) + l.room ≤ 2 ^ 23;
}
