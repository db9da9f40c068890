use Rattle.std.proofs.Common.{◌≡◌, length}
use Rattle.rv_io.specs.Sure.{kept_at, AreWithin}
use Rattle.rv_io.proofs.kept.find_in.Given as goal

abbrev pub invariant-places : goal.invariant-places
invariant-places l = record {
  within : AreWithin l.bytes l.rest;
  same : kept_at l.bytes l.rest l.name ≡ kept_at l.bytes l.places l.name;
}

abbrev pub decreases-places : goal.decreases-places
decreases-places l = length l.rest
