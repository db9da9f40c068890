use Rattle.std.specs.Prelude.{IfSome}
use Rattle.rel_model.specs.Worker.{Worker}
use Rattle.rel_slices.specs.Remembering.{IsListed, AreListed}
use Rattle.rel_slices.proofs.listings.Listings.put_first.Given as goal

abbrev pub invariant-places : goal.invariant-places
invariant-places l = record {
  kept : (w : Worker) → AreListed w l.fn.self → IsListed w l.fn.listing → AreListed w l.self;
  moved : (w : Worker) → AreListed w l.fn.self → IsListed w l.fn.listing → IfSome l.moved (IsListed w);
}
