use Rattle.rel_model.specs.Worker.{Worker}
use Rattle.rel_slices.specs.Remembering.{AreListed}
use Rattle.rel_slices.proofs.listings.Listings.take.Given as goal

abbrev pub invariant-places : goal.invariant-places
invariant-places l = (w : Worker) → AreListed w l.fn.self → AreListed w l.self
