use Rattle.rel_values.proofs.LineLists.{Listing}
use Rattle.rel_values.proofs.listing.places_of.Given as goal

abbrev pub invariant-lines : goal.invariant-lines
invariant-lines g l = Listing (g.E.Core.worker l.fn.engine) (g.E.Core.worker l.engine) l.s l.i l.pairs.items
