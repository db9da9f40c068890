use Rattle.rel_images.proofs.Heaps.{AreMarked}
use Rattle.rel_images.proofs.marking.mark.Given as goal

abbrev pub invariant-entries : goal.invariant-entries
invariant-entries l = AreMarked l.leaves l.t l.fn.xs l.xs
