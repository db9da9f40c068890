use Rattle.rel_slices.proofs.Univalents.{Tried, lines_meet}
use Rattle.rel_slices.proofs.univalent.is_apart.Given as goal

abbrev pub invariant-earlier : goal.invariant-earlier
invariant-earlier g l = Tried (g.C.Core.worker l.fn.core) (g.C.Core.worker l.core) (lines_meet (g.C.Core.worker l.fn.core) l.s l.fn.j) l.k
