use Rattle.rel_values.proofs.LineCounts.{Counted}
use Rattle.rel_values.proofs.counting.lines_count.Given as goal

abbrev pub invariant-lines : goal.invariant-lines
invariant-lines g l = Counted (g.E.Core.worker l.fn.engine) (g.E.Core.worker l.engine) l.s l.i l.total
