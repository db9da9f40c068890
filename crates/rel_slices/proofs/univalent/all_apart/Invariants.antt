use Rattle.rel_model.specs.Cells.{some_below}
use Rattle.rel_slices.proofs.Univalents.{Tried, lines_meet}
use Rattle.rel_slices.proofs.univalent.all_apart.Given as goal

abbrev pub invariant-lines : goal.invariant-lines
invariant-lines g l = Tried (g.C.Core.worker l.fn.core) (g.C.Core.worker l.core) (λ j. some_below j (lines_meet (g.C.Core.worker l.fn.core) l.s j)) l.j
