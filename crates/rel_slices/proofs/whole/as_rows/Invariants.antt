use Rattle.rel_rows.specs.Rooms.{strip_room}
use Rattle.rel_slices.specs.Thin.{line_set}
use Rattle.rel_slices.proofs.Putting.{Grows}
use Rattle.rel_slices.proofs.Laying.{rows_below}
use Rattle.rel_slices.proofs.whole.as_rows.Given as goal

abbrev pub invariant-lines : goal.invariant-lines
invariant-lines g l = Grows (g.C.Core.worker l.fn.core) (g.C.Core.worker l.core) (strip_room g.C.Core.least l.s.count l.s.other) l.s.count l.s.other
    (rows_below l.i l.s.count l.s.other (line_set (g.C.Core.worker l.fn.core) l.s)) l.i l.all
