use Rattle.rel_model.specs.Worker.{set_of}
use Rattle.rel_rows.specs.Rows.{row_of}
use Rattle.rel_rows.specs.Rooms.{strip_room}
use Rattle.rel_slices.proofs.Putting.{Puts}
use Rattle.rel_slices.proofs.whole.cut_rows.Given as goal

abbrev pub invariant-rows : goal.invariant-rows
invariant-rows g l = Puts (g.C.Core.worker l.fn.core) (g.C.Core.worker l.core) (strip_room g.C.Core.least l.r.rows l.r.cols) l.fn.turned l.r.rows l.r.cols
    (row_of (set_of (g.C.Core.worker l.fn.core) l.r)) l.i l.made
