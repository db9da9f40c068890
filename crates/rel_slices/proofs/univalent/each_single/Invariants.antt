use Rattle.std.proofs.Common.{not}
use Rattle.rel_model.specs.Choice.{is_unival}
use Rattle.rel_slices.specs.Thin.{line_set}
use Rattle.rel_slices.proofs.Univalents.{Tried}
use Rattle.rel_slices.proofs.univalent.each_single.Given as goal

abbrev pub invariant-lines : goal.invariant-lines
invariant-lines g l = Tried (g.E.Core.worker l.fn.engine) (g.E.Core.worker l.engine) (λ i. not (is_unival (line_set (g.E.Core.worker l.fn.engine) l.s i))) l.i
