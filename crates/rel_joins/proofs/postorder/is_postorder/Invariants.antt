use Rattle.std.proofs.Common.{length}
use Rattle.rel_joins.proofs.Leaving.{Marking}
use Rattle.rel_joins.proofs.postorder.is_postorder.Given as goal

-- the elements so far are marked
abbrev pub invariant-elements : goal.invariant-elements
invariant-elements l = Marking (length l.fn.marks) l.fn.pairs l.fn.order l.x-index l.marks
