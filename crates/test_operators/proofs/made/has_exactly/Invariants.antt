use Rattle.std.proofs.Common.{◌≤◌, length}
use Rattle.rel_model.specs.Worker.{Stands, Keeps}
use Rattle.test_operators.proofs.made.has_exactly.Given as goal

abbrev pub invariant-rows : goal.invariant-rows
invariant-rows g l = (l.met ≤ length l.pairs) × Stands (g.Q.Core.worker l.q) l.fn.r × Keeps (g.Q.Core.worker l.fn.q) (g.Q.Core.worker l.q)

abbrev pub invariant-cols : goal.invariant-cols
invariant-cols g l = (l.met ≤ length l.pairs) × Stands (g.Q.Core.worker l.q) l.fn.r × Keeps (g.Q.Core.worker l.fn.q) (g.Q.Core.worker l.q)
