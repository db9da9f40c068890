use Rattle.rel_model.specs.Worker.{Stands, Keeps}
use Rattle.test_operators.proofs.order.is_given.Given as goal

abbrev pub invariant-rows : goal.invariant-rows
invariant-rows g l = Stands (g.Q.Core.worker l.q) l.found × Keeps (g.Q.Core.worker l.fn.q) (g.Q.Core.worker l.q)

abbrev pub invariant-cols : goal.invariant-cols
invariant-cols g l = Stands (g.Q.Core.worker l.q) l.found × Keeps (g.Q.Core.worker l.fn.q) (g.Q.Core.worker l.q)
