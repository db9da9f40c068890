use Rattle.rel_model.specs.Worker.{Stands, Keeps}
use Rattle.test_operators.proofs.order.are_right.Given as goal

abbrev pub invariant-calls : goal.invariant-calls
invariant-calls g l = Stands (g.Q.Core.worker l.q) l.r × Stands (g.Q.Core.worker l.q) l.s × Keeps (g.Q.Core.worker l.fn.q) (g.Q.Core.worker l.q)
