use Rattle.rel_model.specs.Worker.{Stands, Keeps}
use Rattle.test_operators.proofs.choice.walks.walked.Given as goal

abbrev pub invariant-steps : goal.invariant-steps
invariant-steps g l = Stands (g.Q.Core.worker l.q) l.r × Keeps (g.Q.Core.worker l.fn.q) (g.Q.Core.worker l.q)
