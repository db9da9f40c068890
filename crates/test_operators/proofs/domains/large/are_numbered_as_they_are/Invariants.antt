use Rattle.rel_model.specs.Worker.{Stands, Keeps}
use Rattle.test_operators.proofs.domains.large.are_numbered_as_they_are.Given as goal

abbrev pub invariant-rows : goal.invariant-rows
invariant-rows g l = Stands (g.Q.Core.worker l.q) l.r × Keeps (g.Q.Core.worker l.fn.q) (g.Q.Core.worker l.q)
