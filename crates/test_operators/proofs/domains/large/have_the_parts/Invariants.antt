use Rattle.rel_model.specs.Worker.{Stands, Keeps}
use Rattle.test_operators.proofs.domains.large.have_the_parts.Given as goal

abbrev pub invariant-numbers : goal.invariant-numbers
invariant-numbers g l = Stands (g.Q.Core.worker l.q) l.to_first × Stands (g.Q.Core.worker l.q) l.to_second × Keeps (g.Q.Core.worker l.fn.q) (g.Q.Core.worker l.q)
