use Rattle.rel_model.specs.Worker.{Stands}
use Rattle.test_operators.proofs.choice.is_walked_from_each_place.Given as goal

abbrev pub invariant-rows : goal.invariant-rows
invariant-rows g l = Stands (g.Q.Core.worker l.q) l.r

abbrev pub invariant-cols : goal.invariant-cols
invariant-cols g l = Stands (g.Q.Core.worker l.q) l.r
