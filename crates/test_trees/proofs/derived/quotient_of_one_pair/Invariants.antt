use Rattle.rel_model.specs.Worker.{Stands}
use Rattle.test_trees.proofs.derived.quotient_of_one_pair.Given as goal

abbrev pub invariant-rows : goal.invariant-rows
invariant-rows g l = Stands (g.C.Core.worker l.core) l.quotient

abbrev pub invariant-cols : goal.invariant-cols
invariant-cols g l = Stands (g.C.Core.worker l.core) l.quotient
