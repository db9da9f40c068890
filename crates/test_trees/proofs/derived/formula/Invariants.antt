use Rattle.rel_model.specs.Worker.{Stands, Keeps}
use Rattle.test_trees.proofs.derived.formula.Given as goal

abbrev pub invariant-elements : goal.invariant-elements
invariant-elements g l = Stands (g.C.Core.worker l.core) l.r × Stands (g.C.Core.worker l.core) l.s × Keeps (g.C.Core.worker l.fn.core) (g.C.Core.worker l.core)
