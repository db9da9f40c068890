use Rattle.rel_model.specs.Worker.{Stands, Keeps}
use Rattle.test_trees.proofs.derived.is_its_formula.Given as goal

abbrev pub invariant-rows : goal.invariant-rows
invariant-rows g l = Stands (g.C.Core.worker l.core) l.found × Stands (g.C.Core.worker l.core) l.r × Stands (g.C.Core.worker l.core) l.s × Keeps (g.C.Core.worker l.fn.core) (g.C.Core.worker l.core)

abbrev pub invariant-cols : goal.invariant-cols
invariant-cols g l = Stands (g.C.Core.worker l.core) l.found × Stands (g.C.Core.worker l.core) l.r × Stands (g.C.Core.worker l.core) l.s × Keeps (g.C.Core.worker l.fn.core) (g.C.Core.worker l.core)
