use Rattle.rel_model.specs.Worker.{Stands, Keeps}
use Rattle.test_engine.proofs.operations.walks_over.Given as goal

abbrev pub invariant-pairs : goal.invariant-pairs
invariant-pairs g l = Stands (g.E.Core.worker l.engine) l.fn.r × Keeps (g.E.Core.worker l.fn.engine) (g.E.Core.worker l.engine)
