use Rattle.rel_model.specs.Worker.{Keeps}
use Rattle.test_engine.proofs.operations.all_agree.Given as goal

abbrev pub invariant-operations : goal.invariant-operations
invariant-operations g l = Keeps (g.E.Core.worker l.fn.engine) (g.E.Core.worker l.engine)
