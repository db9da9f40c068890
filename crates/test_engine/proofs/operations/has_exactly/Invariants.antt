use Rattle.rel_model.specs.Worker.{Stands, Keeps}
use Rattle.test_engine.proofs.operations.has_exactly.Given as goal

abbrev pub invariant-rows : goal.invariant-rows
invariant-rows g l = Stands (g.E.Core.worker l.engine) l.fn.r × Keeps (g.E.Core.worker l.fn.engine) (g.E.Core.worker l.engine)

abbrev pub invariant-cols : goal.invariant-cols
invariant-cols g l = Stands (g.E.Core.worker l.engine) l.fn.r × Keeps (g.E.Core.worker l.fn.engine) (g.E.Core.worker l.engine)
