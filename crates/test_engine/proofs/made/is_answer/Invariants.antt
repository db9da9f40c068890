use Rattle.rel_model.specs.Worker.{Stands, Keeps}
use Rattle.test_engine.proofs.made.is_answer.Given as goal

abbrev pub invariant-rows : goal.invariant-rows
invariant-rows g l = Stands (g.E.Core.worker l.engine) l.all × Keeps (g.E.Core.worker l.fn.engine) (g.E.Core.worker l.engine)

abbrev pub invariant-columns : goal.invariant-columns
invariant-columns g l = Stands (g.E.Core.worker l.engine) l.all × Keeps (g.E.Core.worker l.fn.engine) (g.E.Core.worker l.engine)
