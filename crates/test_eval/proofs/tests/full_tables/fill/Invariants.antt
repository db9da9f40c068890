use Rattle.rel_model.specs.Worker.{Keeps}
use Rattle.test_eval.proofs.tests.full_tables.fill.Given as goal

abbrev pub invariant-words : goal.invariant-words
invariant-words g l = Keeps (g.E.Core.worker l.fn.engine) (g.E.Core.worker l.engine)
