use Rattle.rv_eval.specs.Names.{AllStand}
use Rattle.test_eval.proofs.answer.answers.Given as goal

abbrev pub invariant-items : goal.invariant-items
invariant-items g l = AllStand (g.E.Core.worker l.engine) l.names.items
