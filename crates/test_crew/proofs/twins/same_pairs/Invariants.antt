use Rattle.rel_model.specs.Worker.{Keeps}
use Rattle.test_crew.proofs.twins.same_pairs.Given as goal

abbrev pub invariant-rows : goal.invariant-rows
invariant-rows g l = Keeps (g.C.Core.worker l.fn.crew) (g.C.Core.worker l.crew) × Keeps (g.P.Core.worker l.fn.plain) (g.P.Core.worker l.plain)

abbrev pub invariant-cols : goal.invariant-cols
invariant-cols g l = Keeps (g.C.Core.worker l.fn.crew) (g.C.Core.worker l.crew) × Keeps (g.P.Core.worker l.fn.plain) (g.P.Core.worker l.plain)
