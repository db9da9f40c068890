use Rattle.std.proofs.Common.{◌≡◌}
use Rattle.rel_model.specs.Worker.{Stands, Keeps}
use Rattle.test_crew.proofs.twins.plain_of.Given as goal

abbrev pub invariant-pairs : goal.invariant-pairs
invariant-pairs g l = Stands (g.P.Core.worker l.plain) l.r × (l.r.rows ≡ l.shape.rows) × (l.r.cols ≡ l.shape.cols) × Keeps (g.P.Core.worker l.fn.plain) (g.P.Core.worker l.plain)
