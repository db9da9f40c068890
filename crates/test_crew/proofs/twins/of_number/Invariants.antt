use Rattle.std.proofs.Common.{◌≡◌}
use Rattle.rel_model.specs.Worker.{Stands, Keeps}
use Rattle.test_crew.proofs.twins.of_number.Given as goal

abbrev pub invariant-rows : goal.invariant-rows
invariant-rows g l = Stands (g.C.Core.worker l.core) l.r × (l.r.rows ≡ l.shape.rows) × (l.r.cols ≡ l.shape.cols) × Keeps (g.C.Core.worker l.fn.core) (g.C.Core.worker l.core)

abbrev pub invariant-cols : goal.invariant-cols
invariant-cols g l = Stands (g.C.Core.worker l.core) l.r × (l.r.rows ≡ l.shape.rows) × (l.r.cols ≡ l.shape.cols) × Keeps (g.C.Core.worker l.fn.core) (g.C.Core.worker l.core)
