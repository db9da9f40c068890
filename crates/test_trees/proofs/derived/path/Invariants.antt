use Rattle.std.proofs.Common.{◌≡◌}
use Rattle.rel_model.specs.Worker.{Stands, Keeps}
use Rattle.test_trees.proofs.derived.path.Given as goal

abbrev pub invariant-vertices : goal.invariant-vertices
invariant-vertices g l = Stands (g.C.Core.worker l.core) l.r × (l.r.rows ≡ l.n) × (l.r.cols ≡ l.n) × Keeps (g.C.Core.worker l.fn.core) (g.C.Core.worker l.core)
