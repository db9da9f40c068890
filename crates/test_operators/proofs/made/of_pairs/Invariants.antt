use Rattle.std.proofs.Common.{◌≡◌}
use Rattle.rel_model.specs.Worker.{Stands, Keeps}
use Rattle.test_operators.proofs.made.of_pairs.Given as goal

abbrev pub invariant-pairs : goal.invariant-pairs
invariant-pairs g l = Stands (g.Q.Core.worker l.q) l.r × (l.r.rows ≡ l.shape.rows) × (l.r.cols ≡ l.shape.cols) × Keeps (g.Q.Core.worker l.fn.q) (g.Q.Core.worker l.q)
