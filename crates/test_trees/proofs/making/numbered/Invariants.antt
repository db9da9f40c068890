use Rattle.std.proofs.Common.{◌≡◌}
use Rattle.rel_model.specs.Worker.{Stands, Keeps}
use Rattle.test_trees.proofs.making.numbered.Given as goal

abbrev pub invariant-cols : goal.invariant-cols
invariant-cols g l = Stands (g.P.Core.worker l.plain) l.r × (l.r.rows ≡ l.shape.rows) × (l.r.cols ≡ l.shape.cols) × Keeps (g.P.Core.worker l.fn.plain) (g.P.Core.worker l.plain)

abbrev pub invariant-rows : goal.invariant-rows
invariant-rows g l = Stands (g.P.Core.worker l.plain) l.r × (l.r.rows ≡ l.shape.rows) × (l.r.cols ≡ l.shape.cols) × Keeps (g.P.Core.worker l.fn.plain) (g.P.Core.worker l.plain)
