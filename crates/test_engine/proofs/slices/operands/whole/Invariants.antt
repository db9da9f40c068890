use Rattle.std.proofs.Common.{◌≡◌}
use Rattle.rel_model.specs.Worker.{Stands, Keeps}
use Rattle.test_engine.proofs.slices.operands.whole.Given as goal

abbrev pub invariant-rows : goal.invariant-rows
invariant-rows g l = record {
  standing : Stands (g.E.Core.worker l.engine) l.r;
  rows : l.r.rows ≡ l.fn.shape.rows;
  cols : l.r.cols ≡ l.fn.shape.cols;
  keeps : Keeps (g.E.Core.worker l.fn.engine) (g.E.Core.worker l.engine);
}
