use Rattle.std.proofs.Common.{◌≡◌}
use Rattle.rel_model.specs.Worker.{Stands, Keeps}
use Rattle.test_engine.proofs.slices.operands.row_beside.Given as goal

abbrev pub invariant-columns : goal.invariant-columns
invariant-columns g l = record {
  standing : Stands (g.E.Core.worker l.engine) l.all;
  rows : l.all.rows ≡ l.fn.r.rows;
  cols : l.all.cols ≡ l.fn.r.cols;
  keeps : Keeps (g.E.Core.worker l.fn.engine) (g.E.Core.worker l.engine);
}
