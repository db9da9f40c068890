use Rattle.std.proofs.Common.{◌≡◌}
use Rattle.rel_model.specs.Worker.{Stands, Keeps}
use Rattle.rel_plain.specs.Kept.{worker_of}
use Rattle.test_trees.proofs.plain.built.Given as goal

-- what is made so far stands, with the sizes
abbrev pub invariant-pairs : goal.invariant-pairs
invariant-pairs l = record {
  stands : Stands (worker_of l.core) l.all;
  row_size : l.all.rows ≡ l.shape.rows;
  col_size : l.all.cols ≡ l.shape.cols;
  keeps : Keeps (worker_of l.fn.core) (worker_of l.core);
}
