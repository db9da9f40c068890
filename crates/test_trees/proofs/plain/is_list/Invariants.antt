use Rattle.rel_model.specs.Worker.{Stands, Keeps}
use Rattle.rel_plain.specs.Kept.{worker_of}
use Rattle.test_trees.proofs.plain.is_list.Given as goal

-- looking changes nothing
abbrev pub invariant-rows : goal.invariant-rows
invariant-rows l = record {
  standing : Stands (worker_of l.core) l.r;
  keeps : Keeps (worker_of l.fn.core) (worker_of l.core);
}
