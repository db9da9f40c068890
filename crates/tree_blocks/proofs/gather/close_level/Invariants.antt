use Rattle.std.proofs.Common.{◌+◌}
use Rattle.tree_blocks.specs.Levels.{corner_cells}
use Rattle.tree_blocks.proofs.Naming.{AreGathered}
use Rattle.tree_blocks.proofs.gather.close_level.Given as goal

abbrev pub invariant-names : goal.invariant-names
invariant-names l = AreGathered 3 l.fn.nodes l.nodes (l.height + 1) (corner_cells l.fn.nodes l.height l.fn.names) l.fn.names l.names l.count l.place
