use Rattle.rel_model.specs.Trees.{bottom_height}
use Rattle.tree_blocks.specs.Order.{square_cells}
use Rattle.tree_blocks.proofs.Naming.{AreGathered}
use Rattle.tree_blocks.proofs.gather.name_blocks.Given as goal

abbrev pub invariant-blocks-2 : goal.invariant-blocks-2
invariant-blocks-2 l = AreGathered 1 l.fn.nodes l.nodes bottom_height (square_cells 0 l.blocks) l.fn.names l.names l.count l.place
