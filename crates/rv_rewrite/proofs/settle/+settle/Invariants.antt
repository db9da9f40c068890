use Rattle.std.proofs.Common.{◌+◌, ◌*◌}
use Rattle.lang_model.specs.Trees.{tree_of}
use Rattle.lang_model.specs.Rewriting.{weight}
use Rattle.rv_rewrite.proofs.settle.+settle.Given as goal

abbrev pub decreases-settle : goal.decreases-settle
decreases-settle l = 2 * weight (tree_of l.node)

abbrev pub decreases-settle_operand : goal.decreases-settle_operand
decreases-settle_operand l = 2 * weight (tree_of l.node) + 1
