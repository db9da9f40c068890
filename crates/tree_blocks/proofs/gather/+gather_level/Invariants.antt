use Rattle.tree_blocks.proofs.gather.+gather_level.Given as goal

abbrev pub decreases-gather_level : goal.decreases-gather_level
decreases-gather_level l = l.height
