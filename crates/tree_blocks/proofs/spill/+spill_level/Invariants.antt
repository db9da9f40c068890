use Rattle.tree_blocks.proofs.spill.+spill_level.Given as goal

abbrev pub decreases-spill_level : goal.decreases-spill_level
decreases-spill_level l = l.height
