use Rattle.k2_read.proofs.leaf.+with_part.Given as goal

abbrev pub decreases-with_part : goal.decreases-with_part
decreases-with_part l = l.height
