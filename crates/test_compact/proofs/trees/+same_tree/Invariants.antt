use Rattle.test_compact.proofs.trees.+same_tree.Given as goal

abbrev pub decreases-same_tree : goal.decreases-same_tree
decreases-same_tree g l = l.depth
