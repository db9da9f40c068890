use Rattle.bench_trees.proofs.compact.trees.+whole_tree.Given as goal

abbrev pub decreases-whole_tree : goal.decreases-whole_tree
decreases-whole_tree l = l.depth
