use Rattle.bench_trees.proofs.squares.+making.Given as goal

abbrev pub decreases-quad_of : goal.decreases-quad_of
decreases-quad_of l = l.height
