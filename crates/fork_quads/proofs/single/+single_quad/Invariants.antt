use Rattle.fork_quads.proofs.single.+single_quad.Given as goal

abbrev pub decreases-single_quad : goal.decreases-single_quad
decreases-single_quad l = l.height
