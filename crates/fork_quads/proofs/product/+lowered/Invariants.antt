use Rattle.fork_quads.proofs.product.+lowered.Given as goal

abbrev pub decreases-lowered : goal.decreases-lowered
decreases-lowered l = l.q.height
