use Rattle.fork_quads.proofs.plan.+name_below.Given as goal

abbrev pub decreases-name_below : goal.decreases-name_below
decreases-name_below l = l.depth
