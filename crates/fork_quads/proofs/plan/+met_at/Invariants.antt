use Rattle.fork_quads.proofs.plan.+met_at.Given as goal

abbrev pub decreases-met_at : goal.decreases-met_at
decreases-met_at l = l.left
