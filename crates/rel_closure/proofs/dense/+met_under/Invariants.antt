use Rattle.rel_closure.proofs.dense.+met_under.Given as goal

abbrev pub decreases-met_under : goal.decreases-met_under
decreases-met_under g l = l.q.height
