use Rattle.rel_joins.proofs.sampling.+descent.Given as goal

abbrev pub decreases-descent : goal.decreases-descent
decreases-descent g l = l.quad.height
