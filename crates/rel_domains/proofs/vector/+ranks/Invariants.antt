use Rattle.rel_domains.proofs.vector.+ranks.Given as goal

abbrev pub decreases-ranks : goal.decreases-ranks
decreases-ranks g l = l.depth
