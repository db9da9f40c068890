use Rattle.rel_domains.proofs.curve.+place_of.Given as goal

abbrev pub decreases-place_of : goal.decreases-place_of
decreases-place_of l = l.depth
