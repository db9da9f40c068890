use Rattle.rel_domains.proofs.square.+square.Given as goal

abbrev pub decreases-square : goal.decreases-square
decreases-square g l = l.depth
