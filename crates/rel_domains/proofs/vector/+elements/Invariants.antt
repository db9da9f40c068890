use Rattle.rel_domains.proofs.vector.+elements.Given as goal

abbrev pub decreases-elements : goal.decreases-elements
decreases-elements g l = l.vector.height
