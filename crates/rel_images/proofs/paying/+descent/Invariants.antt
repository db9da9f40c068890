use Rattle.rel_images.proofs.paying.+descent.Given as goal

abbrev pub decreases-descent : goal.decreases-descent
decreases-descent g l = l.quad.height
