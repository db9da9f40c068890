use Rattle.rel_images.proofs.naming.+named.Given as goal

abbrev pub decreases-named : goal.decreases-named
decreases-named g l = l.height
