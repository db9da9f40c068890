use Rattle.rel_images.proofs.naming.+named_within.Given as goal

abbrev pub decreases-named_within : goal.decreases-named_within
decreases-named_within g l = l.height
