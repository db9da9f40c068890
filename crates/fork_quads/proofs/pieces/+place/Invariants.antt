use Rattle.fork_quads.proofs.pieces.+place.Given as goal

abbrev pub decreases-place : goal.decreases-place
decreases-place l = l.cuts
