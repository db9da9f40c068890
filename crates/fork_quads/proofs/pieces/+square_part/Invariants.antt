use Rattle.fork_quads.proofs.pieces.+square_part.Given as goal

abbrev pub decreases-square_part : goal.decreases-square_part
decreases-square_part l = l.cuts
