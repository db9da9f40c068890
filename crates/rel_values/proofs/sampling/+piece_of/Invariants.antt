use Rattle.rel_values.proofs.sampling.+piece_of.Given as goal

abbrev pub decreases-piece_of : goal.decreases-piece_of
decreases-piece_of g l = l.quad.height
