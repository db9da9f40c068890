use Rattle.rel_values.proofs.sampling.+some_piece.Given as goal

abbrev pub decreases-some_piece : goal.decreases-some_piece
decreases-some_piece g l = l.quad.height
