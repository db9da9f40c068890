use Rattle.rel_compose.proofs.sums.+add_to_squares.Given as goal

abbrev pub decreases-add_to_squares : goal.decreases-add_to_squares
decreases-add_to_squares l = l.a.height
