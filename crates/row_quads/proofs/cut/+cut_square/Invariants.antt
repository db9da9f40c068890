use Rattle.row_quads.proofs.cut.+cut_square.Given as goal

abbrev pub decreases-cut_square : goal.decreases-cut_square
decreases-cut_square l = l.height
