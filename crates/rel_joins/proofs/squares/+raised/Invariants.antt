use Rattle.rel_joins.proofs.squares.+raised.Given as goal

abbrev pub decreases-raised : goal.decreases-raised
decreases-raised g l = l.height
