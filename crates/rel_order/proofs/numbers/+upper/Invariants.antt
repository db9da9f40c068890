use Rattle.rel_order.proofs.numbers.+upper.Given as goal

abbrev pub decreases-upper : goal.decreases-upper
decreases-upper g l = l.depth
