use Rattle.rel_closure.proofs.rows.+gather.Given as goal

abbrev pub decreases-gather : goal.decreases-gather
decreases-gather g l = l.height
