use Rattle.rel_closure.proofs.rows.+spill.Given as goal

abbrev pub decreases-spill : goal.decreases-spill
decreases-spill g l = l.q.height
