use Rattle.row_quads.proofs.spill.+spill_quarters.Given as goal

abbrev pub decreases-spill_quarters : goal.decreases-spill_quarters
decreases-spill_quarters l = l.q.height
