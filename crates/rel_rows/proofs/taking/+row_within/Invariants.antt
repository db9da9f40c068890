use Rattle.rel_rows.proofs.taking.+row_within.Given as goal

abbrev pub decreases-row_within : goal.decreases-row_within
decreases-row_within g l = l.quad.height
