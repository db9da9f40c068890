use Rattle.k2_parts.proofs.visits.+visit.Given as goal

-- each quarter has a lower number
abbrev pub decreases-visit : goal.decreases-visit
decreases-visit l = l.number
