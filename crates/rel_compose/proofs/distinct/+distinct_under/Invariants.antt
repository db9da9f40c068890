use Rattle.rel_compose.proofs.distinct.+distinct_under.Given as goal

abbrev pub decreases-distinct_under : goal.decreases-distinct_under
decreases-distinct_under l = l.q.height
