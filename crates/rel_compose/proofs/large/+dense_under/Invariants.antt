use Rattle.rel_compose.proofs.large.+dense_under.Given as goal

abbrev pub decreases-dense_under : goal.decreases-dense_under
decreases-dense_under l = l.q.height
