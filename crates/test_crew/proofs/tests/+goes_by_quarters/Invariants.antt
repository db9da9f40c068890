use Rattle.test_crew.proofs.tests.+goes_by_quarters.Given as goal

abbrev pub decreases-goes_by_quarters : goal.decreases-goes_by_quarters
decreases-goes_by_quarters g l = l.q.height
