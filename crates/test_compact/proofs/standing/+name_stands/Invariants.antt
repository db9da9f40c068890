use Rattle.test_compact.proofs.standing.+name_stands.Given as goal

abbrev pub decreases-name_stands : goal.decreases-name_stands
decreases-name_stands l = l.depth
