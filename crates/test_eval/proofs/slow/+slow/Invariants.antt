use Rattle.test_eval.proofs.slow.+slow.Given as goal

abbrev pub decreases-called : goal.decreases-called
decreases-called g l = l.steps

abbrev pub decreases-came_to : goal.decreases-came_to
decreases-came_to g l = l.steps

abbrev pub decreases-complement_of : goal.decreases-complement_of
decreases-complement_of g l = l.steps

abbrev pub decreases-holds : goal.decreases-holds
decreases-holds g l = l.steps

abbrev pub decreases-run : goal.decreases-run
decreases-run g l = l.steps

abbrev pub decreases-run_all : goal.decreases-run_all
decreases-run_all g l = l.steps

abbrev pub decreases-run_if : goal.decreases-run_if
decreases-run_if g l = l.steps

abbrev pub decreases-run_set : goal.decreases-run_set
decreases-run_set g l = l.steps

abbrev pub decreases-run_while : goal.decreases-run_while
decreases-run_while g l = l.steps

abbrev pub decreases-turned : goal.decreases-turned
decreases-turned g l = l.steps

abbrev pub decreases-value_of : goal.decreases-value_of
decreases-value_of g l = l.steps

abbrev pub decreases-value_of_base : goal.decreases-value_of_base
decreases-value_of_base g l = l.steps

abbrev pub decreases-value_of_call : goal.decreases-value_of_call
decreases-value_of_call g l = l.steps

abbrev pub decreases-value_of_chain : goal.decreases-value_of_chain
decreases-value_of_chain g l = l.steps

abbrev pub decreases-value_of_pair : goal.decreases-value_of_pair
decreases-value_of_pair g l = l.steps

abbrev pub decreases-values_of : goal.decreases-values_of
decreases-values_of g l = l.steps
