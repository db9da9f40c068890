use Rattle.rel_choice.proofs.stepping.+steps_of.Given as goal

abbrev pub decreases-steps_of : goal.decreases-steps_of
decreases-steps_of g l = l.height
