use Rattle.test_trees.proofs.derived.each_composition_of_a_closure_is_counted.Given as goal

abbrev pub ghosts-counted : goal.ghosts-counted
ghosts-counted g a = record { name = a.blank.name; parts = a.blank.parts }
