use Rattle.rel_model.specs.Views.{IsOf}
use Rattle.test_trees.proofs.table.pseudo_random_words_are_named_as_in_a_slow_list.Given as goal

-- the seat is of the table
abbrev pub invariant-each_round : goal.invariant-each_round
invariant-each_round g l = IsOf l.seat l.table
