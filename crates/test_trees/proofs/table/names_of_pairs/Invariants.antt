use Rattle.rel_model.specs.Views.{IsOf, IsKnown}
use Rattle.test_trees.proofs.table.names_of_pairs.Given as goal

-- the seat is of the table, and knows the last name
abbrev pub invariant-each_pair : goal.invariant-each_pair
invariant-each_pair g l = IsOf l.seat l.table × IsKnown l.seat l.left
