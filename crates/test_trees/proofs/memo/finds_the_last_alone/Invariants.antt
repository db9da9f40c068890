use Rattle.rel_model.specs.Views.{IsOf}
use Rattle.test_trees.proofs.memo.finds_the_last_alone.Given as goal

-- the seat is of the table
abbrev pub invariant-each_height : goal.invariant-each_height
invariant-each_height g l = IsOf l.seat l.table

-- the seat is of the table
abbrev pub invariant-each_operator : goal.invariant-each_operator
invariant-each_operator g l = IsOf l.seat l.table
