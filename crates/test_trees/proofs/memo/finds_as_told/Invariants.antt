use Rattle.rel_model.specs.Views.{IsOf}
use Rattle.test_trees.proofs.memo.finds_as_told.Given as goal

-- the seat is of the table
abbrev pub invariant-each_case : goal.invariant-each_case
invariant-each_case g l = IsOf l.seat l.table
