use Rattle.rel_model.specs.Views.{IsOf}
use Rattle.test_trees.proofs.table.names_of_blocks.Given as goal

-- the seat is of the table
abbrev pub invariant-each_block : goal.invariant-each_block
invariant-each_block g l = IsOf l.seat l.table
