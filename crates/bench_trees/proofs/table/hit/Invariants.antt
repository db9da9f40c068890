use Rattle.rel_model.specs.Views.{IsOf}
use Rattle.bench_trees.proofs.table.hit.Given as goal

-- the seat is of the table
abbrev pub invariant-each : goal.invariant-each
invariant-each l = IsOf l.seat l.table
