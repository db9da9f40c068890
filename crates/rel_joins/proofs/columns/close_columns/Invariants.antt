use Rattle.rel_joins.proofs.Uniting.{Uniting}
use Rattle.rel_joins.proofs.columns.close_columns.Given as goal

-- the rows so far
abbrev pub invariant-elements : goal.invariant-elements
invariant-elements l = Uniting l.fn.n l.fn.pairs l.fn.order l.x-index l.fn.col l.fn.rows l.rows
