use Rattle.rel_joins.specs.Starts.{Indexes}
use Rattle.rel_joins.proofs.index.index_of.Given as goal

-- the rows so far
abbrev pub invariant-pairs : goal.invariant-pairs
invariant-pairs l = Indexes l.k l.fn.pairs l.starts.items
