use Rattle.std.proofs.Common.{◌≡◌, length}
use Rattle.rel_joins.specs.Reaches.{Closing}
use Rattle.rel_joins.proofs.reaching.close_rows.Given as goal

-- the rows so far
abbrev pub invariant-rows : goal.invariant-rows
invariant-rows l = (length l.places.items ≡ l.fn.n) × Closing l.fn.n l.fn.pairs l.i (length l.listed.items) l.listed.items
