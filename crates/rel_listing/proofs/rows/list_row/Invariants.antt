use Rattle.std.proofs.Common.{drop}
use Rattle.rel_listing.proofs.RowSteps.{Rowing}
use Rattle.rel_listing.proofs.rows.list_row.Given as goal

-- the leaves so far
abbrev pub invariant-leaves : goal.invariant-leaves
invariant-leaves l = Rowing l.fn.side l.fn.row l.fn.i l.fn.words (drop l.bits-index l.fn.words) l.fn.pairs.items l.pairs.items
