use Rattle.std.proofs.Common.{◌+◌}
use Rattle.rel_listing.specs.Lists.{Adds}
use Rattle.rel_listing.proofs.RowSteps.{left_of, leaf}
use Rattle.rel_listing.proofs.rows.list_bits.Given as goal

-- the columns so far
abbrev pub invariant-columns : goal.invariant-columns
invariant-columns l = Adds (left_of (l.fn.column + l.j) (leaf l.fn.row l.fn.i l.fn.column l.fn.side l.fn.bits)) l.fn.pairs.items l.pairs.items
