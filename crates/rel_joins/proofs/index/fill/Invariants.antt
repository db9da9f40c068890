use Rattle.std.proofs.Common.{◌-◌, ◌+◌, length}
use Rattle.rel_joins.specs.Starts.{Fills}
use Rattle.rel_joins.proofs.index.fill.Given as goal

-- what was appended so far
abbrev pub invariant-places : goal.invariant-places
invariant-places l = Fills l.fn.place l.fn.value l.fn.starts.items l.starts.items

abbrev pub decreases-places : goal.decreases-places
decreases-places l = l.fn.place + 1 - length l.starts.items
