use Rattle.std.proofs.Common.{◌≡◌, ◌≤◌, ◌-◌, ◌+◌, length}
use Rattle.rel_joins.specs.Joins.{joined_limit}
use Rattle.rel_joins.specs.Reaches.{Closing}
use Rattle.rel_joins.proofs.reaching.note_reached.Given as goal

-- the row is begun, and the places so far are followed
abbrev pub invariant-places : goal.invariant-places
invariant-places l = (length l.places ≡ length l.fn.places) × (l.place ≤ length l.listed.items)
    × Closing (length l.fn.places) l.fn.pairs (l.fn.i + 1) l.place l.listed.items

abbrev pub decreases-places : goal.decreases-places
decreases-places l = joined_limit - l.place
