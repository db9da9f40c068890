use Rattle.std.proofs.Common.{◌≡◌, eqb, take, length}
use Rattle.std.specs.List.{list_any}
use Rattle.rel_joins.specs.Reaches.{Adds}
use Rattle.rel_joins.proofs.reaching.note_row.Given as goal

-- the pairs of the row so far
abbrev pub invariant-pairs : goal.invariant-pairs
invariant-pairs l = (length l.places ≡ length l.fn.places)
    × Adds l.fn.i (λ y. list_any (λ q. eqb q.1 y) (take l.k-index l.fn.row)) l.fn.listed.items l.listed.items
