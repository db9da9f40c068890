use Rattle.std.proofs.Common.{◌≡◌, ◌+◌, ◌++◌, length}
use Rattle.std.specs.Vec.Iter.{into_iter_items}
use Rattle.k2_parts.specs.Told.{quadrants_told}
use Rattle.k2_read.proofs.Lists.{SoFar}
use Rattle.k2_read.proofs.root.built_all.Given as goal

abbrev pub invariant-roots : goal.invariant-roots
invariant-roots g l =
    (goal.iterator-roots g).can_next l.root-iterator × (goal.iterator-roots g).is_finite l.root-iterator
    × (l.fn.roots.items ≡ l.yielded ++ into_iter_items l.root-iterator) × (length l.noted ≡ length l.quads + 2)
    × SoFar g.E.Core.least (quadrants_told l.quads) l.noted l.yielded l.list.items (g.E.Core.worker l.initial.engine) (g.E.Core.worker l.engine)
