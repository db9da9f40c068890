use Rattle.std.proofs.Common.{◌+◌}
use Rattle.k2_parts.specs.Told.{quadrants_told}
use Rattle.k2_parts.specs.Extents.{AreExtentsUpto}
use Rattle.k2_parts.proofs.extents.extents_of.Given as goal

-- the extents of 0, of 1 and of the quadrants so far
abbrev pub invariant-quads : goal.invariant-quads
invariant-quads l = AreExtentsUpto (quadrants_told l.fn.quads) l.fn.heights l.extents.items (l.at + 2)
