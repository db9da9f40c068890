use Rattle.std.proofs.Common.{drop}
use Rattle.k2_parts.specs.Told.{quadrants_told, roots_told}
use Rattle.k2_parts.proofs.Visiting.{Over}
use Rattle.k2_parts.proofs.visits.first_out_of_order.Given as goal

-- what is noted over the roots so far, and the others are left
abbrev pub invariant-roots : goal.invariant-roots
invariant-roots l = Over (quadrants_told l.fn.quads) (roots_told l.fn.roots) l.noted (roots_told (drop l.root-index l.fn.roots))
