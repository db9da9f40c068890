use Rattle.std.proofs.Common.{drop}
use Rattle.rel_listing.proofs.Halves.{Halving}
use Rattle.rel_listing.proofs.halving.halve.Given as goal

-- the quads so far, and those that are left
abbrev pub invariant-quads : goal.invariant-quads
invariant-quads g l = Halving (g.Q.Core.worker l.fn.q) (g.Q.Core.worker l.q) l.fn.height l.fn.strip (drop l.quad-index l.fn.strip) l.upper.items l.lower.items
