use Rattle.std.proofs.Common.{◌+◌, drop}
use Rattle.rel_listing.proofs.Halves.{Reading}
use Rattle.rel_listing.proofs.halving.read_strip.Given as goal

-- the quads that are left
abbrev pub invariant-quads : goal.invariant-quads
invariant-quads g l = Reading (g.Q.Core.worker l.fn.q) (g.Q.Core.worker l.q) (l.fn.height + 1) (drop l.quad-index l.fn.strip)
