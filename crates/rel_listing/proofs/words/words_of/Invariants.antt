use Rattle.std.proofs.Common.{drop}
use Rattle.rel_listing.proofs.Halves.{Wording}
use Rattle.rel_listing.proofs.words.words_of.Given as goal

-- the words so far, and the leaves that are left
abbrev pub invariant-quads : goal.invariant-quads
invariant-quads g l = Wording (g.Q.Core.worker l.fn.q) (g.Q.Core.worker l.q) g.Q.Core.least l.fn.strip (drop l.quad-index l.fn.strip) l.words.items
