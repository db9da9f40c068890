use Rattle.std.proofs.Common.{◌≡◌, length}
use Rattle.rv_compact.specs.Copies.{AreNamed}
use Rattle.rv_compact.proofs.copy.move_rels.Given as goal

-- the relations so far have the new names of their roots
abbrev pub invariant-rels : goal.invariant-rels
invariant-rels l = AreNamed l.fn.uses.keys l.fn.names l.fn.rels l.moved.items l.rel-index × (length l.moved.items ≡ l.rel-index)
