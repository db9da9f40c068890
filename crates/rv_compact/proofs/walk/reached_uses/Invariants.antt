use Rattle.rv_compact.specs.Walks.{WalkedSome}
use Rattle.rv_compact.proofs.walk.reached_uses.Given as goal

-- the list has the uses of the relations so far
abbrev pub invariant-rels : goal.invariant-rels
invariant-rels l = WalkedSome l.fn.words l.fn.rels l.rel-index l.found.keys
