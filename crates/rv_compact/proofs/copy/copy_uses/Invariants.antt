use Rattle.std.proofs.Common.{◌≡◌, ◌^◌, length}
use Rattle.rv_compact.specs.Copies.{AreCopies}
use Rattle.rv_compact.proofs.copy.copy_uses.Given as goal

-- the uses so far have their copies
abbrev pub invariant-uses : goal.invariant-uses
invariant-uses l = AreCopies l.fn.words l.fn.uses.keys l.nodes l.names.items × (length l.names.items ≡ l.key-index) × (length l.nodes ≡ 2 ^ l.fn.bits)
