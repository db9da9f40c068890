use Rattle.std.proofs.Common.{◌≡◌, take}
use Rattle.std.specs.Mem.Slots.{slots_items}
use Rattle.pair_table.proofs.table.copied.Given as goal

abbrev pub invariant-words : goal.invariant-words
invariant-words l = l.words.items ≡ take l.i (slots_items l.closed.words)
