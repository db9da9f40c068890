use Rattle.std.proofs.Common.{◌≡◌, map, take}
use Rattle.relview.proofs.between.rels_of.Given as goal

abbrev pub invariant-names : goal.invariant-names
invariant-names l = l.rels.items ≡ map (λ entry. entry.1) (take l.entry-index l.fn.live)
