use Rattle.std.proofs.Common.{◌≡◌, ◌<◌, ◌+◌, ◌^◌, eqb, ℕ, take}
use Rattle.std.specs.Int.{bit_at}
use Rattle.rel_domains.specs.Curve.{holds}
use Rattle.rel_domains.proofs.leaf.leaf_word.Given as goal

abbrev pub invariant-places : goal.invariant-places
invariant-places l = ((k : ℕ) → eqb (bit_at l.bits k) 1 ≡ holds (take l.place-index l.fn.places) (l.fn.base + k)) × (l.bits < 2 ^ (4 ^ l.fn.least))
