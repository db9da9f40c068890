use Rattle.std.proofs.Common.{◌≡◌, ◌<◌, ◌+◌, ◌^◌, map, take}
use Rattle.std.specs.List.{AllByRecursion}
use Rattle.rel_domains.specs.Curve.{place}
use Rattle.rel_domains.proofs.curve.places_of.Given as goal

abbrev pub invariant-pairs : goal.invariant-pairs
invariant-pairs l = (l.places.items ≡ map (λ p. place l.fn.least l.fn.depth p.0 p.1) (take l.i-index l.fn.pairs)) × AllByRecursion (λ x. x < 4 ^ (l.fn.least + l.fn.depth)) l.places.items
