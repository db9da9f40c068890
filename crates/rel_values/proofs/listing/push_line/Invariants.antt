use Rattle.std.proofs.Common.{◌≡◌, ◌++◌, take}
use Rattle.rel_values.proofs.LineLists.{numbered}
use Rattle.rel_values.proofs.listing.push_line.Given as goal

-- the places so far
abbrev pub invariant-places : goal.invariant-places
invariant-places l = l.pairs.items ≡ l.fn.pairs.items ++ numbered l.fn.line (take l.place-index l.fn.places)
