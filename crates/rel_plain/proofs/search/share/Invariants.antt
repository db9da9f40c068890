use Rattle.std.proofs.Common.{◌≡◌, false, take}
use Rattle.std.specs.List.{list_any}
use Rattle.rel_model.proofs.Pairs.{member}
use Rattle.rel_plain.proofs.search.share.Given as goal

-- none so far is in the second
abbrev pub invariant-pairs : goal.invariant-pairs
invariant-pairs l = list_any (λ q. member q l.right) (take l.place l.left) ≡ false
