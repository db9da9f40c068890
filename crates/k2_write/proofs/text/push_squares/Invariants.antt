use Rattle.std.proofs.Common.{◌≡◌, ◌++◌, take}
use Rattle.std.specs.List.{flat_map}
use Rattle.k2_write.specs.Writing.{quarters_bytes}
use Rattle.k2_write.proofs.text.push_squares.Given as goal

-- the squares so far have their bytes
abbrev pub invariant-squares : goal.invariant-squares
invariant-squares l = l.out.items ≡ l.fn.out.items ++ flat_map quarters_bytes (take l.quarters-index l.fn.squares)
