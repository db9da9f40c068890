use Rattle.std.proofs.Common.{◌≡◌, ◌++◌, take}
use Rattle.std.specs.List.{flat_map}
use Rattle.run_model.specs.Page.{pair_text}
use Rattle.rv_print.proofs.pairs.push_pairs.Given as goal

-- the lines of the pairs so far
abbrev pub invariant-pairs : goal.invariant-pairs
invariant-pairs l = l.out.items ≡ l.fn.out.items ++ flat_map pair_text (take l.pair-index l.fn.pairs)
