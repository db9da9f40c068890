use Rattle.std.proofs.Common.{◌≡◌}
use Rattle.std.specs.List.{range_with_len, flat_map}
use Rattle.rel_model.specs.Relation.{row_of}
use Rattle.rel_plain.proofs.grid.full_pairs.Given as goal

abbrev pub invariant-rows : goal.invariant-rows
invariant-rows l = l.out.items ≡ flat_map (row_of l.cols) (range_with_len 0 l.i)
