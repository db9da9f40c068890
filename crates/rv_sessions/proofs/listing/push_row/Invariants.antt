use Rattle.std.proofs.Common.{◌&&◌, ◌+◌, ◌≤◌, eqb, length, take}
use Rattle.std.specs.List.{list_any}
use Rattle.rv_sessions.specs.Listed.{Extends}
use Rattle.rel_model.specs.Listed.{AreWithin}
use Rattle.rv_sessions.proofs.listing.push_row.Given as goal

abbrev pub invariant-columns : goal.invariant-columns
invariant-columns l = record {
  within : AreWithin l.shape.rows l.shape.cols l.pairs.items;
  pairs : Extends l.shape.rows l.shape.cols l.fn.pairs.items l.pairs.items (λ i j. eqb l.row.row (i + 1) && list_any (λ c. eqb c.col (j + 1)) (take l.column-index l.column-items));
  count : length l.pairs.items ≤ length l.fn.pairs.items + l.column-index;
}
