use Rattle.std.proofs.Common.{◌≤◌, length, take}
use Rattle.run_model.specs.Cost.{listed_count}
use Rattle.lang_model.specs.State.{lists}
use Rattle.rv_sessions.specs.Listed.{IsListed}
use Rattle.rel_model.specs.Listed.{AreWithin}
use Rattle.rv_sessions.proofs.listing.listed_pairs.Given as goal

abbrev pub invariant-rows : goal.invariant-rows
invariant-rows l = record {
  within : AreWithin l.shape.rows l.shape.cols l.pairs.items;
  pairs : IsListed l.shape.rows l.shape.cols l.pairs.items (lists (take l.row-index l.list));
  count : length l.pairs.items ≤ listed_count (take l.row-index l.list);
}
