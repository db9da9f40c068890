use Rattle.std.proofs.Common.{length, ◌≡◌, ◌-◌, ◌≤◌, ◌+◌}
use Rattle.std.specs.Io.KnownBytes.{Consumes}
use Rattle.rv_io.specs.Outside.{Leaves}
use Rattle.rv_io.proofs.reading.read_left.Given as goal

abbrev pub invariant-pieces : goal.invariant-pieces
invariant-pieces g l = record {
  consumed : Consumes (g.S.Shelf.told l.fn.shelf).rest (g.S.Shelf.told l.shelf).rest l.bytes.items;
  within : length l.bytes.items ≤ l.limit;
  faults : (g.S.Shelf.told l.shelf).faults ≡ (g.S.Shelf.told l.fn.shelf).faults;
  leaves : Leaves (g.S.Shelf.told l.fn.shelf) (g.S.Shelf.told l.shelf);
}

abbrev pub decreases-pieces : goal.decreases-pieces
decreases-pieces g l = (l.limit + 1) - length l.bytes.items
