use Rattle.std.proofs.Common.{◌≡◌, ◌++◌, List, length}
use Rattle.std.specs.Prelude.{All, IsTrue}
use Rattle.std.specs.String.{string_bytes}
use Rattle.rv_io.specs.Outside.{Leaves}
use Rattle.rv_words.specs.Uses.{Word}
use Rattle.rv_words.specs.Shown.{texts}
use Rattle.rv_ends.specs.Given.{GivesFiles, AreWithin}
use Rattle.rv_ends.proofs.given.read_each.Given as goal

abbrev pub invariant-names : goal.invariant-names
invariant-names g l = record {
  before : List Word;
  place : texts l.fn.names ≡ before ++ texts l.rest;
  gives : GivesFiles (g.S.Shelf.told l.fn.shelf).files before l.given;
  within : AreWithin (g.S.Shelf.told l.fn.shelf).files before;
  kept : (g.S.Shelf.told l.shelf).faults ≡ (g.S.Shelf.told l.fn.shelf).faults;
  leaves : Leaves (g.S.Shelf.told l.fn.shelf) (g.S.Shelf.told l.shelf);
  may_pick : All (λ name. IsTrue ((g.S.Shelf.told l.fn.shelf).may_pick (string_bytes name))) l.rest;
}

abbrev pub decreases-names : goal.decreases-names
decreases-names g l = length l.rest
