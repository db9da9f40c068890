use Rattle.std.proofs.Common.{◌≡◌, ◌++◌, List, length}
use Rattle.std.specs.Prelude.{All}
use Rattle.std.specs.Str.{IsUtf8}
use Rattle.run_model.specs.Page.{SavedFile}
use Rattle.run_model.specs.Filed.{saved_all}
use Rattle.rv_ends.specs.Writing.{HasPut}
use Rattle.rv_ends.proofs.writing.put_files.Given as goal

abbrev pub invariant-saves : goal.invariant-saves
invariant-saves g l = record {
  made : List SavedFile;
  place : saved_all l.fn.saves ≡ made ++ saved_all l.rest;
  put : HasPut (g.S.Shelf.told l.fn.shelf).files (g.S.Shelf.told l.shelf).files made;
  kept : (g.S.Shelf.told l.shelf).put_faults ≡ (g.S.Shelf.told l.fn.shelf).put_faults;
  texts : All (λ save. IsUtf8 save.name) l.rest;
}

abbrev pub decreases-saves : goal.decreases-saves
decreases-saves g l = length l.rest
