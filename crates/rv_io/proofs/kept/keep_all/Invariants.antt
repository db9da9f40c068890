use Rattle.std.proofs.Common.{◌≡◌, ◌++◌, ℕ, List, length}
use Rattle.rv_io.specs.Memory.{File, file_at}
use Rattle.rv_io.specs.Sure.{kept_at}
use Rattle.rv_io.proofs.kept.keep_all.Given as goal

abbrev pub invariant-files : goal.invariant-files
invariant-files l = record {
  done : List File;
  whole : l.files ≡ l.rest ++ done;
  found : (name : List ℕ) → kept_at l.kept.bytes.items l.kept.places.items name ≡ file_at done name;
}

abbrev pub decreases-files : goal.decreases-files
decreases-files l = length l.rest
