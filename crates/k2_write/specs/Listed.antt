-- What the visits of all relations of a file list.
use Rattle.std.specs.Prelude.{◌≡◌, ℕ, List, [], map, length}
use Rattle.std.specs.List.{flat_map, AllByRecursion}
use Rattle.rel_model.specs.Relation.{Relation}
use Rattle.rel_model.specs.Worker.{Worker}
use Rattle.run_model.specs.Files.{file_height}
use Rattle.run_model.specs.SharedBytes.{Square, visit_all, entry_bytes}
use Rattle.run_model.proofs.SharedSquares.{Known, AllBehind}
use Rattle.k2_write.specs.declared.listing.Listing.{Listing}
use Rattle.k2_write.specs.declared.visits.Visits.{Visits}
use Rattle.k2_write.specs.Visiting.{quarters_in, Lists}

-- the squares of named relations are listed by their quarters, with the bytes of these relations
pub record IsListing (named : List (List ℕ × Relation)) (listing : Listing) : Type 0 where
  pub behind : AllBehind (visit_all [] named)
  pub keys : listing.squares.keys ≡ map (quarters_in (visit_all [] named)) (visit_all [] named)
  pub relations : listing.relations.items ≡ flat_map (entry_bytes (visit_all [] named)) named

-- the square of a named relation needs no place, or is listed
abbrev pub IsKnown : List Square → List ℕ × Relation → Type 0
IsKnown squares entry = Known squares (length squares) (file_height entry.1.rows entry.1.cols) entry.1.pairs

-- the first named relations were visited, and these are their bytes
pub record AreListed (w : Worker) (least : ℕ) (named : List (List ℕ × Relation)) (visits : Visits)
    (bytes : List ℕ) : Type 0 where
  pub lists : Lists w least (visit_all [] named) visits
  pub known : AllByRecursion (IsKnown (visit_all [] named)) named
  pub relations : bytes ≡ flat_map (entry_bytes (visit_all [] named)) named
