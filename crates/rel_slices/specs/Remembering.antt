-- Lines, pairs and transpositions that are remembered for the relations they belong to.
use Rattle.std.specs.Prelude.{◌≡◌, ◌≤◌, ◌+◌, ℕ, List, Option, None, Some, [], ◌∷◌, length, All, IfSome}
use Rattle.rel_model.specs.declared.Rel.{Rel}
use Rattle.rel_model.specs.Operators.{transpose}
use Rattle.rel_model.specs.Worker.{Worker, Stands, set_of, Gives}
use Rattle.rel_slices.specs.declared.thin.Thin.{Thin}
use Rattle.rel_slices.specs.declared.thin.Value.TheVariants.{Lines}
use Rattle.rel_slices.specs.declared.recall.Remembered.{Remembered}
use Rattle.rel_slices.specs.declared.recall.Entry.{Entry}
use Rattle.rel_slices.specs.declared.listings.Listing.{Listing}
use Rattle.rel_slices.specs.declared.listings.Listings.{Listings}
use Rattle.rel_slices.specs.declared.turnings.Turning.{Turning}
use Rattle.rel_slices.specs.declared.turnings.Turnings.{Turnings}
use Rattle.rel_slices.specs.Thin.{GivesValue}

-- long lines that mean relation r
pub record AreLinesOf (w : Worker) (r : Rel) (s : Thin) : Type 0 where
  pub gives : GivesValue w r.rows r.cols (set_of w r) (Lines s)
  pub long : 257 ≤ s.other

-- a relation that stands, and its lines
pub record IsTrue (w : Worker) (e : Entry) : Type 0 where
  pub stands : Stands w e.rel
  pub lines : AreLinesOf w e.rel e.lines

-- a relation that stands, and its pairs
pub record IsListed (w : Worker) (l : Listing) : Type 0 where
  pub stands : Stands w l.rel
  pub pairs : l.pairs.items ≡ (set_of w l.rel).pairs

-- pairs that are kept are those of relations that stand
abbrev pub AreListed : Worker → Listings → Type 0
AreListed w s = All (λ l. IfSome l (IsListed w)) s.kept

-- how many pairs are kept at a place
unfoldable pub pairs_at : Option Listing → ℕ
pairs_at None = 0
pairs_at (Some l) = length l.pairs.items

-- how many pairs are kept together
unfoldable pub pairs_kept : List (Option Listing) → ℕ
pairs_kept [] = 0
pairs_kept (o ∷ rest) = pairs_at o + pairs_kept rest

-- relation t is the transposition of relation r
abbrev pub IsTransposeOf : Worker → Rel → Rel → Type 0
IsTransposeOf w r t = Gives w r.cols r.rows (transpose (set_of w r)) t

-- a relation that stands, and its transposition
pub record IsTurned (w : Worker) (t : Turning) : Type 0 where
  pub stands : Stands w t.rel
  pub turned : IsTransposeOf w t.rel t.transposed

-- remembered transpositions are those of relations that stand
abbrev pub AreTransposed : Worker → Turnings → Type 0
AreTransposed w s = All (λ t. IfSome t (IsTurned w)) s.kept

-- everything that is remembered is true in a worker
pub record AllTrue (w : Worker) (m : Remembered) : Type 0 where
  pub lines : All (λ e. IfSome e (IsTrue w)) m.entries
  pub listings : AreListed w m.listings
  pub turnings : AreTransposed w m.turnings
