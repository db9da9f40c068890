-- The tests of a file in the groups in which they are made, and what is known between them.
use Rattle.std.specs.Prelude.{◌≡◌, ◌==◌, ◌||◌, ◌+◌, ◌<◌, ◌≤◌, not, nat_le, nat_lt, cond, ℕ, Bool, true, false, List, [], ◌∷◌, ◌++◌, length, Option, Some, None}
use Rattle.std.specs.List.{list_any}
use Rattle.run_model.specs.declared.outcome.BadFile.{BadFile}
use Rattle.run_model.specs.declared.outcome.BadFile.TheVariants.{Short, Magic, Quad}
use Rattle.rel_model.specs.Relation.{size_height}
use Rattle.run_model.specs.Files.{unless, found_at, first_of_all}
use Rattle.run_model.specs.SharedFiles.{Quadrant, begins_shared, shared_header, entries_at, quadrant_count, entry_count, number_at, numbers_of, parts_of, no_parts, height_at, height_of_quadrant, heights_behind, is_bad, first_bad}
use Rattle.k2_parts.specs.declared.form.Quadrant.{Quadrant as LISTED}
use Rattle.k2_parts.specs.declared.header.Header.{Header}
use Rattle.k2_parts.specs.declared.quads.Listed.{Listed}
use Rattle.k2_parts.specs.declared.quads.Listing.{Listing}
use Rattle.k2_parts.specs.Told.{quadrant_told, quadrants_told}

-- ---- the header
-- the first test of the header that bytes fail
unfoldable pub header_fault : List ℕ → Option BadFile
header_fault bytes =
    first_of_all (
    unless (begins_shared bytes) Magic
    ∷ unless (nat_le shared_header (length bytes)) Short
    ∷ unless (nat_le (entries_at bytes) (length bytes)) Short
    ∷ []
    )

-- a header has the counts in the bytes, which pass its tests
pub record IsHeader (bytes : List ℕ) (h : Header) : Type 0 where
  pub quads_are : h.quads ≡ quadrant_count bytes
  pub roots_are : h.roots ≡ entry_count bytes
  pub long : entries_at bytes ≤ length bytes

-- ---- quadrants
-- the first number other than 0; 0 if there is none
abbrev pub first_part : Quadrant → ℕ
first_part q = cond (q.nw == 0) (cond (q.ne == 0) (cond (q.sw == 0) q.se q.sw) q.ne) q.nw

-- all numbers are below this one
pub record AreBelow (n : ℕ) (q : LISTED) : Type 0 where
  pub nw : q.nw < n
  pub ne : q.ne < n
  pub sw : q.sw < n
  pub se : q.se < n

-- whether the next quadrant is invalid given the heights of the earlier ones, whatever numbers these have
abbrev pub is_unsound : List ℕ → Quadrant → Bool
is_unsound heights q =
    no_parts (parts_of q)
    || (list_any (λ m. nat_le (length heights + 2) m) (numbers_of q)
    || (list_any (λ m. not (height_at heights m + 1 == height_of_quadrant heights q)) (parts_of q)
    || nat_lt size_height (height_of_quadrant heights q)))

-- the height of the next quadrant; none if it is invalid
unfoldable pub sound_height : List ℕ → Quadrant → Option ℕ
sound_height heights q = cond (is_unsound heights q) None (Some (height_of_quadrant heights q))

-- a quadrant has the four numbers at the start of these bytes
abbrev pub TellsFour : List ℕ → LISTED → Type 0
TellsFour bytes q =
    (q.nw ≡ number_at bytes 0) × (q.ne ≡ number_at bytes 4) × (q.sw ≡ number_at bytes 8) × (q.se ≡ number_at bytes 12)

-- each quadrant read so far has its height, and the set consists of those read so far
pub record IsListing (l : Listing) : Type 0 where
  pub as_many : length l.heights.items ≡ length l.quads.items
  pub same : l.known.keys ≡ l.quads.items

-- whether the next quadrant is invalid
abbrev pub is_bad_next : Listing → LISTED → Bool
is_bad_next l q =
    is_bad (length l.heights.items + 2) (quadrants_told l.quads.items) l.heights.items (quadrant_told q)

-- the next quadrant is valid, and was appended with its height
pub record IsBehind (old new : Listing) (q : LISTED) : Type 0 where
  pub good : is_bad_next old q ≡ false
  pub quads : new.quads.items ≡ old.quads.items ++ q ∷ []
  pub heights : new.heights.items ≡ old.heights.items ++ height_of_quadrant old.heights.items (quadrant_told q) ∷ []
  pub listing : IsListing new

-- whether a quadrant was added; if not, it is invalid
abbrev pub IsAdded : Listing → Listing → LISTED → Bool → Type 0
IsAdded old new q true = IsBehind old new q
IsAdded old new q false = is_bad_next old q ≡ true

-- the fault of the first invalid quadrant in a list
abbrev pub quads_fault : List Quadrant → Option BadFile
quads_fault quads = found_at Quad (first_bad 2 [] [] quads)

-- none of the listed quadrants is bad, and these are they, with their heights
pub record AreListed (quads : List Quadrant) (l : Listed) : Type 0 where
  pub told : quadrants_told l.quads.items ≡ quads
  pub heights : l.heights.items ≡ heights_behind [] quads
  pub none_bad : first_bad 2 [] [] quads ≡ None
