-- The tests of a named relation in the groups in which they are made, and what is known of the ones read so far.
use Rattle.std.specs.Prelude.{◌≡◌, ◌==◌, ◌&&◌, ◌-◌, ◌^◌, ◌≤◌, nat_le, ℕ, true, List, [], ◌∷◌, length, slice_get, option_map, Option, None}
use Rattle.run_model.specs.declared.outcome.BadFile.{BadFile}
use Rattle.run_model.specs.declared.outcome.BadFile.TheVariants.{Short, Sizes, Outside, Rest, Names as BAD_NAMES, Root, Order}
use Rattle.lang_model.specs.Limits.{name_limit}
use Rattle.rel_model.specs.Relation.{size_limit}
use Rattle.rel_model.specs.Roots.{lies_within}
use Rattle.run_model.specs.Files.{file_height, unless, found_at, first_of_all}
use Rattle.run_model.specs.SharedFiles.{Quadrant, name_length, entry_length, entry_in, entries_in, entries_length, is_word, is_behind, is_root, cells_told, entry_fault, entries_fault, visit_roots, first_out}
use Rattle.k2_parts.specs.declared.form.NamedRoot.{NamedRoot as NAMED}
use Rattle.k2_parts.specs.declared.roots.Roots.{Roots}
use Rattle.k2_parts.specs.declared.squares.Squares.{Squares}
use Rattle.k2_parts.specs.Told.{quadrants_told, root_told, roots_told, AreSound}
use Rattle.k2_parts.specs.Extents.{AreExtents}
use Rattle.k2_parts.specs.Visits.{AreRooted}

-- none of the listed quadrants is bad, and these are their heights and extents
pub record AreSquares (s : Squares) : Type 0 where
  pub sound : AreSound s.quads.now s.heights.now
  pub reached : AreExtents (quadrants_told s.quads.now) s.heights.now s.extents.now

-- the first test that a root fails, given the sizes of its relation and the relation's place
unfoldable pub root_fault : List Quadrant → List ℕ → ℕ → ℕ → ℕ → ℕ → Option BadFile
root_fault quads heights at rows cols root =
    let h = file_height rows cols in
    first_of_all (
    unless (nat_le rows size_limit && nat_le cols size_limit) Sizes
    ∷ unless (is_root quads heights h root) (Root at)
    ∷ unless (lies_within (2 ^ h) rows cols (cells_told quads h root)) (Outside at)
    ∷ []
    )

-- the first test failed by the name at the start of these bytes, given its place and the name before it
unfoldable pub name_fault : ℕ → Option (List ℕ) → List ℕ → Option BadFile
name_fault at earlier bytes =
    let l = name_length bytes in
    let e = entry_in bytes in
    first_of_all (
    unless (nat_le 1 (length bytes)) Short
    ∷ unless (nat_le 1 l && nat_le l name_limit) (BAD_NAMES at)
    ∷ unless (nat_le (entry_length bytes) (length bytes)) Short
    ∷ unless (is_word e.name && is_behind earlier e.name) (BAD_NAMES at)
    ∷ []
    )

-- the name of the last relation, if there is one
abbrev pub last_name : List NAMED → Option (List ℕ)
last_name roots = option_map (λ r. r.name) (slice_get roots (length roots - 1))

-- the name at the start of these bytes
pub record IsName (bytes name : List ℕ) : Type 0 where
  pub told : name ≡ (entry_in bytes).name
  pub count : length name ≡ name_length bytes
  pub some : 1 ≤ length name
  pub limit : length name ≤ name_limit
  pub long : entry_length bytes ≤ length bytes

-- the named root at the start of these bytes, which passes its tests given the earlier ones
pub record IsRootOf (s : Squares) (roots : List NAMED) (bytes : List ℕ) (r : NAMED) : Type 0 where
  pub told : root_told r ≡ entry_in bytes
  pub passes : entry_fault (quadrants_told s.quads.now) s.heights.now (length roots) (last_name roots) bytes ≡ None
  pub rooted : is_root (quadrants_told s.quads.now) s.heights.now (file_height r.rows r.cols) r.root ≡ true
  pub count : length r.name ≡ name_length bytes
  pub long : entry_length bytes ≤ length bytes

-- the first named roots of these bytes, which pass their tests
pub record AreRoots (s : Squares) (count : ℕ) (bytes : List ℕ) (r : Roots) : Type 0 where
  pub told : roots_told r.roots.items ≡ entries_in count bytes
  pub passes : entries_fault (quadrants_told s.quads.now) s.heights.now 0 None count bytes ≡ None
  pub ends : r.end ≡ entries_length count bytes
  pub rooted : AreRooted (quadrants_told s.quads.now) (roots_told r.roots.items)

-- the first test failed by the bytes after the listed quadrants
unfoldable pub rest_fault : List Quadrant → List ℕ → ℕ → List ℕ → Option BadFile
rest_fault quads heights count bytes =
    first_of_all (
    entries_fault quads heights 0 None count bytes
    ∷ found_at Order (first_out 2 (length quads) (visit_roots quads [] (entries_in count bytes)))
    ∷ unless (length bytes == entries_length count bytes) Rest
    ∷ []
    )

-- the bytes after the listed quadrants pass their tests, and have these named roots
pub record IsRest (quads : List Quadrant) (heights : List ℕ) (count : ℕ) (bytes : List ℕ) (roots : List NAMED)
    : Type 0 where
  pub told : roots_told roots ≡ entries_in count bytes
  pub passes : rest_fault quads heights count bytes ≡ None
