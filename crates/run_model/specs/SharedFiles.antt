-- Relation files, version 2: several named relations over one list of squares, in which no square occurs twice.
use Rattle.std.specs.Prelude.{◌≡◌, ◌==◌, ◌&&◌, ◌||◌, ◌+◌, ◌-◌, ◌*◌, ◌^◌, ◌<◌, ◌≤◌, not, nat_le, nat_lt, cond, zero, suc, ℕ, Bool, false, true, List, [], ◌∷◌, ◌++◌, length, map, take, drop, filter, codes, slice_get, slice_index, unwrap_or, Option, Some, None}
use Rattle.std.specs.List.{list_any, list_all, AllByRecursion}
use Rattle.std.specs.Int.{w32, from_be_bytes}
use Rattle.std.specs.Ordering.{is_lt}
use Rattle.run_model.specs.declared.outcome.BadFile.{BadFile}
use Rattle.run_model.specs.declared.outcome.BadFile.TheVariants.{Short, Magic, Sizes, Outside, Rest, Quad, Names as BAD_NAMES, Root, Order}
use Rattle.rel_model.specs.Relation.{Relation, IsRelation, relation_of, size_limit, size_height}
use Rattle.rel_model.specs.Cells.{Cells}
use Rattle.rel_model.specs.Trees.{quartered}
use Rattle.rel_model.specs.Roots.{lies_within}
use Rattle.lang_model.specs.Limits.{name_limit}
use Rattle.lang_model.specs.Missing.{first_of_both}
use Rattle.lang_model.specs.Tokens.{same_text, is_letter, is_word_byte}
use Rattle.run_model.specs.Names.{compare, Names, IsIncreasing}
use Rattle.run_model.specs.Files.{file_height, part, unless, found_at, first_of_all}
use Rattle.run_model.specs.SharedBytes.{visit, squares_of, shared_file}

-- ---- reading
-- whether bytes begin like those of a file of version 2
unfoldable pub begins_shared : List ℕ → Bool
begins_shared bytes = same_text (take 4 bytes) (codes "RVK2")

-- a listed square: the numbers of its quarters
pub record Quadrant : Type 0 where
  pub nw : ℕ
  pub ne : ℕ
  pub sw : ℕ
  pub se : ℕ

-- the number of four bytes at a place
abbrev pub number_at : List ℕ → ℕ → ℕ
number_at bytes at = from_be_bytes w32 (part bytes at 4)

-- how long the header is
abbrev pub shared_header : ℕ
shared_header = 12

-- how many bytes a listed square has
abbrev pub quadrant_length : ℕ
quadrant_length = 16

-- the first k listed squares in these bytes
abbrev pub quadrants_in : ℕ → List ℕ → List Quadrant
quadrants_in zero bytes = []
quadrants_in (suc k) bytes =
    record { nw = number_at bytes 0; ne = number_at bytes 4; sw = number_at bytes 8; se = number_at bytes 12 }
    ∷ quadrants_in k (drop quadrant_length bytes)

-- how many squares a file claims to list
abbrev pub quadrant_count : List ℕ → ℕ
quadrant_count bytes = number_at bytes 4

-- how many relations a file claims to have
abbrev pub entry_count : List ℕ → ℕ
entry_count bytes = number_at bytes 8

-- where the relations begin
abbrev pub entries_at : List ℕ → ℕ
entries_at bytes = shared_header + quadrant_length * quadrant_count bytes

-- the listed squares of a file
unfoldable pub quadrants_of : List ℕ → List Quadrant
quadrants_of bytes = quadrants_in (quadrant_count bytes) (drop shared_header bytes)

-- the four numbers of a listed square
abbrev pub numbers_of : Quadrant → List ℕ
numbers_of q = q.nw ∷ q.ne ∷ q.sw ∷ q.se ∷ []

-- both have the same four numbers
abbrev pub same_quadrant : Quadrant → Quadrant → Bool
same_quadrant a b = same_text (numbers_of a) (numbers_of b)

-- the height of a number, given those of the listed squares; number 1 has the height of a cell
abbrev pub height_at : List ℕ → ℕ → ℕ
height_at heights n = cond (nat_le n 1) 0 (slice_index heights (n - 2))

-- the numbers that are not 0
abbrev pub parts_of : Quadrant → List ℕ
parts_of q = filter (λ n. not (n == 0)) (numbers_of q)

-- 1 more than the height of the first of these numbers
abbrev pub height_over_parts : List ℕ → List ℕ → ℕ
height_over_parts heights [] = 1
height_over_parts heights (n ∷ ns) = height_at heights n + 1

-- the height of a listed square: 1 more than that of its numbers other than 0
abbrev pub height_of_quadrant : List ℕ → Quadrant → ℕ
height_of_quadrant heights q = height_over_parts heights (parts_of q)

-- the heights of listed squares, given those of earlier ones
abbrev pub heights_behind : List ℕ → List Quadrant → List ℕ
heights_behind heights [] = heights
heights_behind heights (q ∷ qs) = heights_behind (heights ++ height_of_quadrant heights q ∷ []) qs

-- whether all numbers are 0
abbrev pub no_parts : List ℕ → Bool
no_parts [] = true
no_parts (n ∷ ns) = false

-- whether square number n is invalid, given the earlier ones: all its numbers are 0, or one is not below its own, or
-- two other than 0 have different heights, or it is too high, or an earlier square has the same numbers
abbrev pub is_bad : ℕ → List Quadrant → List ℕ → Quadrant → Bool
is_bad n earlier heights q =
    no_parts (parts_of q)
    || (list_any (λ m. nat_le n m) (numbers_of q)
    || (list_any (λ m. not (height_at heights m + 1 == height_of_quadrant heights q)) (parts_of q)
    || (nat_lt size_height (height_of_quadrant heights q) || list_any (same_quadrant q) earlier)))

-- the number of the first invalid square, from number n on
abbrev pub first_bad : ℕ → List Quadrant → List ℕ → List Quadrant → Option ℕ
first_bad n earlier heights [] = None
first_bad n earlier heights (q ∷ qs) =
    cond (is_bad n earlier heights q) (Some n)
    (first_bad (n + 1) (earlier ++ q ∷ []) (heights ++ height_of_quadrant heights q ∷ []) qs)

-- a square without pairs
abbrev pub no_quadrant : Quadrant
no_quadrant = record { nw = 0; ne = 0; sw = 0; se = 0 }

-- the listed square of a number
abbrev pub quadrant_at : List Quadrant → ℕ → Quadrant
quadrant_at quads n = cond (nat_le n 1) no_quadrant (unwrap_or (slice_get quads (n - 2)) no_quadrant)

-- the cells of the square with this number, given its height: the one cell for number 1, and otherwise the cells of its
-- quarters
abbrev pub cells_told : List Quadrant → ℕ → ℕ → Cells
cells_told quads zero n = λ i j. (n == 1) && ((i == 0) && (j == 0))
cells_told quads (suc h) n =
    let q = quadrant_at quads n in
    quartered (2 ^ h) (cells_told quads h q.nw) (cells_told quads h q.ne) (cells_told quads h q.sw)
    (cells_told quads h q.se)

-- ---- named relations
-- a named relation as given in the bytes
pub record NamedRoot : Type 0 where
  pub name : List ℕ
  pub rows : ℕ
  pub cols : ℕ
  pub root : ℕ

-- the length of the name at the start of these bytes
abbrev pub name_length : List ℕ → ℕ
name_length bytes = slice_index bytes 0

-- the length of the named relation at the start of these bytes
abbrev pub entry_length : List ℕ → ℕ
entry_length bytes = 1 + name_length bytes + 12

-- the named relation at the start of these bytes
abbrev pub entry_in : List ℕ → NamedRoot
entry_in bytes =
    let l = name_length bytes in
    record {
      name = take l (drop 1 bytes);
      rows = number_at bytes (1 + l);
      cols = number_at bytes (1 + l + 4);
      root = number_at bytes (1 + l + 8);
    }

-- the first k named relations in these bytes
abbrev pub entries_in : ℕ → List ℕ → List NamedRoot
entries_in zero bytes = []
entries_in (suc k) bytes = entry_in bytes ∷ entries_in k (drop (entry_length bytes) bytes)

-- their length in bytes
abbrev pub entries_length : ℕ → List ℕ → ℕ
entries_length zero bytes = 0
entries_length (suc k) bytes = entry_length bytes + entries_length k (drop (entry_length bytes) bytes)

-- whether bytes are a letter followed by letters, digits and _
abbrev pub is_word : List ℕ → Bool
is_word [] = false
is_word (b ∷ bs) = is_letter b && (list_all is_word_byte bs && nat_le (length (b ∷ bs)) name_limit)

-- a name comes after the one before it, if there is one
abbrev pub is_behind : Option (List ℕ) → List ℕ → Bool
is_behind None name = true
is_behind (Some earlier) name = is_lt (compare earlier name)

-- whether a number is 0, or that of a listed square of this height
abbrev pub is_root : List Quadrant → List ℕ → ℕ → ℕ → Bool
is_root quads heights h n =
    (n == 0) || ((nat_le 2 n && nat_lt n (length quads + 2)) && (height_at heights n == h))

-- the first test failed by the named relation at the start of these bytes, at this place and after this name
unfoldable pub entry_fault : List Quadrant → List ℕ → ℕ → Option (List ℕ) → List ℕ → Option BadFile
entry_fault quads heights at earlier bytes =
    let l = name_length bytes in
    let e = entry_in bytes in
    let h = file_height e.rows e.cols in
    first_of_all (
    unless (nat_le 1 (length bytes)) Short
    ∷ unless (nat_le 1 l && nat_le l name_limit) (BAD_NAMES at)
    ∷ unless (nat_le (entry_length bytes) (length bytes)) Short
    ∷ unless (is_word e.name && is_behind earlier e.name) (BAD_NAMES at)
    ∷ unless (nat_le e.rows size_limit && nat_le e.cols size_limit) Sizes
    ∷ unless (is_root quads heights h e.root) (Root at)
    ∷ unless (lies_within (2 ^ h) e.rows e.cols (cells_told quads h e.root)) (Outside at)
    ∷ []
    )

-- the first test failed by k named relations from this place on
abbrev pub entries_fault : List Quadrant → List ℕ → ℕ → Option (List ℕ) → ℕ → List ℕ → Option BadFile
entries_fault quads heights at earlier zero bytes = None
entries_fault quads heights at earlier (suc k) bytes =
    first_of_both (entry_fault quads heights at earlier bytes)
    (entries_fault quads heights (at + 1) (Some (entry_in bytes).name) k (drop (entry_length bytes) bytes))

-- the named relations of a file
unfoldable pub entries_of : List ℕ → List NamedRoot
entries_of bytes = entries_in (entry_count bytes) (drop (entries_at bytes) bytes)

-- ---- the order of the squares
-- a number after the others, unless it is among them
abbrev pub with_number : ℕ → List ℕ → List ℕ
with_number n list = cond (list_any (λ m. m == n) list) list (list ++ n ∷ [])

-- a visit of the square with this number, given its height, like that of a square
abbrev pub visit_number : List Quadrant → ℕ → ℕ → List ℕ → List ℕ
visit_number quads zero n list = list
visit_number quads (suc h) n list =
    let q = quadrant_at quads n in
    cond (n == 0) list
    (with_number n
    (visit_number quads h q.se
    (visit_number quads h q.sw (visit_number quads h q.ne (visit_number quads h q.nw list)))))

-- the visits of named relations, in order
abbrev pub visit_roots : List Quadrant → List ℕ → List NamedRoot → List ℕ
visit_roots quads list [] = list
visit_roots quads list (e ∷ es) =
    visit_roots quads (visit_number quads (file_height e.rows e.cols) e.root list) es

-- whether a list begins with this number
abbrev pub begins_with : ℕ → List ℕ → Bool
begins_with n [] = false
begins_with n (m ∷ ms) = m == n

-- the first of k numbers from n on that is not at its place in the list
abbrev pub first_out : ℕ → ℕ → List ℕ → Option ℕ
first_out n zero list = None
first_out n (suc k) list = cond (begins_with n list) (first_out (n + 1) k (drop 1 list)) (Some n)

-- ---- the tests of a file
-- the first test that bytes fail to be a file of named relations
unfoldable pub shared_fault : List ℕ → Option BadFile
shared_fault bytes =
    let q = quadrant_count bytes in
    let k = entry_count bytes in
    let quads = quadrants_of bytes in
    let heights = heights_behind [] quads in
    let rest = drop (entries_at bytes) bytes in
    first_of_all (
    unless (begins_shared bytes) Magic
    ∷ unless (nat_le shared_header (length bytes)) Short
    ∷ unless (nat_le (entries_at bytes) (length bytes)) Short
    ∷ found_at Quad (first_bad 2 [] [] quads)
    ∷ entries_fault quads heights 0 None k rest
    ∷ found_at Order (first_out 2 q (visit_roots quads [] (entries_of bytes)))
    ∷ unless (length rest == entries_length k rest) Rest
    ∷ []
    )

-- a named relation, from the listed squares
abbrev pub relation_told : List Quadrant → NamedRoot → List ℕ × Relation
relation_told quads e = (e.name, relation_of e.rows e.cols (cells_told quads (file_height e.rows e.cols) e.root))

-- the named relations of a file
unfoldable pub shared_relations : List ℕ → List (List ℕ × Relation)
shared_relations bytes = map (relation_told (quadrants_of bytes)) (entries_of bytes)

-- the relation of a name in a list
abbrev pub relation_named : List ℕ → List (List ℕ × Relation) → Option Relation
relation_named name [] = None
relation_named name (entry ∷ entries) = cond (same_text entry.0 name) (Some entry.1) (relation_named name entries)

-- ---- laws
-- a relation that a file may hold: its sizes are within the limit
pub record IsFiled (entry : List ℕ × Relation) : Type 0 where
  pub word : is_word entry.0 ≡ true
  pub valid : IsRelation entry.1
  pub rows : entry.1.rows ≤ size_limit
  pub cols : entry.1.cols ≤ size_limit

-- A list has one file, and a file one list: bytes without a fault are those of their list; the bytes of a list of words
-- in order have no fault and are read back as it, provided that four bytes can count its squares and its relations.
pub record SharedFilesLaws : Type 0 where
  pub bytes_of_read : (bytes : List ℕ) → AllByRecursion (λ b. b < 256) bytes → shared_fault bytes ≡ None →
      shared_file (shared_relations bytes) ≡ bytes
  pub read_of_bytes : (list : Names Relation) → IsIncreasing list → AllByRecursion IsFiled list →
      length (squares_of list) + 1 < 2 ^ 32 → length list < 2 ^ 32 →
      (shared_fault (shared_file list) ≡ None) × (shared_relations (shared_file list) ≡ list)
