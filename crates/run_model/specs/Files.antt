-- Relation files, version 1: a header, and the bits of the k²-tree with k = 2 (Brisaboa, Ladra and Navarro), each of
-- which says whether a submatrix of the relation has a pair. Header, padding, and that the empty relation has no bits,
-- are defined by this project.
use Rattle.std.specs.Prelude.{
  ◌≡◌,
  ◌==◌,
  ◌&&◌,
  ◌||◌,
  ◌+◌,
  ◌-◌,
  ◌*◌,
  ◌/◌,
  ◌^◌,
  ◌<◌,
  ◌≤◌,
  not,
  nat_le,
  nat_lt,
  max,
  cond,
  zero,
  suc,
  ℕ,
  Bool,
  false,
  true,
  List,
  [],
  ◌∷◌,
  ◌++◌,
  length,
  map,
  take,
  drop,
  filter,
  codes,
  slice_index,
  Option,
  Some,
  None,
}
use Rattle.std.specs.List.{list_any, flat_map, range_with_len, AllByRecursion}
use Rattle.std.specs.Int.{bit_at, w32, w64, to_be_bytes, from_be_bytes}
use Rattle.run_model.specs.declared.outcome.BadFile.{BadFile}
use Rattle.run_model.specs.declared.outcome.BadFile.TheVariants.{
  Short,
  Magic,
  Sizes,
  Height,
  Lengths,
  ZeroGroup,
  Outside,
  Padding,
  Rest,
}
use Rattle.rel_model.specs.Relation.{Relation, IsRelation, relation_of, size_limit}
use Rattle.rel_model.specs.Listed.{is_among}
use Rattle.lang_model.specs.Missing.{first_of_both}
use Rattle.lang_model.specs.Tokens.{same_text}
use Rattle.rel_model.specs.Worker.{height_of}

-- ---- submatrices
-- the first row and the first column of a submatrix
abbrev pub Corner : Type 0
Corner = ℕ × ℕ

-- the whole matrix
abbrev pub whole : List Corner
whole = (0, 0) ∷ []

-- its quarters of this side: north-west, north-east, south-west, south-east
abbrev pub quarters : ℕ → Corner → List Corner
quarters side p = p ∷ (p.0, p.1 + side) ∷ (p.0 + side, p.1) ∷ (p.0 + side, p.1 + side) ∷ []

-- whether a submatrix of this side has a pair of the relation
abbrev pub meets : Relation → ℕ → Corner → Bool
meets r side p =
    list_any (λ q. (nat_le p.0 q.0 && nat_lt q.0 (p.0 + side)) && (nat_le p.1 q.1 && nat_lt q.1 (p.1 + side))) r.pairs

-- the quarters, of this side, of the submatrices in a list, as far as they have a pair
abbrev pub quarters_met : Relation → ℕ → List Corner → List Corner
quarters_met r side ps = flat_map (quarters side) (filter (meets r (side + side)) ps)

-- ---- the bits
-- the least height, at least 1, whose square holds both sizes
unfoldable pub file_height : ℕ → ℕ → ℕ
file_height rows cols = max 1 (max (height_of rows) (height_of cols))

-- the bits of the levels above the cells, below submatrices of height k + 1
abbrev pub inner_bits : Relation → ℕ → List Corner → List Bool
inner_bits r zero ps = []
inner_bits r (suc k) ps =
    let qs = quarters_met r (2 ^ suc k) ps in map (meets r (2 ^ suc k)) qs ++ inner_bits r k qs

-- the bits of the cells below submatrices of height k + 1
abbrev pub cell_bits : Relation → ℕ → List Corner → List Bool
cell_bits r zero ps = map (meets r 1) (quarters_met r 1 ps)
cell_bits r (suc k) ps = cell_bits r k (quarters_met r (2 ^ suc k) ps)

-- the bits T, of all levels but the last
unfoldable pub tree_part : Relation → List Bool
tree_part r = inner_bits r (file_height r.rows r.cols - 1) whole

-- the bits L, of the last level
unfoldable pub cell_part : Relation → List Bool
cell_part r = cell_bits r (file_height r.rows r.cols - 1) whole

-- how many bits T and L have together
unfoldable pub bits_count : Relation → ℕ
bits_count r = length (tree_part r) + length (cell_part r)

-- ---- bytes
-- 1 for a bit that is set
abbrev pub number_of_bit : Bool → ℕ
number_of_bit b = cond b 1 0

-- bits as bytes, the first bit highest, after k bits with the value v that are in the byte already; the rest of the
-- last byte is 0
abbrev pub packed : ℕ → ℕ → List Bool → List ℕ
packed v k [] = cond (k == 0) [] (v * 2 ^ (8 - k) ∷ [])
packed v k (b ∷ bs) =
    let w = 2 * v + number_of_bit b in cond (k == 7) (w ∷ packed 0 0 bs) (packed w (k + 1) bs)

-- the bits of bytes, the highest of each first
abbrev pub unpacked : List ℕ → List Bool
unpacked = flat_map (λ byte. map (λ i. bit_at byte (7 - i) == 1) (range_with_len 0 8))

-- how many bytes hold this many bits
abbrev pub bytes_for : ℕ → ℕ
bytes_for bits = (bits + 7) / 8

-- the bytes of a relation file
unfoldable pub k2 : Relation → List ℕ
k2 r =
    codes "RVK1" ++ to_be_bytes w32 r.rows ++ to_be_bytes w32 r.cols ++ file_height r.rows r.cols ∷ []
    ++ to_be_bytes w64 (length (tree_part r)) ++ to_be_bytes w64 (length (cell_part r))
    ++ packed 0 0 (tree_part r) ++ packed 0 0 (cell_part r)

-- ---- reading
-- how long the header is
abbrev pub header_length : ℕ
header_length = 29

-- the fields of a file
pub record Fields : Type 0 where
  pub rows : ℕ
  pub cols : ℕ
  pub height : ℕ
  -- how many bits T and L have
  pub tree_count : ℕ
  pub cell_count : ℕ
  -- the bits of the bytes of T and of L, including the padding
  pub tree : List Bool
  pub cells : List Bool

-- this many bytes from a place on
abbrev pub part : List ℕ → ℕ → ℕ → List ℕ
part bytes at count = take count (drop at bytes)

-- the fields of a file, read from their places
unfoldable pub fields : List ℕ → Fields
fields bytes =
    let t = from_be_bytes w64 (part bytes 13 8) in
    let l = from_be_bytes w64 (part bytes 21 8) in
    record {
      rows = from_be_bytes w32 (part bytes 4 4);
      cols = from_be_bytes w32 (part bytes 8 4);
      height = slice_index bytes 12;
      tree_count = t;
      cell_count = l;
      tree = unpacked (part bytes header_length (bytes_for t));
      cells = unpacked (part bytes (header_length + bytes_for t) (bytes_for l));
    }

-- how many bits are set
abbrev pub ones : List Bool → ℕ
ones [] = 0
ones (b ∷ bs) = number_of_bit b + ones bs

-- whether there is no bit
abbrev pub no_bits : List Bool → Bool
no_bits [] = true
no_bits (b ∷ bs) = false

-- whether bits are those of this many levels above the cells, where the next level has g groups and the last level has
-- this many cells
abbrev pub levels_fit : ℕ → ℕ → List Bool → ℕ → Bool
levels_fit zero g bits cell_count = no_bits bits && (cell_count == 4 * g)
levels_fit (suc k) g bits cell_count =
    nat_le (4 * g) (length bits) && levels_fit k (ones (take (4 * g) bits)) (drop (4 * g) bits) cell_count

-- how many groups the first level has: none for the empty relation, and otherwise one
abbrev pub first_groups : Fields → ℕ
first_groups f = cond ((f.tree_count == 0) && (f.cell_count == 0)) 0 1

-- the number of the first bit of the first group of four without a set bit, counting from this number
abbrev pub zero_group : ℕ → List Bool → Option ℕ
zero_group at (a ∷ b ∷ c ∷ d ∷ bits) = cond (a || (b || (c || d))) (zero_group (at + 4) bits) (Some at)
zero_group at [] = None
zero_group at (a ∷ []) = None
zero_group at (a ∷ b ∷ []) = None
zero_group at (a ∷ b ∷ c ∷ []) = None

-- the submatrices in a list whose bits are set
abbrev pub chosen : List Corner → List Bool → List Corner
chosen (p ∷ ps) (b ∷ bits) = cond b (p ∷ chosen ps bits) (chosen ps bits)
chosen [] bits = []
chosen (p ∷ ps) [] = []

-- the cells whose bits the last level has, below submatrices of height k + 1
abbrev pub cells_below : ℕ → List Corner → List Bool → List Corner
cells_below zero ps bits = flat_map (quarters 1) ps
cells_below (suc k) ps bits =
    let qs = flat_map (quarters (2 ^ suc k)) ps in cells_below k (chosen qs bits) (drop (length qs) bits)

-- all cells whose bits the last level has
unfoldable pub cells_told : Fields → List Corner
cells_told f = cells_below (f.height - 1) (take (first_groups f) whole) (take f.tree_count f.tree)

-- the number of the first cell outside the sizes whose bit is set, counting from this number
abbrev pub cell_outside : ℕ → ℕ → ℕ → List Corner → List Bool → Option ℕ
cell_outside rows cols at (p ∷ ps) (b ∷ bits) =
    cond (b && not (nat_lt p.0 rows && nat_lt p.1 cols)) (Some at) (cell_outside rows cols (at + 1) ps bits)
cell_outside rows cols at [] bits = None
cell_outside rows cols at (p ∷ ps) [] = None

-- this fault if a test fails
abbrev pub unless : Bool → BadFile → Option BadFile
unless passes fault = cond passes None (Some fault)

-- this fault if a place is found
abbrev pub found_at : (ℕ → BadFile) → Option ℕ → Option BadFile
found_at fault None = None
found_at fault (Some at) = Some (fault at)

-- the first of several faults
abbrev pub first_of_all : List (Option BadFile) → Option BadFile
first_of_all [] = None
first_of_all (fault ∷ faults) = first_of_both fault (first_of_all faults)

-- the first test that bytes fail to be a relation file
unfoldable pub k2_fault : List ℕ → Option BadFile
k2_fault bytes =
    let f = fields bytes in
    let tree = take f.tree_count f.tree in
    let cells = take f.cell_count f.cells in
    let end = header_length + bytes_for f.tree_count + bytes_for f.cell_count in
    first_of_all (
    unless (nat_le header_length (length bytes)) Short
    ∷ unless (same_text (take 4 bytes) (codes "RVK1")) Magic
    ∷ unless (nat_le f.rows size_limit && nat_le f.cols size_limit) Sizes
    ∷ unless (f.height == file_height f.rows f.cols) Height
    ∷ unless (nat_le end (length bytes)) Short
    ∷ unless (levels_fit (f.height - 1) (first_groups f) tree f.cell_count) Lengths
    ∷ found_at ZeroGroup (zero_group 0 (tree ++ cells))
    ∷ found_at Outside (cell_outside f.rows f.cols f.tree_count (cells_told f) cells)
    ∷ unless ((ones (drop f.tree_count f.tree) == 0) && (ones (drop f.cell_count f.cells) == 0)) Padding
    ∷ unless (length bytes == end) Rest
    ∷ []
    )

-- the relation of the cells whose bits are set
unfoldable pub k2_relation : List ℕ → Relation
k2_relation bytes =
    let f = fields bytes in relation_of f.rows f.cols (is_among (chosen (cells_told f) (take f.cell_count f.cells)))

-- Laws: bytes without a fault are those of their relation; the bytes of a relation have no fault, and are read back as
-- it.
pub record FilesLaws : Type 0 where
  pub bytes_of_read : (bytes : List ℕ) → AllByRecursion (λ b. b < 256) bytes → k2_fault bytes ≡ None →
      k2 (k2_relation bytes) ≡ bytes
  pub read_of_bytes : (r : Relation) → IsRelation r → r.rows ≤ size_limit → r.cols ≤ size_limit →
      (k2_fault (k2 r) ≡ None) × (k2_relation (k2 r) ≡ r)
