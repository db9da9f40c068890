-- What the parts of a file describe: its bits as a list, its header, and the tests in the groups in which they are
-- made.
use Rattle.std.specs.Prelude.{◌≡◌, ◌==◌, ◌&&◌, ◌||◌, ◌+◌, ◌-◌, ◌≤◌, ◌++◌, nat_le, cond, ℕ, Bool, false, List, [], ◌∷◌, length, take, drop, codes, Option, Some}
use Rattle.std.specs.List.{AllByRecursion, slice_index_or}
use Rattle.run_model.specs.declared.outcome.BadFile.{BadFile}
use Rattle.run_model.specs.declared.outcome.BadFile.TheVariants.{Short, Magic, Sizes, Height, Lengths, ZeroGroup, Outside, Padding, Rest, Full, NoMemory}
use Rattle.run_model.specs.declared.outcome.BadFile.TheVariants.{Quad, Names as BAD_NAMES, Root, Order, Missing}
use Rattle.lang_model.specs.Tokens.{same_text}
use Rattle.rel_model.specs.Relation.{size_limit, size_height}
use Rattle.run_model.specs.Files.{Corner, unpacked, bytes_for, header_length, fields, file_height, levels_fit, zero_group, whole, cells_below, cells_told, cell_outside, chosen, ones, unless, found_at, first_of_all}
use Rattle.k2_file.specs.declared.bits.Bits.{Bits}
use Rattle.k2_file.specs.declared.header.Header.{Header}

-- the first bits of some bytes
unfoldable pub bits_told : ℕ → List ℕ → List Bool
bits_told count bytes = take count (unpacked bytes)

-- the bits in these bytes
abbrev pub bits_in : Bits → List Bool
bits_in bits = bits_told bits.count bits.bytes.now

-- the bits of T followed by those of L
abbrev pub both_in : Bits → Bits → List Bool
both_in tree cells = bits_in tree ++ bits_in cells

-- submatrices of this side lie in the greatest square
abbrev pub AreInside : ℕ → List Corner → Type 0
AreInside side = AllByRecursion (λ p. (p.0 + side ≤ size_limit) × (p.1 + side ≤ size_limit))

-- how many groups the first level has, by the counts of bits: none for the empty relation, and otherwise one
abbrev pub groups_of : ℕ → ℕ → ℕ
groups_of tree_count cell_count = cond ((tree_count == 0) && (cell_count == 0)) 0 1

-- whether a bit is set in the group of four that begins at a place
abbrev pub group_is_set : List Bool → ℕ → Bool
group_is_set bits at =
    slice_index_or bits at false
    || (slice_index_or bits (at + 1) false || (slice_index_or bits (at + 2) false
    || slice_index_or bits (at + 3) false))

-- a header has the numbers of the fields
pub record AreFields (bytes : List ℕ) (h : Header) : Type 0 where
  pub rows_are : h.rows ≡ (fields bytes).rows
  pub cols_are : h.cols ≡ (fields bytes).cols
  pub height_is : h.height ≡ (fields bytes).height
  pub tree_is : h.tree_count ≡ (fields bytes).tree_count
  pub cells_are : h.cell_count ≡ (fields bytes).cell_count

-- a header has the numbers of the fields, and the bytes pass its tests
pub record IsHeader (bytes : List ℕ) (h : Header) : Type 0 where
  pub numbers : AreFields bytes h
  pub row_limit : h.rows ≤ size_limit
  pub col_limit : h.cols ≤ size_limit
  pub least : 1 ≤ h.height
  pub top : h.height ≤ size_height
  pub is_height : h.height ≡ file_height h.rows h.cols
  pub long : header_length + bytes_for h.tree_count + bytes_for h.cell_count ≤ length bytes

-- where the parts end
abbrev pub end_of : List ℕ → ℕ
end_of bytes = let f = fields bytes in header_length + bytes_for f.tree_count + bytes_for f.cell_count

-- the first test of the header that bytes fail
unfoldable pub header_fault : List ℕ → Option BadFile
header_fault bytes =
    let f = fields bytes in
    first_of_all (
    unless (nat_le header_length (length bytes)) Short
    ∷ unless (same_text (take 4 bytes) (codes "RVK1")) Magic
    ∷ unless (nat_le f.rows size_limit && nat_le f.cols size_limit) Sizes
    ∷ unless (f.height == file_height f.rows f.cols) Height
    ∷ unless (nat_le (end_of bytes) (length bytes)) Short
    ∷ []
    )

-- the cells whose bits the last level has, from the header and the bits T
abbrev pub told_by : Header → List Bool → List Corner
told_by h tree = cells_below (h.height - 1) (take (groups_of h.tree_count h.cell_count) whole) tree

-- the first test of the tree that bits fail
abbrev pub fault_of_levels : ℕ → ℕ → List Bool → List Bool → ℕ → Option BadFile
fault_of_levels height groups tree cells cell_count =
    first_of_all (
    unless (levels_fit (height - 1) groups tree cell_count) Lengths
    ∷ found_at ZeroGroup (zero_group 0 (tree ++ cells))
    ∷ []
    )

-- whether the bits T are those of the header's levels
abbrev pub fit_by : Header → Bits → Bool
fit_by h tree = levels_fit (h.height - 1) (groups_of h.tree_count h.cell_count) (bits_in tree) h.cell_count

-- the first test of the tree that the bits fail, given the header
abbrev pub levels_by : Header → Bits → Bits → Option BadFile
levels_by h tree cells = fault_of_levels h.height (groups_of h.tree_count h.cell_count) (bits_in tree) (bits_in cells)
    h.cell_count

-- the cells whose bits the last level has, from the header and the bits T
abbrev pub cells_by : Header → Bits → List Corner
cells_by h tree = told_by h (bits_in tree)

-- the first of these cells outside the sizes whose bit is set
abbrev pub outside_by : Header → Bits → Bits → Option ℕ
outside_by h tree cells = cell_outside h.rows h.cols h.tree_count (cells_by h tree) (bits_in cells)

-- the first of the final tests that bytes fail
unfoldable pub end_fault : List ℕ → Option BadFile
end_fault bytes =
    let f = fields bytes in
    first_of_all (
    unless ((ones (drop f.tree_count f.tree) == 0) && (ones (drop f.cell_count f.cells) == 0)) Padding
    ∷ unless (length bytes == end_of bytes) Rest
    ∷ []
    )

-- the cells whose bits are set
unfoldable pub pairs_told : List ℕ → List Corner
pairs_told bytes = let f = fields bytes in chosen (cells_told f) (take f.cell_count f.cells)

-- the first cell outside the sizes
unfoldable pub outside_fault : List ℕ → Option BadFile
outside_fault bytes =
    let f = fields bytes in
    found_at Outside (cell_outside f.rows f.cols f.tree_count (cells_told f) (take f.cell_count f.cells))

-- either this is the fault that is found, or memory ran out
abbrev pub IsFaultOf : Option BadFile → BadFile → Type 0
IsFaultOf found NoMemory = Unit {0}
IsFaultOf found Full = ⊥
IsFaultOf found Short = found ≡ Some Short
IsFaultOf found Magic = found ≡ Some Magic
IsFaultOf found Sizes = found ≡ Some Sizes
IsFaultOf found Height = found ≡ Some Height
IsFaultOf found Lengths = found ≡ Some Lengths
IsFaultOf found (ZeroGroup at) = found ≡ Some (ZeroGroup at)
IsFaultOf found (Outside at) = found ≡ Some (Outside at)
IsFaultOf found Padding = found ≡ Some Padding
IsFaultOf found Rest = found ≡ Some Rest
IsFaultOf found (Quad at) = found ≡ Some (Quad at)
IsFaultOf found (BAD_NAMES at) = found ≡ Some (BAD_NAMES at)
IsFaultOf found (Root at) = found ≡ Some (Root at)
IsFaultOf found (Order at) = found ≡ Some (Order at)
IsFaultOf found Missing = found ≡ Some Missing
