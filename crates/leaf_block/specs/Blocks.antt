-- Blocks and their sets: the laws that trees of blocks rest on.
use Rattle.std.specs.Prelude.{◌≡◌, ◌↔◌, ◌+◌, ◌/◌, ◌%◌, ◌^◌, ◌<◌, zero, suc, ℕ, true, cond, bit_and, bit_or}
use Rattle.std.specs.Int.{bit_not, w64}
use Rattle.rel_model.specs.Cells.{Cells, block_cells, no_cells, cells_union, cells_inter, cells_diff}

-- a set of cells in 8 rows and 8 columns
abbrev pub IsWithinBlock : Cells → Type 0
IsWithinBlock f = (i j : ℕ) → f i j ≡ true → (i < 8) × (j < 8)

-- the sum of the bits of the first n cells, row after row
abbrev pub bits_below : Cells → ℕ → ℕ
bits_below f zero = 0
bits_below f (suc n) = cond (f (n / 8) (n % 8)) (2 ^ n) 0 + bits_below f n

-- the block of a set of cells
unfoldable pub block_of : Cells → ℕ
block_of f = bits_below f 64

-- the empty block has no cell
abbrev pub EmptyIsZero : Type 0
EmptyIsZero = block_cells 0 ≡ no_cells

-- the bitwise or of two blocks has the union of their cells
abbrev pub UnionIsOr : Type 0
UnionIsOr = (a b : ℕ) → block_cells (bit_or a b) ≡ cells_union (block_cells a) (block_cells b)

-- the bitwise and of two blocks has the intersection of their cells
abbrev pub InterIsAnd : Type 0
InterIsAnd = (a b : ℕ) → block_cells (bit_and a b) ≡ cells_inter (block_cells a) (block_cells b)

-- the bitwise and of a block with the complement of another has the difference of their cells
abbrev pub DiffIsAndNot : Type 0
DiffIsAndNot = (a b : ℕ) → b < 2 ^ 64 → block_cells (bit_and a (bit_not w64 b))
    ≡ cells_diff (block_cells a) (block_cells b)

-- two blocks are equal if and only if their sets are
abbrev pub SameCellsSameBlock : Type 0
SameCellsSameBlock = (a b : ℕ) → a < 2 ^ 64 → b < 2 ^ 64 → (a ≡ b) ↔ (block_cells a ≡ block_cells b)

-- every block has a set within 8 rows and 8 columns
abbrev pub BlockIsWithin : Type 0
BlockIsWithin = (a : ℕ) → IsWithinBlock (block_cells a)

-- every set within 8 rows and 8 columns is that of its block, which is one word
abbrev pub SetHasBlock : Type 0
SetHasBlock = (f : Cells) → IsWithinBlock f → (block_of f < 2 ^ 64) × (block_cells (block_of f) ≡ f)
