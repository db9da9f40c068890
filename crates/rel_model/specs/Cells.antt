-- Sets of cells, as tests on a row and a column, and the operators on them. Definitions on trees and blocks use these;
-- two sets are compared as functions.
use Rattle.std.specs.Prelude.{◌==◌, ◌+◌, ◌*◌, ◌&&◌, ◌||◌, not, nat_lt, zero, suc, ℕ, Bool, false}
use Rattle.std.specs.Int.{bit_at}

-- a set of cells: whether the cell in row i and column j is in it
abbrev pub Cells : Type 0
Cells = ℕ → ℕ → Bool

-- the empty set
abbrev pub no_cells : Cells
no_cells i j = false

-- the cells of the first m rows and n columns
abbrev pub cells_rect : ℕ → ℕ → Cells
cells_rect m n i j = nat_lt i m && nat_lt j n

-- the cells in either set
abbrev pub cells_union : Cells → Cells → Cells
cells_union f g i j = f i j || g i j

-- the cells in both sets
abbrev pub cells_inter : Cells → Cells → Cells
cells_inter f g i j = f i j && g i j

-- the cells in the first set and not in the second
abbrev pub cells_diff : Cells → Cells → Cells
cells_diff f g i j = f i j && not (g i j)

-- rows and columns exchanged
abbrev pub cells_transpose : Cells → Cells
cells_transpose f i j = f j i

-- whether a test passes at some number below n
abbrev pub some_below : ℕ → (ℕ → Bool) → Bool
some_below zero t = false
some_below (suc n) t = t n || some_below n t

-- the composition, with a middle element below m
abbrev pub cells_compose : ℕ → Cells → Cells → Cells
cells_compose m f g i j = some_below m (λ k. f i k && g k j)

-- the cells of a block of 8 by 8: cell (i, j) is bit 8 * i + j of the word
abbrev pub block_cells : ℕ → Cells
block_cells bits i j = nat_lt i 8 && (nat_lt j 8 && (bit_at bits (8 * i + j) == 1))

-- the cells of a square of side m in one word: cell (i, j) is bit m * i + j
abbrev pub bits_cells : ℕ → ℕ → Cells
bits_cells m bits i j = nat_lt i m && (nat_lt j m && (bit_at bits (m * i + j) == 1))
