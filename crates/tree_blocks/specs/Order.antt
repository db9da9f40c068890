-- Blocks in tree order.
use Rattle.std.specs.Prelude.{◌+◌, ◌*◌, zero, suc, ℕ, List, Bool, true, false, slice_index}
use Rattle.rel_model.specs.Cells.{Cells, block_cells, cells_transpose}
use Rattle.rel_model.specs.Trees.{side, quartered}

-- how many blocks a square has, d heights above the blocks
abbrev pub blocks_count : ℕ → ℕ
blocks_count zero = 1
blocks_count (suc d) = 4 * blocks_count d

-- the cells of square k of blocks in tree order, d heights above the blocks: its quarters are the squares 4k, 4k + 1,
-- 4k + 2 and 4k + 3 of the height below
unfoldable pub square_cells : ℕ → List ℕ → ℕ → Cells
square_cells zero ws k = block_cells (slice_index ws k)
square_cells (suc d) ws k = quartered (side d) (square_cells d ws (4 * k)) (square_cells d ws (4 * k + 1))
    (square_cells d ws (4 * k + 2)) (square_cells d ws (4 * k + 3))

-- the cells of blocks in tree order: each quarter of the list makes one quarter of the square
abbrev pub blocks_cells : ℕ → List ℕ → Cells
blocks_cells d ws = square_cells d ws 0

-- the cells of a set, or those of its transposition
abbrev pub turned_cells : Bool → Cells → Cells
turned_cells true f = cells_transpose f
turned_cells false f = f
