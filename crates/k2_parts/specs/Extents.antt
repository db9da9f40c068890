-- How far the cells of squares extend: the fewest rows and columns that contain them all.
use Rattle.std.specs.Prelude.{◌≡◌, ◌==◌, ◌<◌, ◌+◌, cond, ℕ, true, List, length, slice_get, Some}
use Rattle.rel_model.specs.Cells.{Cells, cells_transpose}
use Rattle.run_model.specs.SharedFiles.{Quadrant, height_at, cells_told}
use Rattle.k2_parts.specs.declared.extents.Extent.{Extent}

-- how far the cells of two halves extend, where the second begins a side after the first
abbrev pub reach_of : ℕ → ℕ → ℕ → ℕ
reach_of side first second = cond (second == 0) first (side + second)

-- the fewest rows that contain all cells of a set: no cell lies in a later row, and the last of these rows has one
pub record AreRowsOf (cells : Cells) (rows : ℕ) : Type 0 where
  pub inside : (i j : ℕ) → cells i j ≡ true → i < rows
  pub last : (i : ℕ) → rows ≡ i + 1 → (j : ℕ) × (cells i j ≡ true)

-- the fewest rows, and the fewest columns, that contain all cells of a set
pub record IsExtentOf (cells : Cells) (extent : Extent) : Type 0 where
  pub are_rows : AreRowsOf cells extent.rows
  pub are_cols : AreRowsOf (cells_transpose cells) extent.cols

-- the extents of the first numbers from 0 on, each at its height
pub record AreExtentsUpto (quads : List Quadrant) (heights : List ℕ) (extents : List Extent) (count : ℕ) : Type 0 where
  pub many : length extents ≡ count
  pub each : (n : ℕ) (e : Extent) → slice_get extents n ≡ Some e
      → IsExtentOf (cells_told quads (height_at heights n) n) e

-- the extents of all numbers: 0, 1 and those of the listed squares
abbrev pub AreExtents : List Quadrant → List ℕ → List Extent → Type 0
AreExtents quads heights extents = AreExtentsUpto quads heights extents (length quads + 2)
