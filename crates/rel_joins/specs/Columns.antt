-- Columns of a closure as rows of bits, and as squares of 256 rows and columns.
use Rattle.std.specs.Prelude.{◌≡◌, ◌==◌, ◌<◌, ◌≤◌, ◌+◌, ◌*◌, ◌/◌, ◌%◌, ◌&&◌, ◌||◌, nat_lt, ℕ, Bool, false, List, length, get_or, slice_index_or}
use Rattle.std.specs.List.{list_any}
use Rattle.rel_model.specs.declared.Quad.{Quad}
use Rattle.rel_model.specs.Cells.{Cells}
use Rattle.rel_model.specs.Relation.{has}
use Rattle.rel_model.specs.Closures.{transitive_closure}
use Rattle.rel_model.specs.Worker.{Worker, HasQuad, quad_set, GivesQuad}
use Rattle.bit_rows.specs.declared.row.Row.{Row}
use Rattle.bit_rows.specs.Rows.{rows_cells}
use Rattle.bit_rows.specs.Places.{window}
use Rattle.rel_joins.specs.Reaches.{square_of}

-- the cells of the closure of n elements with these pairs
abbrev pub closed_cells : ℕ → List (ℕ × ℕ) → Cells
closed_cells n pairs = has (transitive_closure (square_of n pairs))

-- whether pairs lead to column col + j: from their ends, where rows hold 256 columns from col on, or at once
abbrev pub leads_to : List Row → ℕ → List (ℕ × ℕ) → ℕ → Bool
leads_to rows col row j = list_any (λ q. rows_cells rows q.1 j || (q.1 == col + j)) row

-- rows hold 256 columns of the closure from col on, for the elements at the first places of an order
abbrev pub HoldColumns : ℕ → List (ℕ × ℕ) → List ℕ → ℕ → ℕ → List Row → Type 0
HoldColumns n pairs order count col rows = (p j : ℕ) → p < count → j < 256
    → rows_cells rows (get_or order p 0) j ≡ closed_cells n pairs (get_or order p 0) (col + j)

-- rows from n on have no column
abbrev pub AreBare : ℕ → List Row → Type 0
AreBare n rows = (x j : ℕ) → n ≤ x → rows_cells rows x j ≡ false

-- the square with no cell
abbrev pub no_square : Quad
no_square = record { height = 8; name = 0 }

-- squares of 256 rows and columns stand
pub record AreSquares (w : Worker) (squares : List Quad) : Type 0 where
  pub stand : (k : ℕ) → k < length squares → HasQuad w (slice_index_or squares k no_square)
  pub high : (k : ℕ) → k < length squares → (slice_index_or squares k no_square).height ≡ 8

-- the cells of squares side by side, as many rows and columns of them as `blocks`, column by column
abbrev pub tiled : Worker → ℕ → List Quad → Cells
tiled w blocks squares i j = nat_lt i (256 * blocks) && (nat_lt j (256 * blocks)
    && quad_set w (slice_index_or squares (j / 256 * blocks + i / 256) no_square) (i % 256) (j % 256))

-- the first squares of a column of them have the cells of rows of bits
pub record AreCut (w : Worker) (rows : List Row) (from count : ℕ) (squares : List Quad) : Type 0 where
  pub given : (b : ℕ) → b < count
      → GivesQuad w 8 (window (256 * b) 0 256 (rows_cells rows)) (slice_index_or squares (from + b) no_square)

-- the first squares, column by column, have the cells of a set
abbrev pub AreTiles : Worker → Cells → ℕ → ℕ → List Quad → Type 0
AreTiles w f blocks count squares = (s b : ℕ) → b < blocks → s * blocks + b < count
    → GivesQuad w 8 (window (256 * b) (256 * s) 256 f) (slice_index_or squares (s * blocks + b) no_square)
