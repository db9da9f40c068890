-- Squares of cells as the walk over a relation's tree uses them: pieces of sets, and what a square stands for.
use Rattle.std.specs.Prelude.{◌≡◌, ◌<◌, ◌≤◌, ◌+◌, ◌^◌, ◌&&◌, nat_lt, ℕ, Bool, true, false, List, [], ◌∷◌, Option, Some, None}
use Rattle.rel_model.specs.Cells.{Cells, some_below, bits_cells}
use Rattle.rel_model.specs.Relation.{has}
use Rattle.rel_model.specs.Worker.{Worker, set_of, HasQuad, quad_set}
use Rattle.rel_model.specs.declared.Quad.{Quad}
use Rattle.rel_model.specs.declared.Rel.{Rel}
use Rattle.k2_file.specs.declared.windows.Window.{Window}
use Rattle.k2_file.specs.declared.squares.Square.{Square}
use Rattle.k2_file.specs.declared.squares.Square.TheVariants.{Tree, Part}

-- the cells of a set in the square of side m whose first row is a and whose first column is b
unfoldable pub piece : ℕ → ℕ → ℕ → Cells → Cells
piece m a b f i j = nat_lt i m && (nat_lt j m && f (a + i) (b + j))

-- whether a set has a cell in its first m rows and columns
unfoldable pub some_cell : ℕ → Cells → Bool
some_cell m f = some_below m (λ i. some_below m (f i))

-- the quarters of side m of a set: north-west, north-east, south-west, south-east
abbrev pub four_pieces : ℕ → Cells → List Cells
four_pieces m f = piece m 0 0 f ∷ piece m 0 m f ∷ piece m m 0 f ∷ piece m m m f ∷ []

-- the cells of a window of side m
abbrev pub window_cells : ℕ → Window → Cells
window_cells m v = piece m v.row v.col (bits_cells v.side v.bits)

-- the cells of a window of a height
abbrev pub window_set : ℕ → Window → Cells
window_set h v = window_cells (2 ^ h) v

-- a window of side m lies in a square of side 8
pub record IsWindow (m : ℕ) (v : Window) : Type 0 where
  pub side : v.side ≤ 8
  pub row : v.row + m ≤ 8
  pub col : v.col + m ≤ 8

-- a window that begins where its leaf begins, with the leaf's cells
pub record IsLeafWindow (least : ℕ) (f : Cells) (v : Window) : Type 0 where
  pub side : v.side ≤ 8
  pub row : v.row ≡ 0
  pub col : v.col ≡ 0
  pub means : bits_cells v.side v.bits ≡ f

-- the cells of a square of side m
abbrev pub square_cells : Worker → ℕ → Square → Cells
square_cells w m (Tree q) = piece m 0 0 (quad_set w q)
square_cells w m (Part v) = window_cells m v

-- the cells of a square of a height
abbrev pub square_set : Worker → ℕ → Square → Cells
square_set w h s = square_cells w (2 ^ h) s

-- the cells of a quad
abbrev pub quad_piece : Worker → Quad → Cells
quad_piece w q = piece (2 ^ q.height) 0 0 (quad_set w q)

-- the pairs of a relation in the square of a height
abbrev pub rel_piece : Worker → ℕ → Rel → Cells
rel_piece w h rel = piece (2 ^ h) 0 0 (has (set_of w rel))

-- a square has this height: a quad above the leaves stands with it, or a window lies in its leaf
abbrev pub IsSquare : Worker → ℕ → ℕ → Square → Type 0
IsSquare w least h (Tree q) = HasQuad w q × (q.height ≡ h) × (least < h)
IsSquare w least h (Part v) = IsWindow (2 ^ h) v

-- a square of this height has the cells of a set, which is not empty
pub record IsShown (w : Worker) (least h : ℕ) (f : Cells) (s : Square) : Type 0 where
  pub square : IsSquare w least h s
  pub means : square_cells w (2 ^ h) s ≡ f
  pub some : some_cell (2 ^ h) f ≡ true

-- a set is shown by a square with its cells, or by none if it is empty
abbrev pub Shows : Worker → ℕ → ℕ → Cells → Option Square → Type 0
Shows w least h f None = some_cell (2 ^ h) f ≡ false
Shows w least h f (Some s) = IsShown w least h f s

-- the quarters of a set, of half its side, are shown
pub record ShowsFour (w : Worker) (least h : ℕ) (f : Cells)
    (four : Option Square × Option Square × Option Square × Option Square) : Type 0 where
  pub nw : Shows w least h (piece (2 ^ h) 0 0 f) four.0
  pub ne : Shows w least h (piece (2 ^ h) 0 (2 ^ h) f) four.1
  pub sw : Shows w least h (piece (2 ^ h) (2 ^ h) 0 f) four.2
  pub se : Shows w least h (piece (2 ^ h) (2 ^ h) (2 ^ h) f) four.3

-- a window of this height has the cells of a set, which is not empty
pub record IsShownPart (h : ℕ) (f : Cells) (v : Window) : Type 0 where
  pub square : IsWindow (2 ^ h) v
  pub means : window_cells (2 ^ h) v ≡ f
  pub some : some_cell (2 ^ h) f ≡ true

-- a set within a leaf is shown by a window, or by none if it is empty
abbrev pub ShowsWindow : ℕ → Cells → Option Square → Type 0
ShowsWindow h f None = some_cell (2 ^ h) f ≡ false
ShowsWindow h f (Some (Tree q)) = ⊥
ShowsWindow h f (Some (Part v)) = IsShownPart h f v

-- the quarters of a set within a leaf are shown by windows
pub record ShowsFourWindows (h : ℕ) (f : Cells) (four : Option Square × Option Square × Option Square
    × Option Square) : Type 0 where
  pub nw : ShowsWindow h (piece (2 ^ h) 0 0 f) four.0
  pub ne : ShowsWindow h (piece (2 ^ h) 0 (2 ^ h) f) four.1
  pub sw : ShowsWindow h (piece (2 ^ h) (2 ^ h) 0 f) four.2
  pub se : ShowsWindow h (piece (2 ^ h) (2 ^ h) (2 ^ h) f) four.3
