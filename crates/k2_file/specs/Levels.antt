-- The levels of a tree by sets of cells: which bits a level has, and which squares the next level has.
use Rattle.std.specs.Prelude.{◌≡◌, ◌+◌, ◌^◌, zero, suc, ℕ, Bool, List, [], ◌∷◌, ◌++◌, map, filter, Option, Some, None}
use Rattle.std.specs.List.{flat_map, AllByRecursion}
use Rattle.rel_model.specs.Cells.{Cells}
use Rattle.rel_model.specs.Relation.{Relation, has}
use Rattle.rel_model.specs.Worker.{Worker, set_of}
use Rattle.rel_model.specs.declared.Rel.{Rel}
use Rattle.k2_file.specs.declared.squares.Square.{Square}
use Rattle.k2_file.specs.Squares.{piece, some_cell, four_pieces, square_cells, square_set, IsSquare}

-- whether each quarter of side m of a set has a cell
abbrev pub quarter_bits : ℕ → Cells → List Bool
quarter_bits m f = map (some_cell m) (four_pieces m f)

-- those quarters of side m of a set that have cells
abbrev pub quarters_met : ℕ → Cells → List Cells
quarters_met m f = filter (some_cell m) (four_pieces m f)

-- the bits of a level
abbrev pub level_bits : ℕ → List Cells → List Bool
level_bits m fs = flat_map (quarter_bits m) fs

-- the sets of the next level
abbrev pub next_level : ℕ → List Cells → List Cells
next_level m fs = flat_map (quarters_met m) fs

-- the bits of the levels above the cells, below sets in squares of height k + 1
abbrev pub upper_bits : ℕ → List Cells → List Bool
upper_bits zero fs = []
upper_bits (suc k) fs = level_bits (2 ^ suc k) fs ++ upper_bits k (next_level (2 ^ suc k) fs)

-- the bits of the cells below sets in squares of height k + 1
abbrev pub lowest_bits : ℕ → List Cells → List Bool
lowest_bits zero fs = level_bits 1 fs
lowest_bits (suc k) fs = lowest_bits k (next_level (2 ^ suc k) fs)

-- the set of a relation in the square of a height, if it has a pair
abbrev pub first_level : ℕ → Relation → List Cells
first_level h r = filter (some_cell (2 ^ h)) (piece (2 ^ h) 0 0 (has r) ∷ [])

-- the squares of a list have this height, and these cells
pub record AreSquares (w : Worker) (least h : ℕ) (squares : List Square) (fs : List Cells) : Type 0 where
  pub sound : AllByRecursion (IsSquare w least h) squares
  pub means : map (square_cells w (2 ^ h)) squares ≡ fs

-- squares with these cells were appended to a list, and all have this height
pub record Adds (old new : Worker) (least h : ℕ) (before after : List Square) (more : List Cells) : Type 0 where
  pub sound : AllByRecursion (IsSquare new least h) after
  pub means : map (square_cells new (2 ^ h)) after ≡ map (square_cells old (2 ^ h)) before ++ more

-- the bits of the quarters, of a height, of a square
abbrev pub bits_of : Worker → ℕ → Square → List Bool
bits_of w h s = quarter_bits (2 ^ h) (square_set w (h + 1) s)

-- its quarters that have cells were appended
abbrev pub AddsQuarters : Worker → Worker → ℕ → ℕ → Square → List Square → List Square → Type 0
AddsQuarters old new least h s before after = Adds old new least h before after
    (quarters_met (2 ^ h) (square_set old (h + 1) s))

-- the bits of a level of squares, whose quarters are of a height
abbrev pub bits_of_all : Worker → ℕ → List Square → List Bool
bits_of_all w h squares = level_bits (2 ^ h) (map (square_cells w (2 ^ (h + 1))) squares)

-- the squares of the next level, which are of that height
abbrev pub AreNext : Worker → Worker → ℕ → ℕ → List Square → List Square → Type 0
AreNext old new least h squares next = AreSquares new least h next
    (next_level (2 ^ h) (map (square_cells old (2 ^ (h + 1))) squares))

-- the square of a relation, if it has a pair
abbrev pub IsFirst : Worker → Worker → ℕ → ℕ → Rel → List Square → Type 0
IsFirst old new least h rel squares = AreSquares new least h squares (first_level h (set_of old rel))

-- a square as a list, empty if there is none
abbrev pub list_of : Option Square → List Square
list_of None = []
list_of (Some s) = s ∷ []
