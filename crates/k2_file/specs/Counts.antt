-- How many bits there are below a square, and the memory of such counts.
use Rattle.std.specs.Prelude.{◌≡◌, ◌+◌, ◌^◌, ◌&&◌, nat_eq, cond, zero, suc, ℕ, Bool, true, Option, Some, None}
use Rattle.rel_model.specs.declared.Quad.{Quad}
use Rattle.rel_model.specs.Cells.{Cells}
use Rattle.rel_model.specs.Worker.{Worker, HasQuad, quad_set}
use Rattle.k2_file.specs.declared.squares.Square.{Square}
use Rattle.k2_file.specs.Squares.{piece, some_cell, square_cells, IsSquare}

-- how many bits there are below a set in a square of a height: four if it has a cell, plus those below its quarters
abbrev pub bits_under : ℕ → Cells → ℕ
bits_under zero f = 0
bits_under (suc k) f =
    cond (some_cell (2 ^ suc k) f)
    (4 + bits_under k (piece (2 ^ k) 0 0 f) + bits_under k (piece (2 ^ k) 0 (2 ^ k) f) + bits_under k
    (piece (2 ^ k) (2 ^ k) 0 f) + bits_under k (piece (2 ^ k) (2 ^ k) (2 ^ k) f))
    0

-- how many bits there are below a square
abbrev pub square_bits : Worker → ℕ → Square → ℕ
square_bits w h s = bits_under h (square_cells w (2 ^ h) s)

-- how many bits there are below a square, if there is one
abbrev pub part_bits : Worker → ℕ → Option Square → ℕ
part_bits w h None = 0
part_bits w h (Some s) = square_bits w h s

-- a square of this height has a cell
pub record IsFull (w : Worker) (least h : ℕ) (s : Square) : Type 0 where
  pub square : IsSquare w least h s
  pub some : some_cell (2 ^ h) (square_cells w (2 ^ h) s) ≡ true

-- the same, if there is a square
abbrev pub IsFullPart : Worker → ℕ → ℕ → Option Square → Type 0
IsFullPart w least h None = Unit {0}
IsFullPart w least h (Some s) = IsFull w least h s

-- how many bits there are below a quad
abbrev pub quad_bits : Worker → Quad → ℕ
quad_bits w q = bits_under q.height (piece (2 ^ q.height) 0 0 (quad_set w q))

-- whether two keys, each a height and a name, are equal
abbrev pub same_key : ℕ × ℕ → ℕ × ℕ → Bool
same_key a b = nat_eq a.0 b.0 && nat_eq a.1 b.1

-- each quad in the memory stands, and has as many bits below it as are noted there
abbrev pub AreCounts : Worker → (ℕ × ℕ → Option ℕ) → Type 0
AreCounts w found = (h n c : ℕ) → found (h, n) ≡ Some c
    → HasQuad w (record { height = h; name = n }) × (c ≡ quad_bits w (record { height = h; name = n }))
