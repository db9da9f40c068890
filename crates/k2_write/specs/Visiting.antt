-- Visits of squares: what the listed squares are, and how a visit extends them.
use Rattle.std.specs.Prelude.{◌≡◌, ◌^◌, ◌&&◌, nat_eq, length, zero, suc, ℕ, Bool, List, [], map, Option, Some, None}
use Rattle.std.specs.HashMap.{get}
use Rattle.rel_model.specs.Cells.{Cells}
use Rattle.rel_model.specs.Relation.{Relation, relation_of}
use Rattle.rel_model.specs.Worker.{Worker}
use Rattle.run_model.specs.Files.{file_height}
use Rattle.run_model.specs.SharedBytes.{Square, quarter, visit, number_in}
use Rattle.run_model.proofs.SharedSquares.{Known, AllBehind, NoneTwice}
use Rattle.k2_file.specs.declared.windows.Window.{Window}
use Rattle.k2_file.specs.declared.squares.Square.{Square as Shown}
use Rattle.k2_file.specs.declared.squares.Square.TheVariants.{Tree, Part}
use Rattle.k2_file.specs.Squares.{square_cells, IsSquare}
use Rattle.k2_file.specs.Counts.{same_key}
use Rattle.k2_write.specs.declared.visits.Quarters.{Quarters}
use Rattle.k2_write.specs.declared.visits.Visits.{Visits}

-- pairs of rows and columns
abbrev pub Pairs : Type 0
Pairs = List (ℕ × ℕ)

-- the pairs of a set in the square of a height
abbrev pub pairs_in : ℕ → Cells → Pairs
pairs_in h f = (relation_of (2 ^ h) (2 ^ h) f).pairs

-- the pairs of a square
abbrev pub square_pairs : Worker → ℕ → Shown → Pairs
square_pairs w h s = pairs_in h (square_cells w (2 ^ h) s)

-- the pairs of a square, if there is one
abbrev pub part_pairs : Worker → ℕ → Option Shown → Pairs
part_pairs w h None = []
part_pairs w h (Some s) = square_pairs w h s

-- a leaf of a height as a window, by its bits
abbrev pub whole_leaf : ℕ → ℕ → Window
whole_leaf h bits = record { bits = bits; side = 2 ^ h; row = 0; col = 0 }

-- the square of a quad, by its height and name
abbrev pub quad_at : ℕ → ℕ → Shown
quad_at h name = Tree (record { height = h; name = name })

-- the square of a leaf, by its height and bits
abbrev pub leaf_at : ℕ → ℕ → Shown
leaf_at h bits = Part (whole_leaf h bits)

-- whether two squares have the same numbers of quarters
abbrev pub same_quarters : Quarters → Quarters → Bool
same_quarters a b = nat_eq a.nw b.nw && (nat_eq a.ne b.ne && (nat_eq a.sw b.sw && nat_eq a.se b.se))

-- the numbers of the quarters of a square, by its height and its pairs
abbrev pub quarters_by : List Square → ℕ → Pairs → Quarters
quarters_by squares zero ps = record { nw = 0; ne = 0; sw = 0; se = 0 }
quarters_by squares (suc h) ps = record {
  nw = number_in squares h (quarter (2 ^ h) 0 0 ps);
  ne = number_in squares h (quarter (2 ^ h) 0 (2 ^ h) ps);
  sw = number_in squares h (quarter (2 ^ h) (2 ^ h) 0 ps);
  se = number_in squares h (quarter (2 ^ h) (2 ^ h) (2 ^ h) ps);
}

-- the numbers of the quarters of a listed square
abbrev pub quarters_in : List Square → Square → Quarters
quarters_in squares s = quarters_by squares s.height s.pairs

-- each square in a memory of numbers has its height and was visited, and its number is noted there
abbrev pub AreNumbers : Worker → ℕ → (ℕ → ℕ → Shown) → List Square → (ℕ × ℕ → Option ℕ) → Type 0
AreNumbers w least at squares found = (h n c : ℕ) → found (h, n) ≡ Some c
    → IsSquare w least h (at h n) × Known squares (length squares) h (square_pairs w h (at h n))
    × (c ≡ number_in squares h (square_pairs w h (at h n)))

-- the visits so far list these squares: each comes after its quarters, and none occurs twice
pub record Lists (w : Worker) (least : ℕ) (squares : List Square) (visits : Visits) : Type 0 where
  pub behind : AllBehind squares
  pub once : NoneTwice squares
  pub keys : visits.squares.keys ≡ map (quarters_in squares) squares
  pub quads_noted : AreNumbers w least quad_at squares (get same_key visits.quads)
  pub leaves_noted : AreNumbers w least leaf_at squares (get same_key visits.leaves)

-- after a visit its squares are listed, and it gave the number of the square
pub record IsVisited (w : Worker) (least : ℕ) (squares : List Square) (after : Visits) (h : ℕ) (ps : Pairs)
    (n : ℕ) : Type 0 where
  pub lists : Lists w least (visit h ps squares) after
  pub number : n ≡ number_in (visit h ps squares) h ps

-- a visit of pairs, whatever squares were listed before it
abbrev pub Visited : Worker → Worker → ℕ → Visits → Visits → ℕ → Pairs → ℕ → Type 0
Visited old new least before after h ps n =
    (squares : List Square) → Lists old least squares before → IsVisited new least squares after h ps n

-- after visits of two squares, the squares of both are listed, and each has its number
pub record AreVisited (w : Worker) (least : ℕ) (squares : List Square) (after : Visits) (h : ℕ) (west east : Pairs)
    (m n : ℕ) : Type 0 where
  pub lists : Lists w least (visit h east (visit h west squares)) after
  pub west_number : m ≡ number_in (visit h east (visit h west squares)) h west
  pub east_number : n ≡ number_in (visit h east (visit h west squares)) h east

-- the same for two, west before east
abbrev pub VisitedTwo : Worker → Worker → ℕ → Visits → Visits → ℕ → Pairs → Pairs → ℕ × ℕ → Type 0
VisitedTwo old new least before after h west east n =
    (squares : List Square) → Lists old least squares before → AreVisited new least squares after h west east n.0 n.1

-- a visit of a relation as a square of its height
abbrev pub VisitedSet : Worker → Worker → ℕ → Visits → Visits → Relation → ℕ → Type 0
VisitedSet old new least before after r n = Visited old new least before after (file_height r.rows r.cols) r.pairs n
