-- The bytes of a file of version 2: several named relations over one list of squares, in which no square occurs twice.
use Rattle.std.specs.Prelude.{◌==◌, ◌&&◌, ◌+◌, ◌-◌, ◌^◌, cond, zero, suc, ℕ, Bool, List, [], ◌∷◌, ◌++◌, length, codes}
use Rattle.std.specs.List.{list_any, flat_map}
use Rattle.std.specs.Int.{w32, to_be_bytes}
use lib.Pointwise.{pointwise}
use Rattle.run_model.specs.declared.outcome.BadFile.TheVariants.{}
use Rattle.rel_model.specs.Relation.{Relation, relation_of}
use Rattle.rel_model.specs.Listed.{is_among}
use Rattle.run_model.specs.Files.{file_height, unless}

-- ---- squares
-- a square: a relation of 2 ^ height rows and columns, by its pairs
pub record Square : Type 0 where
  pub height : ℕ
  pub pairs : List (ℕ × ℕ)

-- the pairs of a submatrix of this side, counted from its first row and column
abbrev pub quarter : ℕ → ℕ → ℕ → List (ℕ × ℕ) → List (ℕ × ℕ)
quarter side row col pairs = (relation_of side side (λ i j. is_among pairs (row + i) (col + j))).pairs

-- both have the same pairs
abbrev pub same_pairs : List (ℕ × ℕ) → List (ℕ × ℕ) → Bool
same_pairs = pointwise (λ p q. (p.0 == q.0) && (p.1 == q.1))

-- both have the same height and the same pairs
abbrev pub same_square : Square → Square → Bool
same_square a b = (a.height == b.height) && same_pairs a.pairs b.pairs

-- a square after the others, unless it is among them
abbrev pub with_square : Square → List Square → List Square
with_square square list = cond (list_any (same_square square) list) list (list ++ square ∷ [])

-- the list itself if there is no pair, and otherwise the list made by the visit of a square
abbrev pub where_pairs : List (ℕ × ℕ) → List Square → List Square → List Square
where_pairs [] list visited = list
where_pairs (p ∷ ps) list visited = visited

-- A visit of a square, given by its height and its pairs. A cell, or a square without pairs, leaves the list of squares
-- unchanged. For any other square, its quarters are visited first, north-west, north-east, south-west and south-east,
-- and then the square is listed after them, unless it is listed already (post-order).
abbrev pub visit : ℕ → List (ℕ × ℕ) → List Square → List Square
visit zero pairs list = list
visit (suc h) pairs list =
    let side = 2 ^ h in
    where_pairs pairs list
    (with_square (record { height = suc h; pairs = pairs })
    (visit h (quarter side side side pairs)
    (visit h (quarter side side 0 pairs)
    (visit h (quarter side 0 side pairs)
    (visit h (quarter side 0 0 pairs) list)))))

-- the squares of named relations after those of a list: each relation is visited in order, as a square of its height
abbrev pub visit_all : List Square → List (List ℕ × Relation) → List Square
visit_all list [] = list
visit_all list (entry ∷ entries) =
    visit_all (visit (file_height entry.1.rows entry.1.cols) entry.1.pairs list) entries

-- the squares of named relations
unfoldable pub squares_of : List (List ℕ × Relation) → List Square
squares_of list = visit_all [] list

-- the place of a square in a list
abbrev pub place_in : List Square → Square → ℕ
place_in [] square = 0
place_in (x ∷ xs) square = cond (same_square x square) 0 (1 + place_in xs square)

-- the number of a square, given by its height and its pairs: 0 without pairs, 1 for the cell, and otherwise its place
-- in the list, counted from 2
abbrev pub number_in : List Square → ℕ → List (ℕ × ℕ) → ℕ
number_in squares h [] = 0
number_in squares zero (p ∷ ps) = 1
number_in squares (suc h) (p ∷ ps) = 2 + place_in squares (record { height = suc h; pairs = p ∷ ps })

-- ---- bytes
-- the four numbers of a square's quarters, given their height
abbrev pub quarter_bytes : List Square → ℕ → List (ℕ × ℕ) → List ℕ
quarter_bytes squares zero pairs = []
quarter_bytes squares (suc h) pairs =
    let side = 2 ^ h in
    to_be_bytes w32 (number_in squares h (quarter side 0 0 pairs))
    ++ to_be_bytes w32 (number_in squares h (quarter side 0 side pairs))
    ++ to_be_bytes w32 (number_in squares h (quarter side side 0 pairs))
    ++ to_be_bytes w32 (number_in squares h (quarter side side side pairs))

-- a named relation: the length of its name, the name, its rows and columns, and the number of its square
abbrev pub entry_bytes : List Square → List ℕ × Relation → List ℕ
entry_bytes squares entry =
    length entry.0
    ∷ (entry.0 ++ to_be_bytes w32 entry.1.rows ++ to_be_bytes w32 entry.1.cols
    ++ to_be_bytes w32 (number_in squares (file_height entry.1.rows entry.1.cols) entry.1.pairs))

-- the bytes of a file of named relations
unfoldable pub shared_file : List (List ℕ × Relation) → List ℕ
shared_file list =
    let squares = squares_of list in
    codes "RVK2" ++ to_be_bytes w32 (length squares) ++ to_be_bytes w32 (length list)
    ++ flat_map (λ s. quarter_bytes squares s.height s.pairs) squares ++ flat_map (entry_bytes squares) list
