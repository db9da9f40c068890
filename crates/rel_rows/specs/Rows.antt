-- One row of a relation, and a relation with one row added; the same for sets of cells.
use Rattle.std.specs.Prelude.{◌==◌, ◌&&◌, ◌||◌, ℕ}
use Rattle.rel_model.specs.Relation.{Relation, has, relation_of}
use Rattle.rel_model.specs.Cells.{Cells}

-- row i of a relation, as a relation of one row
abbrev pub row_of : Relation → ℕ → Relation
row_of r i = relation_of 1 r.cols (λ a j. has r i j)

-- a relation with the elements of a line added to its row i
abbrev pub row_added : Relation → ℕ → Relation → Relation
row_added r i line = relation_of r.rows r.cols (λ a j. has r a j || ((a == i) && has line 0 j))

-- row i of a set, in row 0
abbrev pub row_cells : ℕ → Cells → Cells
row_cells i f a j = (a == 0) && f i j

-- a set with row 0 of another added to its row i
abbrev pub added_cells : ℕ → Cells → Cells → Cells
added_cells i g f a j = f a j || ((a == i) && g 0 j)
