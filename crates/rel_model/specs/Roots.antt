-- Relations by their roots in the words of a table: the k²-trees of Brisaboa, Ladra and Navarro with k = 2, whose
-- leaves are blocks of 8 by 8.
use Rattle.std.specs.Prelude.{◌≡◌, ◌&&◌, ◌↔◌, ◌-◌, ◌*◌, ◌^◌, not, nat_lt, nat_le, max, cond, ℕ, Bool, List, Option, Some, None}
use Rattle.rel_model.specs.declared.Rel.{Rel}
use Rattle.rel_model.specs.Relation.{Relation, relation_of, size_limit}
use Rattle.rel_model.specs.Cells.{Cells, some_below}
use Rattle.rel_model.specs.Trees.{bottom_height, cells, stands}
use Rattle.rel_model.specs.Equations.{depth_of, side_of}
use Rattle.rel_model.specs.Worker.{height_of, height_of_three}

-- the height of the tree of a relation: the least, from the height of the leaves on, whose side is at least both sizes
unfoldable pub height_over : ℕ → ℕ → ℕ → ℕ
height_over least rows cols = max least (max (height_of rows) (height_of cols))

-- the height of the tree of a relation in a table
abbrev pub tree_height : ℕ → ℕ → ℕ
tree_height rows cols = height_over bottom_height rows cols

-- how many nodes a tree has at most, this many heights above the leaves: 1 for a leaf; above leaves, those of four
-- quarters and 3 for their corner
abbrev pub tree_room : ℕ → ℕ
tree_room depth = 2 * 4 ^ depth - 1

-- how many nodes the tree of a relation has at most, with these sizes and leaves of a height
abbrev pub relation_room : ℕ → ℕ → ℕ → ℕ
relation_room least rows cols = tree_room (height_over least rows cols - least)

-- how many nodes a composition of k × m with m × n makes at most over leaves of a height, if one of the three sizes is
-- at most 1: as many as the recursion over squares that hold all three sizes
abbrev pub line_product_room : ℕ → ℕ → ℕ → ℕ → ℕ
line_product_room least k m n = 3 * 8 ^ (max least (height_of_three k m n) - least)

-- whether a set within a square of side m has no cell outside the first rows and columns
unfoldable pub lies_within : ℕ → ℕ → ℕ → Cells → Bool
lies_within m rows cols f = not (some_below m (λ i. some_below m (λ j. f i j && not (nat_lt i rows && nat_lt j cols))))

-- the cells of a relation's root
abbrev pub root_cells : List ℕ → Rel → Cells
root_cells words rel = cells words (depth_of (tree_height rel.rows rel.cols)) rel.root

-- whether a relation stands in the words: its sizes are within the limit, and its root stands at the depth of its
-- height and has no cell outside its sizes
unfoldable pub stands_in : List ℕ → Rel → Bool
stands_in words rel =
    (nat_le rel.rows size_limit && nat_le rel.cols size_limit)
    && (stands words (depth_of (tree_height rel.rows rel.cols)) rel.root
    && lies_within (side_of (tree_height rel.rows rel.cols)) rel.rows rel.cols (root_cells words rel))

-- the relation that the words give, if it stands
unfoldable pub relation_in : List ℕ → Rel → Option Relation
relation_in words rel = cond (stands_in words rel) (Some (relation_of rel.rows rel.cols (root_cells words rel))) None

-- two relations of one type that stand in the words have the same root if and only if they are equal
abbrev pub HasOneRootEach : List ℕ → Type 0
HasOneRootEach words = (a b : Rel) (r s : Relation) → a.rows ≡ b.rows → a.cols ≡ b.cols → relation_in words a ≡ Some r
    → relation_in words b ≡ Some s → (a.root ≡ b.root) ↔ (r ≡ s)
