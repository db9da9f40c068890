-- What relations reach in the words of a table: uses of nodes, each a depth and a name. A name has two uses only if its
-- word is read at two depths.
use Rattle.std.specs.Prelude.{◌==◌, ◌&&◌, ◌+◌, ℕ, Bool, cond, zero, suc, List, [], ◌∷◌, ◌++◌, slice_index}
use Rattle.std.specs.List.{list_any, flat_map}
use Rattle.rel_model.specs.declared.Rel.{Rel}
use Rattle.rel_model.specs.Trees.{first_of, second_of}
use Rattle.rel_model.specs.Roots.{tree_height}
use Rattle.rel_model.specs.Equations.{depth_of}

-- a use: a depth above the blocks, and the name of a node
pub record Use : Type 0 where
  pub depth : ℕ
  pub name : ℕ

-- the uses reached from a name at a depth, with repeats: its own, and those reached from the two names in its word at
-- the depth below; none from name 0
abbrev pub uses_from : List ℕ → ℕ → ℕ → List Use
uses_from words zero n = cond (n == 0) [] (record { depth = 0; name = n } ∷ [])
uses_from words (suc k) n =
    cond (n == 0) []
    (record { depth = suc k; name = n }
    ∷ (uses_from words k (first_of (slice_index words n)) ++ uses_from words k (second_of (slice_index words n))))

-- the uses reached from the root of a relation
unfoldable pub uses_of : List ℕ → Rel → List Use
uses_of words rel = uses_from words (depth_of (tree_height rel.rows rel.cols)) rel.root

-- whether two uses are equal
abbrev pub same_use : Use → Use → Bool
same_use u v = (u.depth == v.depth) && (u.name == v.name)

-- how many different uses there are in a list
abbrev pub count_once : List Use → ℕ
count_once [] = 0
count_once (u ∷ us) = cond (list_any (same_use u) us) 0 1 + count_once us

-- how many uses relations reach, each counted once
unfoldable pub uses_count : List ℕ → List Rel → ℕ
uses_count words rels = count_once (flat_map (uses_of words) rels)

-- whether a use is of this name
abbrev pub has_name : ℕ → Use → Bool
has_name n u = u.name == n

-- whether relations reach the node with this name
unfoldable pub is_reached : List ℕ → List Rel → ℕ → Bool
is_reached words rels n = list_any (has_name n) (flat_map (uses_of words) rels)
