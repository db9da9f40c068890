-- Intermediate results of the calls.
use Rattle.std.specs.Prelude.{◌*◌, ◌&&◌, not, nat_lt, ℕ}
use Rattle.rel_model.specs.Relation.{Relation, has, relation_of}
use Rattle.rel_model.specs.Cells.{Cells, some_below}
use Rattle.rel_model.specs.Orders.{is_proper}
use Rattle.rel_model.specs.Worker.{derived_room}

-- the cells (i, j) with i < j of a square of side m
abbrev pub ascending : ℕ → Cells
ascending m i j = nat_lt i j && nat_lt j m

-- the pairs of two different elements
unfoldable pub proper_pairs : Relation → Relation
proper_pairs r = relation_of r.rows r.cols (λ x y. is_proper r x y)

-- the elements that are related to no lesser one, as a vector
unfoldable pub leading : Relation → Relation
leading r = relation_of r.rows 1 (λ x k. not (some_below x (λ y. has r x y)))

-- how many nodes are made for the pairs of two different elements
abbrev pub proper_room : ℕ → ℕ → ℕ
proper_room m n = 2 * derived_room m n n

-- how many nodes are made for the least elements of classes
abbrev pub leading_room : ℕ → ℕ → ℕ
leading_room m n = 2 * derived_room m n n
