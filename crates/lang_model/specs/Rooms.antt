-- How many nodes an expression counts for each node of it that passes its tests: bounds on what single operators make,
-- wide enough for a worker that computes in another way. In these bounds h is the least height with 2 ^ h at least
-- every size of the operands and of the result. No bound depends on a worker's leaves.
use Rattle.std.specs.Prelude.{ℕ}
use Rattle.lang_model.specs.declared.syntax.Op2.{Op2}
use Rattle.lang_model.specs.declared.syntax.Op2.TheVariants.{Or, And, Times, Under, Over}
use Rattle.rel_model.specs.Relation.{Relation}
use Rattle.rel_model.specs.Worker.{plain_room, product_room, wide_room, classes_room}
use Rattle.lang_model.specs.Outcomes.{Cost}

-- 8 * 4 ^ h: a union, an intersection, a complement, transpositions, the full and the empty relations, and the tests
unfoldable pub plain_cost : ℕ → ℕ → Cost
plain_cost rows cols leaf = plain_room rows cols

-- 16 * 8 ^ h: a composition
unfoldable pub product_cost : ℕ → ℕ → ℕ → Cost
product_cost k m n leaf = product_room k m n

-- 256 * (h + 1) * 8 ^ h: any other operator, base call, domain operator or pairing
unfoldable pub wide_cost : ℕ → ℕ → ℕ → Cost
wide_cost k m n leaf = wide_room k m n

-- 1024 * (h + 1) * 8 ^ h: a call of orders and classes
unfoldable pub order_cost : ℕ → ℕ → ℕ → Cost
order_cost k m n leaf = classes_room k m n

-- an operator between two relations
abbrev pub link_cost : Op2 → Relation → Relation → Cost
link_cost Or r s = plain_cost r.rows r.cols
link_cost And r s = plain_cost r.rows r.cols
link_cost Times r s = product_cost r.rows r.cols s.cols
link_cost Under r s = wide_cost r.rows r.cols s.cols
link_cost Over r s = wide_cost r.rows r.cols s.rows
