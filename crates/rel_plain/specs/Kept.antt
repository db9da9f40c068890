-- The relations that are kept, and which of them stand.
use Rattle.std.specs.Prelude.{◌==◌, ◌≤◌, ◌&&◌, nat_le, List, Option, Some, None, option_and_then, cond, slice_get}
use base.Stored.{gnil}
use Rattle.rel_model.specs.declared.Rel.{Rel}
use Rattle.rel_model.specs.Relation.{Relation, IsRelation, has, relation_of, size_limit}
use Rattle.rel_model.specs.Worker.{Worker}

-- a relation within the limit
pub record IsKept (k : Relation) : Type 0 where
  -- its pairs lie within its sizes, and are increasing
  pub valid : IsRelation k
  -- its sizes are within the limit
  pub row_limit : k.rows ≤ size_limit
  pub col_limit : k.cols ≤ size_limit

-- what is kept, as a relation with these sizes; none if its sizes differ or exceed the limit
abbrev pub kept_as : Rel → Relation → Option Relation
kept_as r k = cond ((k.rows == r.rows) && (k.cols == r.cols) && nat_le r.rows size_limit && nat_le r.cols size_limit)
    (Some (relation_of r.rows r.cols (has k))) None

-- a relation stands if its root is the place of a kept one with its sizes
unfoldable pub relation_at : List Relation → Rel → Option Relation
relation_at ks r = option_and_then (kept_as r) (slice_get ks r.root)

-- the worker that keeps these: it has no table and no nodes, so its house is a fixed one and its counts stay 0
abbrev pub worker_of : List Relation → Worker
worker_of ks = record { relation = relation_at ks; quad = λ q. None; misses = 0; made = 0; house = gnil; spare = 0 }
