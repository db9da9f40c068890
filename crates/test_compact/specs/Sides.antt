-- Squares of the sizes used in the tests.
use Rattle.std.specs.Prelude.{◌≡◌, ◌≤◌, ℕ}
use Rattle.rel_model.specs.Relation.{size_limit}
use Rattle.rel_model.specs.Roots.{tree_height}
use Rattle.rel_model.specs.Equations.{depth_of, side_of}

-- the root of a square relation with this many rows is at this depth, and its tree has no cell outside
pub record IsSide (side depth : ℕ) : Type 0 where
  pub limit : side ≤ size_limit
  pub whole : side_of (tree_height side side) ≡ side
  pub deep : depth_of (tree_height side side) ≡ depth
