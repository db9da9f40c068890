-- A list of pairs turned round: transposition on lists.
use Rattle.std.specs.Prelude.{◌≡◌, ◌==◌, ◌&&◌, ℕ, List}
use Rattle.std.specs.List.{list_any}
use Rattle.rel_model.specs.Relation.{IsIncreasing}

-- the pairs turned round, in order
pub record IsTurned (pairs turned : List (ℕ × ℕ)) : Type 0 where
  -- in order
  pub increasing : IsIncreasing turned
  -- (i, j) is in it if and only if (j, i) is in the first
  pub members : (i j : ℕ) → list_any (λ p. (p.0 == i) && (p.1 == j)) turned
      ≡ list_any (λ p. (p.0 == j) && (p.1 == i)) pairs
