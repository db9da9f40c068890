-- The composition of two lists of pairs.
use Rattle.std.specs.Prelude.{◌≡◌, ◌==◌, ◌&&◌, ℕ, List, map, filter}
use Rattle.std.specs.List.{list_any}
use Rattle.rel_model.specs.Relation.{IsIncreasing}

-- the pairs (i, k) for the pairs (j, k) of a list
abbrev pub row_through : ℕ → ℕ → List (ℕ × ℕ) → List (ℕ × ℕ)
row_through i j pairs = map (λ q. (i, q.1)) (filter (λ q. q.0 == j) pairs)

-- the composed pairs of two lists, in order
pub record IsComposed (left right composed : List (ℕ × ℕ)) : Type 0 where
  -- in order
  pub increasing : IsIncreasing composed
  -- (i, k) is in it if and only if some (i, j) is in the first and (j, k) in the second
  pub members : (i k : ℕ) → list_any (λ p. (p.0 == i) && (p.1 == k)) composed
      ≡ list_any (λ p. (p.0 == i) && list_any (λ q. (q.0 == p.1) && (q.1 == k)) right) left
