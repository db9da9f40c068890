-- Sorted pairs that are appended to a list.
use Rattle.std.specs.Prelude.{◌≡◌, ◌==◌, ◌++◌, ◌&&◌, ℕ, true, List}
use Rattle.std.specs.List.{list_any, AllByRecursion}
use Rattle.rel_model.specs.Relation.{IsIncreasing}
use Rattle.rel_model.specs.Cells.{Cells}

-- what is appended are the cells of a set, each once, by row and then by column
pub record Adds (f : Cells) (old new : List (ℕ × ℕ)) : Type 0 where
  -- what is appended
  pub more : List (ℕ × ℕ)
  pub items : new ≡ old ++ more
  pub increasing : IsIncreasing more
  pub sound : AllByRecursion (λ p. f p.0 p.1 ≡ true) more
  pub whole : (i j : ℕ) → f i j ≡ true → list_any (λ p. (p.0 == i) && (p.1 == j)) more ≡ true
